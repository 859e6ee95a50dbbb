use Rattle.std.proofs.Common.{rules, arith, ◌≡◌, suc, ◌+◌}
use Rattle.std.proofs.lemmas.List.{append-nil}
use Rattle.file.specs.Report.{head_lines}
use Rattle.run.specs.Writing.{with_word}
use Rattle.run.proofs.Texts.{word_word}
use Rattle.run.proofs.text.Text.push_head_lines.Goals as goal

pub loop-s-init : goal.loop-s-init
unfolding head_lines with_word
loop-s-init c = search (rules, append-nil)

pub loop-s-preserved : goal.loop-s-preserved
unfolding head_lines
loop-s-preserved c =
    let more : c.loop-s.s + 1 ≡ suc c.loop-s.s = omega arith in
    rw more (search (rules, word_word))
