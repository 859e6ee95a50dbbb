use Rattle.std.proofs.Common.{◌≡◌}
use Rattle.file.specs.Report.{head_lines}
use Rattle.run.specs.Writing.{with_word}
use Rattle.run.proofs.text.Text.push_head_lines.Given as goal

-- the lines of the heads before s are written
abbrev pub invariant-loop-s : goal.invariant-loop-s
invariant-loop-s l = l.self ≡ with_word l.initial.self (head_lines l.s l.heads)
