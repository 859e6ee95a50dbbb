use Rattle.std.proofs.Common.{ℕ, List, sym, ap, ◌∙◌, arith}
use Rattle.run.specs.Text.{text_of}
use Rattle.run.specs.Writing.{with_word}
use Rattle.run.proofs.Texts.{bytes_of, word_put}
use Rattle.run.proofs.text.Text.push.Goals as goal

pub invariant_of-self : goal.invariant_of-self
invariant_of-self c =
    let put = word_put _ _ _ _ _ c.self.invariant.1 c.min-count.ensures c.copy_from_slice.ensures.after in
    (omega arith, put ∙ ap text_of (sym (bytes_of _ _ put)))

pub returns : goal.returns
returns c =
    bytes_of _ _ (word_put _ _ _ _ _ c.self.invariant.1 c.min-count.ensures c.copy_from_slice.ensures.after)
    ∙ ap (λ (l : List ℕ). with_word l c.args.word.now) c.self.view_is
