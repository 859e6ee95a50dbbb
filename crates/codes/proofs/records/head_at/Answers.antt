use borrow.Author.Tests.{eq-eqb}
use Rattle.rules.specs.Record.{head_at}
use Rattle.codes.proofs.records.head_at.Goals as goal

pub returns : goal.returns
unfolding head_at
returns c = let whole = c.in-Some.ensures.cases in simp (eq-eqb _ _ whole.long, whole.same, c.four_bytes_of-3.ensures, c.four_bytes_of-2.ensures, c.four_bytes_of.ensures, c.phase_of.ensures, c.from_code.ensures, c.from_code-2.ensures, c.from_code-3.ensures)
