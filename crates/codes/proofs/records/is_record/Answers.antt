use borrow.Author.Tests.{eq-eqb, ne_eqb}
use Rattle.rules.specs.Record.{is_record}
use Rattle.codes.proofs.records.is_record.Goals as goal

pub returns-in_default : goal.returns-in_default
unfolding is_record
returns-in_default c = simp (ne_eqb _ _ c.in_default.ensures.cases)

pub returns : goal.returns
unfolding is_record
returns c = let whole = c.in-Some.ensures.cases in simp (eq-eqb _ _ whole.long, whole.same)
