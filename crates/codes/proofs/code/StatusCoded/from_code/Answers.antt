use native.Mathlib.Omega.{arith}
use borrow.Author.Tests.{ne_eqb}
use Rattle.rules.specs.Ballot.{status_of}
use Rattle.codes.proofs.code.StatusCoded.from_code.Goals as goal

pub returns-in-0 : goal.returns-in-0
unfolding status_of
returns-in-0 c = simp c.in-0.is

pub returns-in_default : goal.returns-in_default
unfolding status_of
returns-in_default c = simp (ne_eqb c.args.code 0 (omega arith))
