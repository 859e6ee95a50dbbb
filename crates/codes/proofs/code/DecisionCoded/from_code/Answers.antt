use native.Mathlib.Omega.{arith}
use borrow.Author.Tests.{ne_eqb}
use Rattle.rules.specs.Record.{decision_of}
use Rattle.codes.proofs.code.DecisionCoded.from_code.Goals as goal

pub returns-in-0 : goal.returns-in-0
unfolding decision_of
returns-in-0 c = simp c.in-0.is

pub returns-in-1 : goal.returns-in-1
unfolding decision_of
returns-in-1 c = simp c.in-1.is

pub returns-in_default : goal.returns-in_default
unfolding decision_of
returns-in_default c = simp (ne_eqb c.args.code 0 (omega arith), ne_eqb c.args.code 1 (omega arith))
