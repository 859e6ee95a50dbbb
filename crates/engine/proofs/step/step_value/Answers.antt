use Rattle.rules.specs.Tick.{step_value}
use Rattle.rules.specs.Choice.{bit_with}
use borrow.Author.Tests.{eq-eqb, ne_eqb}
use Rattle.engine.proofs.step.step_value.Goals as goal

pub returns-then-head-eq1 : goal.returns-then-head-eq1
unfolding step_value bit_with
returns-then-head-eq1 c = simp (eq-eqb _ _ c.if-head-eq1.true, c.bit_with.ensures, c.majority.ensures, c.majority-then-head-eq1.ensures)

pub returns-else-head-eq1 : goal.returns-else-head-eq1
unfolding step_value bit_with
returns-else-head-eq1 c = simp (ne_eqb _ _ c.if-head-eq1.false, c.bit_with-else-head-eq1.ensures, c.from_code.ensures)
