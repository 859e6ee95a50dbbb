use Rattle.rules.specs.Tick.{step_status}
use Rattle.engine.proofs.step.step_status.Goals as goal

pub returns-then-head-majority : goal.returns-then-head-majority
unfolding step_status
returns-then-head-majority c = simp (← c.majority.ensures, ← c.majority-2.ensures, c.if-head-majority.true)

pub returns-else-head-majority : goal.returns-else-head-majority
unfolding step_status
returns-else-head-majority c = simp (← c.majority.ensures, ← c.majority-2.ensures, c.if-head-majority.false)
