use Rattle.rules.specs.Tick.{settled}
use Rattle.engine.proofs.step.settled.Goals as goal

pub returns : goal.returns
unfolding settled
returns c = simp c.decision_after.ensures
