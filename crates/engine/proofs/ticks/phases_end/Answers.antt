use Rattle.rules.specs.Tick.{phases_end}
use Rattle.engine.proofs.Listening.{last_phase}
use Rattle.engine.proofs.ticks.phases_end.Goals as goal

pub returns : goal.returns
unfolding phases_end
returns c = simp (c.quorum.ensures, last_phase c.args.head.phase)
