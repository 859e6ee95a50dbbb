use Rattle.rules.specs.Ballot.{breaks_rule}
use Rattle.engine.proofs.ballot.breaks_rule.Goals as goal

pub returns : goal.returns
unfolding breaks_rule
returns c = simp (c.obeys.ensures, c.phase_of-phase.ensures)
