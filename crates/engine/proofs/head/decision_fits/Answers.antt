use Rattle.rules.specs.Head.{decision_fits}
use Rattle.engine.proofs.head.decision_fits.Goals as goal

pub returns : goal.returns
unfolding decision_fits
returns c = simp (c.is_written.ensures, c.decision_is_value.ensures, c.is_decided.ensures)
