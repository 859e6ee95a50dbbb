use mathlib.Core.Path.{sym, ◌∙◌}
use Rattle.rules.specs.Tick.{stepped}
use Rattle.engine.proofs.Listening.{phase_left}
use Rattle.engine.proofs.step.stepped.Goals as goal

pub risen-requires : goal.risen-requires
risen-requires c = phase_left _ (sym c.quorum.ensures ∙ c.if-quorum.true) c.requires

pub returns-then-quorum : goal.returns-then-quorum
unfolding stepped
returns-then-quorum c = simp (← c.quorum.ensures, c.if-quorum.true, c.risen.ensures)

pub returns-else-quorum : goal.returns-else-quorum
unfolding stepped
returns-else-quorum c = simp (← c.quorum.ensures, c.if-quorum.false)
