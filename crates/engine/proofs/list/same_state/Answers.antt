use mathlib.Core.Path.{◌∙◌}
use Rattle.rules.specs.Tick.{same_state}
use Rattle.engine.proofs.Derived.{equal_values, equal_statuses}
use Rattle.engine.proofs.list.same_state.Goals as goal

pub returns : goal.returns
unfolding same_state
returns c = simp (c.eq.ensures ∙ equal_values _ _, c.eq-2.ensures ∙ equal_statuses _ _)
