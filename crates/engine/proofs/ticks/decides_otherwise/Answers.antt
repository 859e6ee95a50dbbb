use mathlib.Core.Path.{◌∙◌}
use Rattle.rules.specs.declared.Value.TheVariants.{Blank}
use Rattle.rules.specs.Tick.{decides_otherwise}
use Rattle.engine.proofs.Derived.{equal_values}
use Rattle.engine.proofs.ticks.decides_otherwise.Goals as goal

pub returns : goal.returns
unfolding decides_otherwise
returns c = simp (c.decision_is_value.ensures, c.is_written.ensures, c.eq.ensures ∙ equal_values c.args.head.value Blank, c.is_decided.ensures)
