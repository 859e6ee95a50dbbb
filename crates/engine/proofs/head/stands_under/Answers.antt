use mathlib.Core.Path.{◌∙◌}
use Rattle.rules.specs.declared.Value.TheVariants.{Zero, One, Blank}
use Rattle.rules.specs.Head.{stands_under}
use Rattle.engine.proofs.Derived.{equal_values}
use Rattle.engine.proofs.head.stands_under.Goals as goal

pub returns : goal.returns
unfolding stands_under
returns c =
    simp (c.eq.ensures ∙ equal_values Zero c.args.value, c.eq-2.ensures ∙ equal_values One c.args.value, c.eq-3.ensures ∙ equal_values Blank c.args.value, c.member.ensures, c.member-2.ensures, c.member-3.ensures)
