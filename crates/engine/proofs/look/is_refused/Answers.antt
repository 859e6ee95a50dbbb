use mathlib.Core.Path.{sym, ap, ◌∙◌}
use mathlib.Core.Bool.{Bool, ◌&&◌, not}
use Rattle.rules.specs.Heard.{member}
use Rattle.rules.proofs.Counting.Sets.{member_or}
use Rattle.engine.proofs.look.is_refused.Goals as goal

pub returns-then-has : goal.returns-then-has
returns-then-has c = ap not c.has-then-has.ensures ∙ sym (ap (λ (t : Bool). t && not (member c.args.sender c.args.said)) (sym (member_or c.args.sender c.args.barred c.args.listed) ∙ sym c.has.ensures ∙ c.if-has.true))

pub returns-else-has : goal.returns-else-has
returns-else-has c = c.if-has.false ∙ sym (ap (λ (t : Bool). t && not (member c.args.sender c.args.said)) (sym (member_or c.args.sender c.args.barred c.args.listed) ∙ sym c.has.ensures ∙ c.if-has.false))
