use mathlib.Core.Path.{sym, ap, ◌∙◌}
use Rattle.rules.specs.Tick.{tick_given}
use Rattle.engine.proofs.Listening.{ends_9, ends_10, ends_11, ends_0}
use Rattle.engine.proofs.ticks.ended.Goals as goal

pub returns-then-both_heard : goal.returns-then-both_heard
returns-then-both_heard c = ap tick_given c.refused.ensures ∙ ends_9 _ _ _ (sym c.both_heard.ensures ∙ c.if-both_heard.true)

pub returns-then-phases_end : goal.returns-then-phases_end
returns-then-phases_end c = ap tick_given c.refused-then-phases_end.ensures ∙ ends_10 _ _ _ (sym c.both_heard.ensures ∙ c.if-both_heard.false) (sym c.phases_end.ensures ∙ c.if-phases_end.true)

pub returns-then-decides_otherwise : goal.returns-then-decides_otherwise
returns-then-decides_otherwise c = ap tick_given c.refused-then-decides_otherwise.ensures ∙ ends_11 _ _ _ _ (sym c.both_heard.ensures ∙ c.if-both_heard.false) (sym c.phases_end.ensures ∙ c.if-phases_end.false) c.stepped-end.ensures (sym c.decides_otherwise.ensures ∙ c.if-decides_otherwise.true)

pub returns : goal.returns
returns c = ends_0 _ _ _ _ (sym c.both_heard.ensures ∙ c.if-both_heard.false) (sym c.phases_end.ensures ∙ c.if-phases_end.false) c.stepped-end.ensures _ (sym c.decides_otherwise.ensures ∙ c.if-decides_otherwise.false) c.settled.ensures
