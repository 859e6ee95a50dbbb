use mathlib.Core.Path.{refl, sym, ap, ◌∙◌}
use borrow.Author.Tests.{lt-ltb, le-ltb}
use Rattle.rules.specs.Number.{first_that_applies}
use Rattle.rules.specs.Tick.{tick_of, tick_index, tick_number, offender, tick_given}
use Rattle.rules.proofs.Meaning.OneAnswer.{refused_not_0}
use Rattle.std.proofs.lemmas.Result.{err_from_is_err_and}
use Rattle.engine.proofs.Listening.{list_refused, list_heard}
use Rattle.engine.proofs.ticks.tick.Goals as goal

pub returns-then-not-sound : goal.returns-then-not-sound
unfolding tick_of tick_index tick_number offender first_that_applies
returns-then-not-sound c = ap tick_given c.refused.ensures ∙ simp (← c.sound.ensures, c.if-not-sound.true)

pub returns-then-coin-gt1 : goal.returns-then-coin-gt1
unfolding tick_of tick_index tick_number offender first_that_applies
returns-then-coin-gt1 c = ap tick_given c.refused-then-coin-gt1.ensures ∙ simp (← c.sound.ensures, c.if-not-sound.false, lt-ltb _ _ c.if-coin-gt1.true)

pub returns-then-not_list : goal.returns-then-not_list
unfolding tick_of tick_index tick_number offender first_that_applies
returns-then-not_list c = ap tick_given c.refused-then-not_list.ensures ∙ simp (← c.sound.ensures, c.if-not-sound.false, le-ltb _ _ c.if-coin-gt1.false, ← c.not_list.ensures, c.if-not_list.true)

pub returns-in_err-gathered : goal.returns-in_err-gathered
returns-in_err-gathered c =
    let p = err_from_is_err_and c.from_residual.result c.from_residual.ensures.1 in
    rw (p.1, p.2)
    (list_refused _ _ _ _ (sym c.sound.ensures ∙ c.if-not-sound.false) (le-ltb _ _ c.if-coin-gt1.false) (sym c.not_list.ensures ∙ c.if-not_list.false) c.in_err-gathered.ensures (refused_not_0 _))

pub returns : goal.returns
returns c = c.ended.ensures ∙ list_heard _ _ _ _ (sym c.sound.ensures ∙ c.if-not-sound.false) (le-ltb _ _ c.if-coin-gt1.false) (sym c.not_list.ensures ∙ c.if-not_list.false) c.in_ok-gathered.ensures refl
