use mathlib.Core.Path.{sym, ◌∙◌}
use borrow.Author.Tests.{eqb-true}
use native.Mathlib.Omega.{arith}
use Rattle.rules.proofs.Meaning.Meanings.{means_sound}
use Rattle.engine.proofs.Listening.{list_accepted}
use Rattle.engine.proofs.Gathering.{fits_sound, looked_next, looked_all, list_0, moved_by, shown_gathered, empty_heard}
use Rattle.engine.proofs.ticks.listened.Goals as goal

pub returns-then-is_empty : goal.returns-then-is_empty
returns-then-is_empty c = list_accepted _ _ _ (list_0 _ _ (λ j b. absurd (omega (arith, b, eqb-true _ _ (sym c.is_empty.ensures ∙ c.if-is_empty.true))))) (empty_heard _ _ ((means_sound _).0 c.requires) (eqb-true _ _ (sym c.is_empty.ensures ∙ c.if-is_empty.true)))

pub looked-look-requires : goal.looked-look-requires
looked-look-requires c = fits_sound _ c.requires

pub returns : goal.returns
returns c =
    let all = looked_all _ _ _ c.looked-look.ensures c.if-look-ballots.false in
    list_accepted _ _ _ (list_0 _ _ (λ j b. all.0.1 j (omega (arith, all.1))))
    (c.shown.ensures
    ∙ shown_gathered _ _ _ all.0 all.1 _
    (c.moved.ensures
    ∙ moved_by _ _ _ all.0 all.1 (fits_sound _ c.requires)))

pub offence-requires-clause-at_value : goal.offence-requires-clause-at_value
offence-requires-clause-at_value c = looked_next _ _ _ c.looked-look.ensures
