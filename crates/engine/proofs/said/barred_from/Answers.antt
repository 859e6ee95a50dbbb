use Prim.Native.Nat.{ℕ, ◌+◌, ◌*◌, ◌<◌}
use mathlib.Core.Path.{refl, ap₂, ◌∙◌}
use mathlib.Core.List.{[], ◌∷◌}
use native.Mathlib.Omega.{arith}
use Rattle.rules.specs.Ballot.{value_of, status_of}
use Rattle.rules.proofs.Meaning.Meanings.{value_low, status_low}
use Rattle.engine.proofs.Looking.{five, at_each}
use Rattle.engine.proofs.Barred.{barred_ahead, barred_here, not_zero, not_one, not_blank}
use Rattle.engine.proofs.said.barred_from.Goals as goal

pub returns-then-phase-head : goal.returns-then-phase-head
returns-then-phase-head c =
    let each = barred_ahead _ _ _ c.alone-own.ensures c.requires.phase_le_phase c.if-phase-head.true in
    five _ (each 0) (each 1) (each 2) (each 3) (each 4)

pub returns : goal.returns
unfolding value_of status_of
returns c =
    let here = c.if-phase-head.false in
    let own = c.alone-own.result in
    let code = ap₂ (λ (v t : ℕ). v * 2 + t) c.code.ensures c.code-2.ensures in
    let v : c.code.result < 3 = omega (arith, c.code.ensures, value_low c.args.head.value) in
    let t : c.code-2.result < 2 = omega (arith, c.code-2.ensures, status_low c.args.head.status) in
    let others = at_each (own ∷ own ∷ own ∷ own ∷ own ∷ own ∷ []) _ 0 (omega (arith, v, t)) in
    five _
    (c.either.ensures ∙ barred_here _ _ 0 _ _ _ _ _ c.alone-own.ensures here code (others 0) refl (not_zero _))
    (c.either-2.ensures ∙ barred_here _ _ 1 _ _ _ _ _ c.alone-own.ensures here code (others 1) refl (not_zero _))
    (c.either-3.ensures ∙ barred_here _ _ 2 _ _ _ _ _ c.alone-own.ensures here code (others 2) refl (not_one _))
    (c.either-4.ensures ∙ barred_here _ _ 3 _ _ _ _ _ c.alone-own.ensures here code (others 3) refl (not_one _))
    (c.either-5.ensures ∙ barred_here _ _ 4 _ _ _ _ _ c.alone-own.ensures here code (others 4) refl (not_blank _))
