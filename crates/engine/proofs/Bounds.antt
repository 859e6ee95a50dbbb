-- The ballot rules of a class of phases are how many statuses stand for each value.
use Prim.Native.Nat.{ℕ, zero, suc, ◌+◌, ◌*◌, ◌≤◌, ◌<◌}
use mathlib.Core.Path.{◌≡◌, refl, sym, ap, ◌∙◌}
use mathlib.Core.List.{[], ◌∷◌}
use mathlib.Core.Bool.{Bool, false, cond, ◌&&◌}
use native.Mathlib.Decide.{ℕ_discrete}
use native.Mathlib.Omega.{arith}
use lib.Dec.{ltb, eqb}
use lib.ListN.{get_or}
use borrow.Author.Tests.{ne_eqb, eq-eqb, lt-ltb, le-ltb}
use Rattle.rules.specs.declared.Class.{Class}
use Rattle.rules.specs.declared.Class.TheVariants.{Never, First, Second, Odd, Even}
use Rattle.rules.specs.Ballot.{allowed}
use Rattle.rules.proofs.Counting.Truth.{Means, means_same, means_as, means_and, means_lt, means_eq}
use Rattle.engine.specs.Look.{statuses_of}

-- a value's code is 0, 1, 2 or none
three : (P : ℕ → Type 0) → P 0 → P 1 → P 2 → ((v : ℕ) → 2 < v → P v) → (v : ℕ) → P v
three P a b c more zero = a
three P a b c more (suc zero) = b
three P a b c more (suc (suc zero)) = c
three P a b c more (suc (suc (suc k))) = more (suc (suc (suc k))) (omega arith)

beyond : (x y z v : ℕ) → 2 < v → get_or (x ∷ y ∷ z ∷ []) v 0 ≡ 0
beyond x y z zero b = absurd (omega arith)
beyond x y z (suc zero) b = absurd (omega arith)
beyond x y z (suc (suc zero)) b = absurd (omega arith)
beyond x y z (suc (suc (suc k))) b = refl

none : (t : ℕ) → false ≡ ltb t 0
none t = sym (le-ltb t 0 (omega arith))

undecided : (t : ℕ) → eqb t 0 ≡ ltb t 1
undecided t = means_same (means_eq t 0) (means_as (λ b. omega arith) (λ e. omega arith) means_lt)

none_beyond : (x y z v t : ℕ) → 2 < v → false ≡ ltb t (get_or (x ∷ y ∷ z ∷ []) v 0)
none_beyond x y z v t b = none t ∙ ap (ltb t) (sym (beyond x y z v b))

pub statuses_tell : (c : Class) (v t : ℕ) → allowed c v t ≡ ltb t (get_or (statuses_of c) v 0)
unfolding allowed
statuses_tell Never v t = three (λ v. false ≡ ltb t (get_or (0 ∷ 0 ∷ 0 ∷ []) v 0)) (none t) (none t) (none t) (λ v. none_beyond 0 0 0 v t) v
statuses_tell First v t =
    three (λ v. ltb v 2 && eqb t 0 ≡ ltb t (get_or (1 ∷ 1 ∷ 0 ∷ []) v 0)) (undecided t) (undecided t) (none t)
    (λ v b. ap (λ (u : Bool). u && eqb t 0) (le-ltb v 2 (omega arith)) ∙ none_beyond 1 1 0 v t b) v
statuses_tell Second v t =
    three (λ v. ltb v 3 && eqb t 0 ≡ ltb t (get_or (1 ∷ 1 ∷ 1 ∷ []) v 0)) (undecided t) (undecided t) (undecided t)
    (λ v b. ap (λ (u : Bool). u && eqb t 0) (le-ltb v 3 (omega arith)) ∙ none_beyond 1 1 1 v t b) v
statuses_tell Odd v t =
    three (λ v. ltb v 2 && ltb t 2 ≡ ltb t (get_or (2 ∷ 2 ∷ 0 ∷ []) v 0)) refl refl (none t)
    (λ v b. ap (λ (u : Bool). u && ltb t 2) (le-ltb v 2 (omega arith)) ∙ none_beyond 2 2 0 v t b) v
statuses_tell Even v t =
    three (λ v. cond (eqb v 2) (eqb t 0) (ltb v 2 && ltb t 2) ≡ ltb t (get_or (2 ∷ 2 ∷ 1 ∷ []) v 0)) refl refl (undecided t)
    (λ v b. ap (λ (u : Bool). cond u (eqb t 0) (ltb v 2 && ltb t 2)) (ne_eqb v 2 (λ e. omega arith)) ∙ ap (λ (u : Bool). u && ltb t 2) (le-ltb v 2 (omega arith)) ∙ none_beyond 2 2 1 v t b) v

-- ---- the same as two bounds: on the status, and on value and status in one number

abbrev pub most_statuses : Class → ℕ
most_statuses Never = 0
most_statuses First = 1
most_statuses Second = 1
most_statuses Odd = 2
most_statuses Even = 2

abbrev pub codes_of : Class → ℕ
codes_of Never = 0
codes_of First = 4
codes_of Second = 5
codes_of Odd = 4
codes_of Even = 5

both : (a b c d : ℕ) → Means (ltb a b && ltb c d) ((a < b) × (c < d))
both a b c d = means_and (means_lt {a = a} {b = b}) (means_lt {a = c} {b = d})

below_zero : (a b t : ℕ) → Means (ltb a b && eqb t 0) ((a < b) × (t ≡ 0))
below_zero a b t = means_and (means_lt {a = a} {b = b}) (means_eq t 0)

pub two_bounds : (c : Class) (v t : ℕ) → allowed c v t ≡ ltb t (most_statuses c) && ltb (v * 2 + t) (codes_of c)
unfolding allowed
two_bounds Never v t = sym (ap (λ (b : Bool). b && ltb (v * 2 + t) 0) (le-ltb t 0 (omega arith)))
two_bounds First v t =
    means_same (means_as (λ p. (omega (arith, p.1), omega (arith, p.0, p.1))) (λ q. (omega (arith, q.0, q.1), omega (arith, q.0))) (below_zero v 2 t)) (both t 1 (v * 2 + t) 4)
two_bounds Second v t =
    means_same (means_as (λ p. (omega (arith, p.1), omega (arith, p.0, p.1))) (λ q. (omega (arith, q.0, q.1), omega (arith, q.0))) (below_zero v 3 t)) (both t 1 (v * 2 + t) 5)
two_bounds Odd v t =
    means_same (means_as (λ p. (p.1, omega (arith, p.0, p.1))) (λ q. (omega (arith, q.0, q.1), q.0)) (both v 2 t 2)) (both t 2 (v * 2 + t) 4)
two_bounds Even v t = go (ℕ_discrete v 2)
  where
    go : Dec (v ≡ 2) → cond (eqb v 2) (eqb t 0) (ltb v 2 && ltb t 2) ≡ ltb t 2 && ltb (v * 2 + t) 5
    go (yes e) =
        ap (λ (b : Bool). cond b (eqb t 0) (ltb v 2 && ltb t 2)) (eq-eqb v 2 e)
        ∙ means_same (means_as (λ p. (omega (arith, p), omega (arith, p, e))) (λ q. omega (arith, q.1, e)) (means_eq t 0)) (both t 2 (v * 2 + t) 5)
    go (no n) =
        ap (λ (b : Bool). cond b (eqb t 0) (ltb v 2 && ltb t 2)) (ne_eqb v 2 n)
        ∙ means_same (means_as (λ p. (p.1, omega (arith, p.0, p.1))) (λ q. (omega (arith, q.1, n), q.0)) (both v 2 t 2)) (both t 2 (v * 2 + t) 5)

bounds_low : (c : Class) → (most_statuses c ≤ 2) × (codes_of c ≤ 5)
bounds_low Never = (omega arith, omega arith)
bounds_low First = (omega arith, omega arith)
bounds_low Second = (omega arith, omega arith)
bounds_low Odd = (omega arith, omega arith)
bounds_low Even = (omega arith, omega arith)

-- so a blank is never decided
pub few : (c : Class) (v t : ℕ) → t < get_or (statuses_of c) v 0 → (t < 2) × (v * 2 + t < 5)
few c v t b =
    let within = (both t (most_statuses c) (v * 2 + t) (codes_of c)).0 (sym (two_bounds c v t) ∙ statuses_tell c v t ∙ lt-ltb t (get_or (statuses_of c) v 0) b) in
    (omega (arith, within.0, (bounds_low c).0), omega (arith, within.1, (bounds_low c).1))
