-- Laws of the tests on the numbers below k.
use Prim.Native.Nat.{ℕ, zero, suc, ◌+◌, ◌≤◌, ◌<◌}
use mathlib.Core.Path.{◌≡◌, refl, sym, ap, ap₂, subst, ◌∙◌}
use mathlib.Core.Bool.{Bool, true, false, cond, ◌||◌, true≢false}
use native.Mathlib.Decide.{dec_lt}
use native.Mathlib.Omega.{arith}
use lib.Dec.{lit<}
use borrow.Author.Tests.{ltb-true, ltb-false, lt-ltb, le-ltb}
use Rattle.rules.specs.Below.{first, some, count}
use Rattle.rules.proofs.Counting.Truth.{Means}

-- ---- the first

pub first_le : (k : ℕ) (p : ℕ → Bool) → first k p ≤ k
unfolding first
first_le zero p = omega arith
first_le (suc k) p = go (p 0) (first_le k (λ i. p (suc i)))
  where
    go : (t : Bool) → first k (λ i. p (suc i)) ≤ k → cond t 0 (suc (first k (λ i. p (suc i)))) ≤ suc k
    go true h = omega arith
    go false h = omega arith

pub first_holds : (k : ℕ) (p : ℕ → Bool) → first k p < k → p (first k p) ≡ true
unfolding first
first_holds zero p h = absurd (omega arith)
first_holds (suc k) p h = go (p 0) refl h (first_holds k (λ i. p (suc i)))
  where
    q : ℕ → Bool
    q i = p (suc i)

    go : (t : Bool) → p 0 ≡ t → cond t 0 (suc (first k q)) < suc k → (first k q < k → q (first k q) ≡ true) → p (cond t 0 (suc (first k q))) ≡ true
    go true e l f = e
    go false e l f = f (omega arith)

pub first_before : (k : ℕ) (p : ℕ → Bool) (j : ℕ) → j < first k p → p j ≡ false
unfolding first
first_before zero p j h = absurd (omega arith)
first_before (suc k) p zero h = go (p 0) refl h
  where
    go : (t : Bool) → p 0 ≡ t → 0 < cond t 0 (suc (first k (λ i. p (suc i)))) → p 0 ≡ false
    go true e l = absurd (omega arith)
    go false e l = e
first_before (suc k) p (suc j) h = go (p 0) h (first_before k (λ i. p (suc i)) j)
  where
    go : (t : Bool) → suc j < cond t 0 (suc (first k (λ i. p (suc i)))) → (j < first k (λ i. p (suc i)) → p (suc j) ≡ false) → p (suc j) ≡ false
    go true l f = absurd (omega arith)
    go false l f = f (omega arith)

-- where p holds at i and at none before it, i is the first
pub first_at : (k : ℕ) (p : ℕ → Bool) (i : ℕ) → ((j : ℕ) → j < i → p j ≡ false) → p i ≡ true → i < k → first k p ≡ i
first_at k p i none e h = go (dec_lt (first k p) i) (dec_lt i (first k p))
  where
    go : Dec (first k p < i) → Dec (i < first k p) → first k p ≡ i
    go (yes l) d = absurd (true≢false (sym (first_holds k p (omega arith)) ∙ none (first k p) l))
    go (no l) (yes g) = absurd (true≢false (sym e ∙ first_before k p i g))
    go (no l) (no g) = omega arith

-- where p holds at none, the first is k
pub first_none : (k : ℕ) (p : ℕ → Bool) → ((j : ℕ) → j < k → p j ≡ false) → first k p ≡ k
first_none k p none = go (dec_lt (first k p) k)
  where
    go : Dec (first k p < k) → first k p ≡ k
    go (yes l) = absurd (true≢false (sym (first_holds k p l) ∙ none (first k p) l))
    go (no l) = omega (arith, first_le k p)

-- one more number without p
pub none_more : {i : ℕ} {p : ℕ → Bool} → ((j : ℕ) → j < i → p j ≡ false) → p i ≡ false → (j : ℕ) → j < i + 1 → p j ≡ false
none_more {i} {p} none e j h = go (dec_lt j i)
  where
    go : Dec (j < i) → p j ≡ false
    go (yes l) = none j l
    go (no l) = let q : i ≡ j = omega arith in subst (λ (m : ℕ). p m ≡ false) q e

-- ---- some

pub some_here : (k : ℕ) (p : ℕ → Bool) (i : ℕ) → i < k → p i ≡ true → some k p ≡ true
some_here k p i h e = go (dec_lt (first k p) k)
  where
    go : Dec (first k p < k) → some k p ≡ true
    go (yes l) = lt-ltb (first k p) k l
    go (no l) = absurd (true≢false (sym e ∙ first_before k p i (omega arith)))

pub some_not : (k : ℕ) (p : ℕ → Bool) → ((j : ℕ) → j < k → p j ≡ false) → some k p ≡ false
some_not k p none = le-ltb (first k p) k (omega (arith, first_none k p none))

pub not_some : (k : ℕ) (p : ℕ → Bool) → some k p ≡ false → (j : ℕ) → j < k → p j ≡ false
not_some k p e j h = first_before k p j (omega (arith, ltb-false (first k p) k e))

pub means_some : {k : ℕ} {p : ℕ → Bool} {P : ℕ → Type 0} → ((i : ℕ) → Means (p i) (P i)) → Means (some k p) ((i : ℕ) × (i < k) × P i)
means_some {k} {p} m = (
  λ e. let l = ltb-true (first k p) k e in (first k p, l, (m (first k p)).0 (first_holds k p l)),
  λ r. some_here k p r.0 r.1 ((m r.0).1 r.2),
)

-- one number more
pub some_more : (k : ℕ) (p : ℕ → Bool) → some (k + 1) p ≡ some k p || p k
some_more k p = go (dec_lt (first k p) k) (p k) refl
  where
    go : Dec (first k p < k) → (t : Bool) → p k ≡ t → some (k + 1) p ≡ some k p || t
    go (yes l) t e =
        let s = lt-ltb (first k p) k l in
        some_here (k + 1) p (first k p) (omega arith) (first_holds k p l) ∙ sym (ap (λ (u : Bool). u || t) s)
    go (no l) true e = some_here (k + 1) p k (omega arith) e ∙ sym (or_right (some k p))
      where
        or_right : (u : Bool) → u || true ≡ true
        or_right true = refl
        or_right false = refl
    go (no l) false e =
        let none : (j : ℕ) → j < k → p j ≡ false = λ j b. first_before k p j (omega arith) in
        some_not (k + 1) p (none_more none e) ∙ sym (ap (λ (u : Bool). u || false) (some_not k p none))

-- ---- counting

pub count_same : (k : ℕ) (p q : ℕ → Bool) → ((s : ℕ) → s < k → p s ≡ q s) → count k p ≡ count k q
unfolding count
count_same zero p q h = refl
count_same (suc k) p q h = ap₂ (λ (c : ℕ) (t : Bool). c + cond t 1 0) (count_same k p q (λ s l. h s (omega arith))) (h k (omega arith))

pub count_low : (k : ℕ) (p : ℕ → Bool) → count (suc k) p ≡ cond (p 0) 1 0 + count k (λ s. p (suc s))
unfolding count
count_low zero p = omega arith
count_low (suc k) p = let i = count_low k p in omega arith

pub count_le : (k : ℕ) (p : ℕ → Bool) → count k p ≤ k
unfolding count
count_le zero p = omega arith
count_le (suc k) p = let i = count_le k p in let e = go (p k) in omega arith
  where
    go : (a : Bool) → cond a 1 0 ≤ 1
    go true = lit< tt
    go false = omega arith

-- ---- searching from the front

abbrev pub NoneBefore : ℕ → (ℕ → Bool) → Type 0
NoneBefore i p = (j : ℕ) → j < i → p j ≡ false

pub search_starts : (p : ℕ → Bool) → NoneBefore 0 p
search_starts p j h = absurd (omega arith)

-- it ends at i where p holds, or at the end where it held nowhere
pub search_finds : (k i : ℕ) (p : ℕ → Bool) → NoneBefore i p → p i ≡ true → i < k → i ≡ first k p
search_finds k i p none e h = sym (first_at k p i none e h)

pub search_ends : (k i : ℕ) (p : ℕ → Bool) → NoneBefore i p → i ≤ k → k ≤ i → i ≡ first k p
search_ends k i p none l h =
    let e : i ≡ k = omega arith in
    e ∙ sym (first_none k p (λ j b. none j (omega arith)))
