-- Laws of counting the numbers below k at which a test holds.
use Prim.Native.Nat.{ℕ, zero, suc, ◌+◌, ◌*◌, ◌≤◌, ◌<◌}
use mathlib.Core.Path.{◌≡◌, refl, sym, ap}
use mathlib.Core.Bool.{Bool, true, false, cond, ◌&&◌, ◌||◌}
use native.Mathlib.Decide.{dec_lt}
use native.Mathlib.Omega.{arith}
use lib.Dec.{leb, lit<}
use Rattle.rules.specs.Below.{count}
use Rattle.rules.specs.Heard.{set_of, size}
use Rattle.rules.proofs.Counting.Truth.{Means, never, means_as, means_le, and_left, and_right}
use Rattle.rules.proofs.Counting.Below.{count_same, count_le}
use Rattle.rules.proofs.Counting.Sets.{member_set_of}

-- of a test that holds only below n, as many are counted below n as below any k from n on
pub count_within : {n : ℕ} (k : ℕ) (p : ℕ → Bool) → n ≤ k → ((s : ℕ) → p s ≡ true → s < n) → count k p ≡ count n p
unfolding count
count_within {n} zero p low only = let e : n ≡ 0 = omega arith in ap (λ (m : ℕ). count m p) (sym e)
count_within {n} (suc k) p low only = go (dec_lt k n) (p k) refl (λ l. count_within k p l only)
  where
    go : Dec (k < n) → (t : Bool) → p k ≡ t → (n ≤ k → count k p ≡ count n p) → count (suc k) p ≡ count n p
    go (yes l) t e below = let same : suc k ≡ n = omega arith in ap (λ (m : ℕ). count m p) same
    go (no l) true e below = absurd (l (only k e))
    go (no l) false e below = rw e (omega (arith, below (omega arith)))

-- of two tests that never hold together, the count of either is the sum of their counts
pub count_either : (k : ℕ) (p q : ℕ → Bool) → ((s : ℕ) → p s ≡ true → q s ≡ true → ⊥) → count k (λ s. p s || q s) ≡ count k p + count k q
unfolding count
count_either zero p q apart = refl
count_either (suc k) p q apart = go (p k) refl (q k) refl (count_either k p q apart)
  where
    go : (s : Bool) → p k ≡ s → (t : Bool) → q k ≡ t → count k (λ s. p s || q s) ≡ count k p + count k q
        → count k (λ s. p s || q s) + cond (s || t) 1 0 ≡ (count k p + cond s 1 0) + (count k q + cond t 1 0)
    go true d true e below = absurd (apart k d e)
    go true d false e below = omega arith
    go false d true e below = omega arith
    go false d false e below = omega arith

-- where at least one is counted, the test holds somewhere
found : (k : ℕ) (p : ℕ → Bool) → 1 ≤ count k p → (s : ℕ) × (s < k) × (p s ≡ true)
unfolding count
found zero p h = absurd (omega arith)
found (suc k) p h = go (p k) refl h (found k p)
  where
    go : (t : Bool) → p k ≡ t → 1 ≤ count k p + cond t 1 0 → (1 ≤ count k p → (s : ℕ) × (s < k) × (p s ≡ true)) → (s : ℕ) × (s < suc k) × (p s ≡ true)
    go true e h below = (k, omega arith, e)
    go false e h below = let r = below (omega arith) in (r.0, omega (arith, r.1), r.2)

-- where the test holds somewhere, at least one is counted
counted : (k : ℕ) (p : ℕ → Bool) (s : ℕ) → s < k → p s ≡ true → 1 ≤ count k p
unfolding count
counted zero p s h e = absurd (omega arith)
counted (suc k) p s h e = go (dec_lt s k) (λ l. counted k p s l e)
  where
    go : Dec (s < k) → (s < k → 1 ≤ count k p) → 1 ≤ count k p + cond (p k) 1 0
    go (yes l) below = omega (arith, below l)
    go (no l) below = let last : s ≡ k = omega arith in rw (← last, e) (omega arith)

-- at least one is counted exactly where the test holds somewhere: both of these
pub means_count : (k : ℕ) (p : ℕ → Bool) → Means (leb 1 (count k p)) ((s : ℕ) × (s < k) × (p s ≡ true))
means_count k p = means_as (found k p) (λ r. counted k p r.0 r.1 r.2) (means_le 1 (count k p))

-- a test that holds only where another does holds no more often
pub count_more : (k : ℕ) (p q : ℕ → Bool) → ((s : ℕ) → s < k → p s ≡ true → q s ≡ true) → count k p ≤ count k q
unfolding count
count_more zero p q h = omega arith
count_more (suc k) p q h = let i = count_more k p q (λ s l. h s (omega arith)) in let e = go (p k) (q k) (h k (omega arith)) in omega arith
  where
    go : (a b : Bool) → (a ≡ true → b ≡ true) → cond a 1 0 ≤ cond b 1 0
    go true true f = lit< tt
    go true false f = never (f refl)
    go false true f = omega arith
    go false false f = omega arith

-- a test that always holds
pub count_all : (n : ℕ) (p : ℕ → Bool) → ((s : ℕ) → s < n → p s ≡ true) → count n p ≡ n
unfolding count
count_all zero p all = refl
count_all (suc n) p all = rw (all n (omega arith)) (omega (arith, count_all n p (λ s l. all s (omega arith))))

-- how many are in the set of a test
pub size_set_of : (p : ℕ → Bool) → size (set_of 32 p) ≡ count 32 p
unfolding size
size_set_of p = count_same 32 _ p (λ s l. member_set_of 32 p s l)

-- ---- majorities

both_counts : (k : ℕ) (p q : ℕ → Bool) → count k (λ s. p s || q s) + count k (λ s. p s && q s) ≡ count k p + count k q
unfolding count
both_counts zero p q = refl
both_counts (suc k) p q = let i = both_counts k p q in let e = go (p k) (q k) in omega arith
  where
    go : (a b : Bool) → cond (a || b) 1 0 + cond (a && b) 1 0 ≡ cond a 1 0 + cond b 1 0
    go true b = refl
    go false true = refl
    go false false = refl

-- two majorities meet
pub meet : (n : ℕ) (p q : ℕ → Bool) → n < count n p * 2 → n < count n q * 2 → (s : ℕ) × (s < n) × (p s ≡ true) × (q s ≡ true)
meet n p q hp hq =
    let u = both_counts n p q in
    let l = count_le n (λ s. p s || q s) in
    let r = found n (λ s. p s && q s) (omega arith) in
    (r.0, r.1, and_left (p r.0) _ r.2, and_right (p r.0) _ r.2)
