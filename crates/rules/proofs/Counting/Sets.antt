-- Laws of sets of head numbers: members, the set of a test, unions, sizes.
use Prim.Native.Nat.{ℕ, zero, suc, ◌+◌, ◌-◌, ◌*◌, ◌/◌, ◌%◌, ◌^◌, ◌≤◌, ◌<◌, min, max}
use mathlib.Core.Path.{◌≡◌, refl, sym, ap, ap₂, subst, ◌∙◌}
use mathlib.Core.Bool.{Bool, true, false, cond, ◌&&◌, ◌||◌, not}
use native.Mathlib.Nat.{pow-suc, one-mul}
use native.Mathlib.Numerals.{one-add}
use native.Mathlib.Decide.{dec_lt, ℕ_discrete}
use native.Mathlib.Omega.{arith}
use lib.Dec.{eqb, lit<, eqb-zero-suc, eqb-suc-zero, eqb-suc-suc}
use lib.Pow.{shl_exact, shl-shr, shr-shr, shr_le, shr_mono}
use lib.Bits.{bit_and, bit_or, and_step, or_step, and_lt, or_shr, and_shr}
use lib.Count.{ones, ones_in, ones_step}
use borrow.Author.Tests.{eq-eqb, ne_eqb, eqb-true, eqb-false, lt-ltb, ltb-true}
use Rattle.rules.specs.Below.{some, count}
use Rattle.rules.specs.Heard.{member, set_of, size, apart, within}
use Rattle.rules.proofs.Counting.Truth.{Means, never, and_always, means_self, means_as, means_and, means_not}
use Rattle.rules.proofs.Counting.Below.{count_same, count_low, count_le, not_some, means_some}

-- ---- members

pub member_low : (x : ℕ) → member 0 x ≡ eqb (x % 2) 1
member_low x = let e : x / 2 ^ 0 ≡ x = omega arith in ap (λ (y : ℕ). eqb (y % 2) 1) e

pub member_suc : (s x : ℕ) → member (suc s) x ≡ member s (x / 2)
member_suc s x = ap (λ (y : ℕ). eqb (y % 2) 1) (ap (λ (k : ℕ). x / 2 ^ k) (sym (one-add s)) ∙ sym (shr-shr x 1 s))

pub member_none : (s : ℕ) → member s 0 ≡ false
member_none zero = refl
member_none (suc s) = member_suc s 0 ∙ member_none s

half_lt : (k x : ℕ) → x < 2 ^ suc k → x / 2 < 2 ^ k
half_lt k x h = let p = pow-suc 2 k in omega arith

-- no member is at or above n
pub member_high : (n s x : ℕ) → x < 2 ^ n → n ≤ s → member s x ≡ false
member_high zero s x h l = let e : x ≡ 0 = omega arith in ap (member s) e ∙ member_none s
member_high (suc n) zero x h l = absurd (omega arith)
member_high (suc n) (suc s) x h l = member_suc s x ∙ member_high n s (x / 2) (half_lt n x h) (omega arith)

-- what holds of the four pairs of digits holds of two digits
digits : (P : ℕ → ℕ → Type 0) → P 0 0 → P 0 1 → P 1 0 → P 1 1 → (a b : ℕ) → a < 2 → b < 2 → P a b
digits P p q r t zero zero h k = p
digits P p q r t zero (suc zero) h k = q
digits P p q r t zero (suc (suc b)) h k = absurd (omega arith)
digits P p q r t (suc zero) zero h k = r
digits P p q r t (suc zero) (suc zero) h k = t
digits P p q r t (suc zero) (suc (suc b)) h k = absurd (omega arith)
digits P p q r t (suc (suc a)) b h k = absurd (omega arith)

same_digit : (a b : ℕ) → a < 2 → b < 2 → eqb a 1 ≡ eqb b 1 → a ≡ b
same_digit = digits (λ a b. eqb a 1 ≡ eqb b 1 → a ≡ b) (λ e. refl) (λ e. never e) (λ e. never (sym e)) (λ e. refl)

-- sets of the same members are equal
pub set_same : (k x y : ℕ) → x < 2 ^ k → y < 2 ^ k → ((s : ℕ) → s < k → member s x ≡ member s y) → x ≡ y
set_same zero x y hx hy e = omega arith
set_same (suc k) x y hx hy e =
    let high : x / 2 ≡ y / 2 = set_same k (x / 2) (y / 2) (half_lt k x hx) (half_lt k y hy) (λ s h. sym (member_suc s x) ∙ e (suc s) (omega arith) ∙ member_suc s y) in
    let low : x % 2 ≡ y % 2 = same_digit (x % 2) (y % 2) (omega arith) (omega arith) (sym (member_low x) ∙ e 0 (omega arith) ∙ member_low y) in
    omega arith

-- a set that is not empty has a member
pub some_member : (k x : ℕ) → x < 2 ^ k → (x ≡ 0 → ⊥) → (s : ℕ) × (member s x ≡ true)
some_member zero x h n = absurd (n (omega arith))
some_member (suc k) x h n = go (eqb (x % 2) 1) refl (some_member k (x / 2) (half_lt k x h))
  where
    go : (t : Bool) → eqb (x % 2) 1 ≡ t → ((x / 2 ≡ 0 → ⊥) → (s : ℕ) × (member s (x / 2) ≡ true)) → (s : ℕ) × (member s x ≡ true)
    go true e f = (0, member_low x ∙ e)
    go false e f = let r = f (λ z. let o = eqb-false (x % 2) 1 e in n (omega (arith, o))) in (suc r.0, member_suc r.0 x ∙ r.1)

-- ---- the set of a test

cond_le : (t : Bool) → cond t 1 0 ≤ 1
cond_le true = lit< tt
cond_le false = omega arith

pub set_of_lt : (k : ℕ) (p : ℕ → Bool) → set_of k p < 2 ^ k
unfolding set_of
set_of_lt zero p = lit< tt
set_of_lt (suc k) p = let i = set_of_lt k (λ s. p (suc s)) in let q = pow-suc 2 k in let c = cond_le (p 0) in omega arith

pub member_set_of : (k : ℕ) (p : ℕ → Bool) (s : ℕ) → s < k → member s (set_of k p) ≡ p s
unfolding set_of
member_set_of zero p s h = absurd (omega arith)
member_set_of (suc k) p zero h = member_low (cond (p 0) 1 0 + 2 * set_of k (λ s. p (suc s))) ∙ go (p 0)
  where
    go : (t : Bool) → eqb ((cond t 1 0 + 2 * set_of k (λ s. p (suc s))) % 2) 1 ≡ t
    go true = let e : (1 + 2 * set_of k (λ s. p (suc s))) % 2 ≡ 1 = omega arith in ap (λ (y : ℕ). eqb y 1) e
    go false = let e : (0 + 2 * set_of k (λ s. p (suc s))) % 2 ≡ 0 = omega arith in ap (λ (y : ℕ). eqb y 1) e
member_set_of (suc k) p (suc s) h =
    let c = cond_le (p 0) in
    let e : (cond (p 0) 1 0 + 2 * set_of k (λ s. p (suc s))) / 2 ≡ set_of k (λ s. p (suc s)) = omega arith in
    member_suc s (cond (p 0) 1 0 + 2 * set_of k (λ s. p (suc s))) ∙ ap (member s) e ∙ member_set_of k (λ s. p (suc s)) s (omega arith)

pub means_member : {P : Type 0} (k x s : ℕ) (p : ℕ → Bool) → x ≡ set_of k p → s < k → Means (p s) P → Means (member s x) P
means_member {P} k x s p e h m = subst (λ (t : Bool). Means t P) (sym (ap (member s) e ∙ member_set_of k p s h)) m

-- a set is the set of what its members are
pub set_of_is : (k x : ℕ) (p : ℕ → Bool) → x < 2 ^ k → ((s : ℕ) → s < k → member s x ≡ p s) → x ≡ set_of k p
set_of_is k x p h e = set_same k x (set_of k p) h (set_of_lt k p) (λ s l. e s l ∙ sym (member_set_of k p s l))

-- ---- unions and intersections

member_digits : (x s : ℕ) → x / 2 ^ s % 2 < 2
member_digits x s = omega arith

or_digits : (a b : ℕ) → a < 2 → b < 2 → eqb (max a b) 1 ≡ eqb a 1 || eqb b 1
or_digits = digits (λ a b. eqb (max a b) 1 ≡ eqb a 1 || eqb b 1) refl refl refl refl

and_digits : (a b : ℕ) → a < 2 → b < 2 → eqb (min a b) 1 ≡ eqb a 1 && eqb b 1
and_digits = digits (λ a b. eqb (min a b) 1 ≡ eqb a 1 && eqb b 1) refl refl refl refl

pub member_or : (s a b : ℕ) → member s (bit_or a b) ≡ member s a || member s b
member_or s a b =
    let e : bit_or (a / 2 ^ s) (b / 2 ^ s) % 2 ≡ max (a / 2 ^ s % 2) (b / 2 ^ s % 2) = omega (arith, or_step (a / 2 ^ s) (b / 2 ^ s)) in
    ap (λ (y : ℕ). eqb (y % 2) 1) (or_shr a b s) ∙ ap (λ (y : ℕ). eqb y 1) e ∙ or_digits _ _ (member_digits a s) (member_digits b s)

pub member_and : (s a b : ℕ) → member s (bit_and a b) ≡ member s a && member s b
member_and s a b =
    let e : bit_and (a / 2 ^ s) (b / 2 ^ s) % 2 ≡ min (a / 2 ^ s % 2) (b / 2 ^ s % 2) = omega (arith, and_step (a / 2 ^ s) (b / 2 ^ s)) in
    ap (λ (y : ℕ). eqb (y % 2) 1) (and_shr a b s) ∙ ap (λ (y : ℕ). eqb y 1) e ∙ and_digits _ _ (member_digits a s) (member_digits b s)

-- the set of one head
pub member_one : (a s : ℕ) → member s (2 ^ a) ≡ eqb a s
member_one zero zero = refl
member_one zero (suc s) = member_suc s 1 ∙ member_none s ∙ sym (eqb-zero-suc s)
member_one (suc a) zero = let p = pow-suc 2 a in let e : 2 ^ suc a % 2 ≡ 0 = omega arith in member_low (2 ^ suc a) ∙ ap (λ (y : ℕ). eqb y 1) e ∙ sym (eqb-suc-zero a)
member_one (suc a) (suc s) = let p = pow-suc 2 a in let e : 2 ^ suc a / 2 ≡ 2 ^ a = omega arith in member_suc s (2 ^ suc a) ∙ ap (member s) e ∙ member_one a s ∙ sym (eqb-suc-suc a s)

-- who is not in a set, as the machine's `!` gives it: of k digits, those that are not set
pub member_rest : (k s x : ℕ) → x < 2 ^ k → s < k → member s (2 ^ k - 1 - x) ≡ not (member s x)
member_rest zero s x h l = absurd (omega arith)
member_rest (suc k) zero x h l = member_low (2 ^ suc k - 1 - x) ∙ go (ℕ_discrete (x % 2) 1) ∙ ap not (sym (member_low x))
  where
    go : Dec (x % 2 ≡ 1) → eqb ((2 ^ suc k - 1 - x) % 2) 1 ≡ not (eqb (x % 2) 1)
    go (yes o) = let p = pow-suc 2 k in let e : (2 ^ suc k - 1 - x) % 2 ≡ 0 = omega arith in rw (e, o) refl
    go (no o) = let p = pow-suc 2 k in let z : x % 2 ≡ 0 = omega (arith, o) in let e : (2 ^ suc k - 1 - x) % 2 ≡ 1 = omega arith in rw (e, z) refl
member_rest (suc k) (suc s) x h l =
    let p = pow-suc 2 k in
    let e : (2 ^ suc k - 1 - x) / 2 ≡ 2 ^ k - 1 - x / 2 = omega arith in
    member_suc s (2 ^ suc k - 1 - x) ∙ ap (member s) e ∙ member_rest k s (x / 2) (half_lt k x h) (omega arith) ∙ ap not (sym (member_suc s x))

-- a set is no less than the set of one of its members
pub member_le : (s x : ℕ) → member s x ≡ true → 2 ^ s ≤ x
member_le s x m = elim (dec_lt x (2 ^ s)) [ yes l ↦ never (sym (member_high s s x l (omega arith)) ∙ m) | no l ↦ omega (arith, l) ]

-- a set without one of its members
pub member_less : (a s x : ℕ) → member a x ≡ true → member s (x - 2 ^ a) ≡ member s x && not (eqb a s)
member_less zero zero x m =
    let o : x % 2 ≡ 1 = eqb-true (x % 2) 1 (sym (member_low x) ∙ m) in
    let e : (x - 2 ^ 0) % 2 ≡ 0 = omega arith in
    member_low (x - 2 ^ 0) ∙ rw (e, m) refl
member_less zero (suc s) x m =
    let o : x % 2 ≡ 1 = eqb-true (x % 2) 1 (sym (member_low x) ∙ m) in
    let e : (x - 2 ^ 0) / 2 ≡ x / 2 = omega arith in
    member_suc s (x - 2 ^ 0) ∙ ap (member s) e ∙ sym (member_suc s x) ∙ sym (rw (eqb-zero-suc s) (and_always (member (suc s) x)))
member_less (suc a) zero x m =
    let p = pow-suc 2 a in let q = member_le (suc a) x m in
    let e : (x - 2 ^ suc a) % 2 ≡ x % 2 = omega arith in
    member_low (x - 2 ^ suc a) ∙ ap (λ (y : ℕ). eqb y 1) e ∙ sym (member_low x) ∙ sym (rw (eqb-suc-zero a) (and_always (member 0 x)))
member_less (suc a) (suc s) x m =
    let p = pow-suc 2 a in let q = member_le (suc a) x m in
    let e : (x - 2 ^ suc a) / 2 ≡ x / 2 - 2 ^ a = omega arith in
    member_suc s (x - 2 ^ suc a) ∙ ap (member s) e ∙ member_less a s (x / 2) (sym (member_suc a x) ∙ m)
    ∙ ap₂ (λ (t u : Bool). t && not u) (sym (member_suc s x)) (sym (eqb-suc-suc a s))

-- what the shift 1 << s gives
pub shifted : (w s : ℕ) → s < w → (1 * 2 ^ s) % 2 ^ w ≡ 2 ^ s
shifted w s l = shl_exact 1 s w (lit< tt) (omega arith) ∙ one-mul (2 ^ s)

-- ---- sizes and the tests of soundness

digit : (d : ℕ) → d < 2 → cond (eqb d 1) 1 0 ≡ d
digit zero h = refl
digit (suc zero) h = refl
digit (suc (suc d)) h = absurd (omega arith)

ones_count : (k x : ℕ) → x < 2 ^ k → ones x ≡ count k (λ s. member s x)
unfolding ones ones_in count
ones_count zero x h = let z : x ≡ 0 = omega arith in ap ones z
ones_count (suc k) x h =
    let high : count k (λ s. member s (x / 2)) ≡ count k (λ s. member (suc s) x) = count_same k _ _ (λ s l. sym (member_suc s x)) in
    let low : x % 2 ≡ cond (member 0 x) 1 0 = sym (ap (λ (t : Bool). cond t 1 0) (member_low x) ∙ digit (x % 2) (omega arith)) in
    ones_step x ∙ ap₂ (λ (a b : ℕ). a + b) low (ones_count k (x / 2) (half_lt k x h) ∙ high) ∙ sym (count_low k (λ s. member s x))

pub size_ones : (x : ℕ) → x < 2 ^ 32 → ones x ≡ size x
unfolding size
size_ones x h = ones_count 32 x h

pub size_le : (x : ℕ) → size x ≤ 32
unfolding size
size_le x = count_le 32 (λ s. member s x)

-- `a & b == 0` where no head is in both
pub apart_and : (a b : ℕ) → a < 2 ^ 32 → b < 2 ^ 32 → eqb (bit_and a b) 0 ≡ apart a b
unfolding apart
apart_and a b ha hb = go (some 32 (λ s. member s a && member s b)) refl
  where
    both : Means (some 32 (λ s. member s a && member s b)) ((s : ℕ) × (s < 32) × (member s (bit_and a b) ≡ true))
    both = means_some (λ s. (λ e. member_and s a b ∙ e, λ e. sym (member_and s a b) ∙ e))

    go : (t : Bool) → some 32 (λ s. member s a && member s b) ≡ t → eqb (bit_and a b) 0 ≡ not t
    go true e =
        let r = both.0 e in
        ne_eqb _ _ (λ z. never (sym (member_none r.0) ∙ sym (ap (member r.0) z) ∙ r.2))
    go false e =
        eq-eqb _ _
        (set_same 32 (bit_and a b) 0 (and_lt 32 a b ha hb) (lit< tt) (λ s l. member_and s a b ∙ not_some 32 (λ s. member s a && member s b) e s l ∙ sym (member_none s)))

grows : (x : ℕ) → x < 2 ^ x
grows zero = lit< tt
grows (suc x) = let i = grows x in let p = pow-suc 2 x in omega arith

pub means_none : (x : ℕ) → Means (eqb x 0) ((s : ℕ) → member s x ≡ true → ⊥)
means_none x = (λ e s m. never (sym (member_none s) ∙ ap (member s) (sym (eqb-true x 0 e)) ∙ m), λ f. go (eqb x 0) refl f)
  where
    go : (t : Bool) → eqb x 0 ≡ t → ((s : ℕ) → member s x ≡ true → ⊥) → eqb x 0 ≡ true
    go true e f = e
    go false e f = let r = some_member x x (grows x) (eqb-false x 0 e) in absurd (f r.0 r.1)

pub means_any : (x : ℕ) → Means (not (eqb x 0)) ((s : ℕ) × (member s x ≡ true))
means_any x = go (eqb x 0) refl
  where
    go : (t : Bool) → eqb x 0 ≡ t → Means (not t) ((s : ℕ) × (member s x ≡ true))
    go true e = (λ q. never q, λ r. absurd ((means_none x).0 e r.0 r.1))
    go false e = (λ q. some_member x x (grows x) (eqb-false x 0 e), λ r. refl)

pub means_within : (n x : ℕ) → Means (within n x) ((s : ℕ) → member s x ≡ true → s < n)
means_within n x = (
  λ e s m. elim (dec_lt s n) [ yes l ↦ l | no l ↦ never (sym (member_high n s x (ltb-true x (2 ^ n) e) (omega arith)) ∙ m) ],
  λ f. elim (dec_lt x (2 ^ n)) [ yes l ↦ lt-ltb x (2 ^ n) l | no l ↦ absurd (above f (omega arith)) ],
)
  where
    above : ((s : ℕ) → member s x ≡ true → s < n) → 2 ^ n ≤ x → ⊥
    above f h =
        let high : x / 2 ^ n < 2 ^ x = le_lt (shr_le x n) (grows x) in
        let r = some_member x (x / 2 ^ n) high (λ z. omega (arith, shr_mono n h, shr_self n)) in
        let e : member (n + r.0) x ≡ true = ap (λ (y : ℕ). eqb (y % 2) 1) (sym (shr-shr x n r.0)) ∙ r.1 in
        omega (arith, f (n + r.0) e)
      where
        le_lt : {a b c : ℕ} → a ≤ b → b < c → a < c
        le_lt p q = omega arith

        shr_self : (k : ℕ) → 2 ^ k / 2 ^ k ≡ 1
        shr_self k = ap (λ (y : ℕ). y / 2 ^ k) (sym (one-mul (2 ^ k))) ∙ shl-shr 1 k

pub means_apart : (a b : ℕ) → Means (apart a b) ((s : ℕ) → s < 32 → member s a ≡ true → member s b ≡ true → ⊥)
unfolding apart
means_apart a b =
    means_as (λ f s l p q. f (s, l, (p, q))) (λ f r. f r.0 r.1 r.2.0 r.2.1)
    (means_not (means_some (λ s. means_and (means_self (member s a)) (means_self (member s b)))))
