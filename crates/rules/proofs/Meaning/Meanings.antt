-- What the tests of a ballot and of a head mean, in the propositions of Given.
use Prim.Native.Nat.{ℕ, zero, suc, ◌%◌, ◌≤◌, ◌<◌}
use mathlib.Core.Path.{◌≡◌, refl, sym, ap, subst, ◌∙◌}
use mathlib.Core.Bool.{Bool, true, false, cond, ◌&&◌, not}
use native.Mathlib.Decide.{ℕ_discrete}
use native.Mathlib.Omega.{arith}
use lib.Dec.{ltb, eqb, lit<}
use borrow.Author.Tests.{eq-eqb, ne_eqb, eqb-true}
use Rattle.rules.specs.declared.Value.{Value}
use Rattle.rules.specs.declared.Value.TheVariants.{Zero, One, Blank}
use Rattle.rules.specs.declared.Status.{Status}
use Rattle.rules.specs.declared.Status.TheVariants.{Undecided, Decided}
use Rattle.rules.specs.declared.Decision.{Decision}
use Rattle.rules.specs.declared.Decision.TheVariants.{Zero as ForZero, One as ForOne, Unwritten}
use Rattle.rules.specs.declared.Class.{Class}
use Rattle.rules.specs.declared.Class.TheVariants.{Odd, Even}
use Rattle.rules.specs.declared.Head.{Head}
use Rattle.rules.specs.Ballot.{value_code, value_of, status_code, status_of, same_value, class_of, allowed, obeys, not_heads}
use Rattle.rules.specs.Heard.{member, heard}
use Rattle.rules.specs.Head.{decision_code, decision_for, is_decided, is_written, heard_as, stands_under, decision_fits, sets_fit, phase_fits, sound}
use Rattle.rules.specs.Record.{decision_of}
use Rattle.rules.specs.Given.{Heads, Obeys, phase_1, phase_2, odd_from_3, even_from_4, Hears, Sound}
use Rattle.rules.proofs.Counting.Truth.{Means, never, means_self, means_as, means_and, means_not, means_then, means_twice, means_lt, means_le, means_eq, means_code}
use Rattle.rules.proofs.Counting.Sets.{member_none, means_none, means_any, means_within, means_apart}

-- ---- codes

pub value_low : (v : Value) → value_code v < 3
value_low Zero = omega arith
value_low One = omega arith
value_low Blank = omega arith

pub status_low : (s : Status) → status_code s < 2
status_low Undecided = omega arith
status_low Decided = omega arith

pub value_back : (v : Value) → value_of (value_code v) ≡ v
unfolding value_of
value_back Zero = refl
value_back One = refl
value_back Blank = refl

pub status_back : (s : Status) → status_of (status_code s) ≡ s
unfolding status_of
status_back Undecided = refl
status_back Decided = refl

pub decision_back : (d : Decision) → decision_of (decision_code d) ≡ d
unfolding decision_of
decision_back ForZero = refl
decision_back ForOne = refl
decision_back Unwritten = refl

pub means_value : (v w : Value) → Means (same_value v w) (v ≡ w)
means_value = means_code value_code value_of value_back

pub means_status : (s t : Status) → Means (eqb (status_code s) (status_code t)) (s ≡ t)
means_status = means_code status_code status_of status_back

pub means_decided : (h : Head) → Means (is_decided h) (h.status ≡ Decided)
means_decided h = means_status h.status Decided

pub means_written : (h : Head) → Means (is_written h) (h.decision ≡ Unwritten → ⊥)
means_written h = go h.decision
  where
    go : (d : Decision) → Means (ltb (decision_code d) 2) (d ≡ Unwritten → ⊥)
    go ForZero = (λ e q. absurd (let z : ◌≡◌ {A = ℕ} 0 1 = cc in omega arith), λ f. refl)
    go ForOne = (λ e q. absurd (let z : ◌≡◌ {A = ℕ} 0 1 = cc in omega arith), λ f. refl)
    go Unwritten = (λ e. never e, λ f. absurd (f refl))

pub means_for : (d : Decision) (v : Value) → Means (eqb (decision_code d) (value_code v)) (d ≡ decision_for v)
means_for d v = subst (λ (c : ℕ). Means (eqb (decision_code d) c) (d ≡ decision_for v)) (code v) (means_code decision_code decision_of decision_back d (decision_for v))
  where
    code : (v : Value) → decision_code (decision_for v) ≡ value_code v
    code Zero = refl
    code One = refl
    code Blank = refl

-- ---- the ballot rules

pub means_heads : (n : ℕ) → Means (not_heads n) (Heads n → ⊥)
unfolding not_heads
means_heads n = means_not (means_and (means_le 2 n) (means_le n 32))

pub heads : (n : ℕ) → not_heads n ≡ false → Heads n
unfolding not_heads
heads n e = (means_twice (means_and (means_le 2 n) (means_le n 32))).0 (ap not e)

class_odd : (p : ℕ) → 3 ≤ p → p % 2 ≡ 1 → class_of p ≡ Odd
unfolding class_of
class_odd p h o = simp (ne_eqb p 0 (λ q. omega arith), ne_eqb p 1 (λ q. omega arith), ne_eqb p 2 (λ q. omega arith), eq-eqb (p % 2) 1 o)

class_even : (p : ℕ) → 3 ≤ p → p % 2 ≡ 0 → class_of p ≡ Even
unfolding class_of
class_even p h o = simp (ne_eqb p 0 (λ q. omega arith), ne_eqb p 1 (λ q. omega arith), ne_eqb p 2 (λ q. omega arith), ne_eqb (p % 2) 1 (λ q. omega arith))

module _ (v s : ℕ) where
  means_never : Means (allowed (class_of 0) v s) (Obeys 0 v s)
  unfolding allowed class_of
  means_never = (λ e. never e, back)
    where
      back : Obeys 0 v s → false ≡ true
      back (phase_1 p a b) = absurd (omega arith)
      back (phase_2 p a b) = absurd (omega arith)
      back (odd_from_3 p a b c) = absurd (omega arith)
      back (even_from_4 p a b c d) = absurd (omega arith)

  means_first : Means (allowed (class_of 1) v s) (Obeys 1 v s)
  unfolding allowed class_of
  means_first = means_as (λ r. phase_1 refl r.0 r.1) back (means_and means_lt (means_eq s 0))
    where
      back : Obeys 1 v s → (v < 2) × (s ≡ 0)
      back (phase_1 p a b) = (a, b)
      back (phase_2 p a b) = absurd (omega arith)
      back (odd_from_3 p a b c) = absurd (omega arith)
      back (even_from_4 p a b c d) = absurd (omega arith)

  means_second : Means (allowed (class_of 2) v s) (Obeys 2 v s)
  unfolding allowed class_of
  means_second = means_as (λ r. phase_2 refl r.0 r.1) back (means_and means_lt (means_eq s 0))
    where
      back : Obeys 2 v s → (v < 3) × (s ≡ 0)
      back (phase_1 p a b) = absurd (omega arith)
      back (phase_2 p a b) = (a, b)
      back (odd_from_3 p a b c) = absurd (omega arith)
      back (even_from_4 p a b c d) = absurd (omega arith)

  means_odd : (p : ℕ) → 3 ≤ p → p % 2 ≡ 1 → Means (allowed Odd v s) (Obeys p v s)
  unfolding allowed
  means_odd p h o = means_as (λ r. odd_from_3 h o r.0 r.1) back (means_and means_lt means_lt)
    where
      back : Obeys p v s → (v < 2) × (s < 2)
      back (phase_1 e a b) = absurd (omega arith)
      back (phase_2 e a b) = absurd (omega arith)
      back (odd_from_3 e a b c) = (b, c)
      back (even_from_4 e a b c d) = absurd (omega arith)

  means_even : (p : ℕ) → 3 ≤ p → p % 2 ≡ 0 → Means (allowed Even v s) (Obeys p v s)
  unfolding allowed
  means_even p h o = go (eqb v 2) refl
    where
      four : 4 ≤ p
      four = omega arith

      back : Obeys p v s → (v < 3) × (s < 2) × (v ≡ 2 → s ≡ 0)
      back (phase_1 e a b) = absurd (omega arith)
      back (phase_2 e a b) = absurd (omega arith)
      back (odd_from_3 e a b c) = absurd (omega arith)
      back (even_from_4 e a b c d) = (b, c, d)

      go : (t : Bool) → eqb v 2 ≡ t → Means (cond t (eqb s 0) (ltb v 2 && ltb s 2)) (Obeys p v s)
      go true e =
          let two = eqb-true v 2 e in
          means_as (λ z. even_from_4 four o (omega arith) (omega arith) (λ q. z)) (λ r. (back r).2 two) (means_eq s 0)
      go false e =
          means_as
          (λ r. even_from_4 four o (omega (arith, r.0)) r.1 (λ q. absurd (omega (arith, r.0))))
          (λ r. (low (back r).0 (borrow.Author.Tests.eqb-false v 2 e), (back r).1))
          (means_and means_lt means_lt)
        where
          low : v < 3 → (v ≡ 2 → ⊥) → v < 2
          low a f = omega (arith, f)

pub means_obeys : (p v s : ℕ) → Means (obeys p v s) (Obeys p v s)
unfolding obeys
means_obeys zero v s = means_never v s
means_obeys (suc zero) v s = means_first v s
means_obeys (suc (suc zero)) v s = means_second v s
means_obeys (suc (suc (suc q))) v s = go (ℕ_discrete (suc (suc (suc q)) % 2) 1)
  where
    p : ℕ
    p = suc (suc (suc q))

    as_class : (k : Class) → class_of p ≡ k → Means (allowed k v s) (Obeys p v s) → Means (allowed (class_of p) v s) (Obeys p v s)
    as_class k e m = subst (λ (k : Class). Means (allowed k v s) (Obeys p v s)) (sym e) m

    go : Dec (p % 2 ≡ 1) → Means (allowed (class_of p) v s) (Obeys p v s)
    go (yes o) = as_class Odd (class_odd p (omega arith) o) (means_odd v s p (omega arith) o)
    go (no o) = let z : p % 2 ≡ 0 = omega (arith, o) in as_class Even (class_even p (omega arith) z) (means_even v s p (omega arith) z)

-- ---- soundness

pub means_decision : (h : Head) → Means (decision_fits h) ((h.status ≡ Decided → (h.decision ≡ decision_for h.value) × (h.decision ≡ Unwritten → ⊥)) × ((h.decision ≡ Unwritten → ⊥) → 3 ≤ h.phase))
unfolding decision_fits
means_decision h =
    means_and
    (means_then (means_decided h) (means_as (λ r. (r.1, r.0)) (λ r. (r.1, r.0)) (means_and (means_written h) (means_for h.decision h.value))))
    (means_then (means_written h) (means_le 3 h.phase))

pub means_stands : (h : Head) (s : ℕ) (w : Value) → Means (stands_under h s w) ((v : Value) → Hears h v s → v ≡ w)
unfolding stands_under
means_stands h s w = means_as each (λ f. (f Zero, (f One, f Blank))) (means_and (under Zero) (means_and (under One) (under Blank)))
  where
    under : (v : Value) → Means (heard_as h s w v) (Hears h v s → v ≡ w)
    under v = means_then (means_self (member s (heard h v))) (means_value v w)

    each : (Hears h Zero s → Zero ≡ w) × ((Hears h One s → One ≡ w) × (Hears h Blank s → Blank ≡ w)) → (v : Value) → Hears h v s → v ≡ w
    each r Zero = r.0
    each r One = r.1.0
    each r Blank = r.1.1

pub means_phase : (h : Head) → Means (phase_fits h) ((h.phase % 2 ≡ 1 → (s : ℕ) → Hears h Blank s → ⊥) × (h.phase % 2 ≡ 0 → (s t : ℕ) → Hears h Zero s → Hears h One t → ⊥))
unfolding phase_fits
means_phase h =
    means_and
    (means_then (means_eq (h.phase % 2) 1) (means_none h.blanks))
    (means_then (means_eq (h.phase % 2) 0) (means_as (λ f s t p q. f ((s, p), (t, q))) (λ f r. f r.0.0 r.1.0 r.0.1 r.1.1) (means_not (means_and (means_any h.zeros) (means_any h.ones)))))

-- nobody below 32 is in both sets
abbrev Apart : ℕ → ℕ → Type 0
Apart a b = (s : ℕ) → s < 32 → member s a ≡ true → member s b ≡ true → ⊥

abbrev Within : ℕ → ℕ → Type 0
Within n x = (s : ℕ) → member s x ≡ true → s < n

abbrev Disjoint : Head → Type 0
Disjoint h = (v w : Value) (s : ℕ) → Hears h v s → Hears h w s → v ≡ w

-- the sets, in a vote of at most 32 heads
pub means_sets : (h : Head) → h.n ≤ 32 → Means (sets_fit h) (Disjoint h × ((v : Value) → Within h.n (heard h v)))
unfolding sets_fit
means_sets h few =
    means_as there back
    (means_and
    (means_and (means_apart h.zeros h.ones) (means_and (means_apart h.zeros h.blanks) (means_apart h.ones h.blanks)))
    (means_and (means_within h.n h.zeros) (means_and (means_within h.n h.ones) (means_within h.n h.blanks))))
  where
    Parts : Type 0
    Parts =
        (Apart h.zeros h.ones × (Apart h.zeros h.blanks × Apart h.ones h.blanks))
        × (Within h.n h.zeros × (Within h.n h.ones × Within h.n h.blanks))

    there : Parts → Disjoint h × ((v : Value) → Within h.n (heard h v))
    there r = (meet, each)
      where
        each : (v : Value) → Within h.n (heard h v)
        each Zero = r.1.0
        each One = r.1.1.0
        each Blank = r.1.1.1

        low : (v : Value) (s : ℕ) → Hears h v s → s < 32
        low v s p = omega (arith, each v s p)

        meet : Disjoint h
        meet Zero Zero s p q = refl
        meet Zero One s p q = absurd (r.0.0 s (low Zero s p) p q)
        meet Zero Blank s p q = absurd (r.0.1.0 s (low Zero s p) p q)
        meet One Zero s p q = absurd (r.0.0 s (low Zero s q) q p)
        meet One One s p q = refl
        meet One Blank s p q = absurd (r.0.1.1 s (low One s p) p q)
        meet Blank Zero s p q = absurd (r.0.1.0 s (low Zero s q) q p)
        meet Blank One s p q = absurd (r.0.1.1 s (low One s q) q p)
        meet Blank Blank s p q = refl

    back : Disjoint h × ((v : Value) → Within h.n (heard h v)) → Parts
    back r = ((apart_of Zero One (lit< tt), (apart_of Zero Blank (lit< tt), apart_of One Blank (lit< tt))), (r.1 Zero, (r.1 One, r.1 Blank)))
      where
        apart_of : (v w : Value) → value_code v < value_code w → Apart (heard h v) (heard h w)
        apart_of v w l s b p q = omega (arith, ap value_code (r.0 v w s p q))

pub means_sound : (h : Head) → Means (sound h) (Sound h)
unfolding sound
means_sound h = go (not_heads h.n) refl
  where
    go : (t : Bool) → not_heads h.n ≡ t
        → Means (not t && (ltb h.own h.n && (obeys h.phase (value_code h.value) (status_code h.status) && (decision_fits h && (sets_fit h && (phase_fits h && stands_under h h.own h.value)))))) (Sound h)
    go true e = (λ q. never q, λ x. absurd ((means_heads h.n).0 e x.heads))
    go false e =
        let few = heads h.n e in
        means_as
        (λ r.
        record {
          heads = few;
          own = r.0;
          rules = r.1.0;
          decided = r.1.1.0.0;
          decision = r.1.1.0.1;
          disjoint = r.1.1.1.0.0;
          members = r.1.1.1.0.1;
          odd = r.1.1.1.1.0.0;
          even = r.1.1.1.1.0.1;
          own_heard = r.1.1.1.1.1;
        })
        (λ x. (x.own, (x.rules, ((x.decided, x.decision), ((x.disjoint, x.members), ((x.odd, x.even), x.own_heard))))))
        (means_and means_lt
        (means_and (means_obeys h.phase (value_code h.value) (status_code h.status))
        (means_and (means_decision h)
        (means_and (means_sets h few.1) (means_and (means_phase h) (means_stands h h.own h.value))))))

-- a head with empty sets hears nobody
pub hears_nobody : (h : Head) → h.zeros ≡ 0 → h.ones ≡ 0 → h.blanks ≡ 0 → (v : Value) (s : ℕ) → Hears h v s → ⊥
hears_nobody h z o b v s m = never (sym (member_none s) ∙ ap (member s) (sym (empty v)) ∙ m)
  where
    empty : (v : Value) → heard h v ≡ 0
    empty Zero = z
    empty One = o
    empty Blank = b
