-- One ballot more: how the sets of senders and the highest phase grow.
use Prim.Native.Nat.{ℕ, zero, suc, ◌+◌, ◌^◌, ◌≤◌, ◌<◌}
use mathlib.Core.Path.{◌≡◌, refl, sym, ap, ap₂, fun_ext, ◌∙◌}
use mathlib.Core.List.{List}
use mathlib.Core.Bool.{Bool, true, false, cond, ◌&&◌, ◌||◌}
use mathlib.Core.Logic.{◌⊎◌, inl, inr}
use native.Mathlib.Decide.{dec_lt}
use native.Mathlib.Omega.{arith}
use lib.Dec.{ltb, eqb, lit<}
use lib.Pow.{pow-lt}
use lib.Bits.{bit_or, or_lt}
use borrow.Author.Tests.{lt-ltb, le-ltb, eq-eqb, ne_eqb, ltb-true, ltb-false}
use Rattle.rules.specs.declared.Head.{Head}
use Rattle.rules.specs.Below.{some}
use Rattle.rules.specs.Ballot.{ballot_at}
use Rattle.rules.specs.Heard.{set_of}
use Rattle.rules.proofs.Counting.Truth.{means_same, means_as, means_and, means_or, means_eq, means_lt, and_always, and_never, or_never}
use Rattle.rules.proofs.Counting.Below.{some_not, some_more, means_some}
use Rattle.rules.proofs.Counting.Sets.{member_none, member_one, member_or, member_set_of, set_of_lt, set_of_is}
use Rattle.engine.specs.Look.{alone, code, highest, is_of, is_said, is_late, listed_in, said_in, late_in}

-- ---- sets of a test

pub one_alone : (a : ℕ) → a < 32 → 2 ^ a ≡ alone a
one_alone a b = set_of_is 32 (2 ^ a) _ (pow-lt b) (λ s l. member_one a s)

pub nobody : (p : ℕ → Bool) → ((s : ℕ) → p s ≡ false) → 0 ≡ set_of 32 p
nobody p none = set_of_is 32 0 p (lit< tt) (λ s l. member_none s ∙ sym (none s))

pub set_as : {p q : ℕ → Bool} → ((s : ℕ) → p s ≡ q s) → set_of 32 p ≡ set_of 32 q
set_as f = ap (set_of 32) (fun_ext f)

pub or_sets : (p q : ℕ → Bool) → bit_or (set_of 32 p) (set_of 32 q) ≡ set_of 32 (λ s. p s || q s)
or_sets p q =
    set_of_is 32 (bit_or (set_of 32 p) (set_of 32 q)) _ (or_lt 32 (set_of 32 p) (set_of 32 q) (set_of_lt 32 p) (set_of_lt 32 q))
    (λ s l. member_or s (set_of 32 p) (set_of 32 q) ∙ ap₂ (λ (a b : Bool). a || b) (member_set_of 32 p s l) (member_set_of 32 q s l))

-- with one more index: those of whom it holds there are added, or nobody is, or nobody was before
pub set_grows : (i : ℕ) (p : ℕ → ℕ → Bool)
    → bit_or (set_of 32 (λ s. some i (p s))) (set_of 32 (λ s. p s i)) ≡ set_of 32 (λ s. some (i + 1) (p s))
set_grows i p = or_sets (λ s. some i (p s)) (λ s. p s i) ∙ set_as (λ s. sym (some_more i (p s)))

pub set_stays : (i : ℕ) (p : ℕ → ℕ → Bool) → ((s : ℕ) → p s i ≡ false)
    → set_of 32 (λ s. some i (p s)) ≡ set_of 32 (λ s. some (i + 1) (p s))
set_stays i p none =
    set_as (λ s. sym (some_more i (p s) ∙ ap (λ (t : Bool). some i (p s) || t) (none s) ∙ or_never (some i (p s))))

pub set_begins : (i : ℕ) (p : ℕ → ℕ → Bool) → ((s j : ℕ) → j < i → p s j ≡ false)
    → set_of 32 (λ s. p s i) ≡ set_of 32 (λ s. some (i + 1) (p s))
set_begins i p none = set_as (λ s. sym (some_more i (p s) ∙ ap (λ (t : Bool). t || p s i) (some_not i (p s) (none s))))

and_first : (a b : Bool) → a ≡ true → a && b ≡ b
and_first a b e = ap (λ (t : Bool). t && b) e

and_not : (a b : Bool) → a ≡ false → a && b ≡ false
and_not a b e = ap (λ (t : Bool). t && b) e

-- ---- the highest phase

module _ (h : Head) (l : List ℕ) where
  highest_next : (k : ℕ)
      → highest h l (k + 1) ≡ cond (ltb (highest h l k) (ballot_at l k).phase) (ballot_at l k).phase (highest h l k)
  unfolding highest
  highest_next k = ap (highest h l) next
    where
      next : k + 1 ≡ suc k
      next = omega arith

  pub highest_stays : (k : ℕ) → (ballot_at l k).phase ≤ highest h l k → highest h l k ≡ highest h l (k + 1)
  highest_stays k b =
      sym (highest_next k ∙ ap (λ (t : Bool). cond t (ballot_at l k).phase (highest h l k)) (le-ltb (highest h l k) (ballot_at l k).phase b))

  pub highest_rises : (k : ℕ) → highest h l k < (ballot_at l k).phase → (ballot_at l k).phase ≡ highest h l (k + 1)
  highest_rises k b =
      sym (highest_next k ∙ ap (λ (t : Bool). cond t (ballot_at l k).phase (highest h l k)) (lt-ltb (highest h l k) (ballot_at l k).phase b))

  -- none is above it, the head neither
  pub highest_most : (k j : ℕ) → j < k → (ballot_at l j).phase ≤ highest h l k
  unfolding highest
  highest_most zero j b = absurd (omega arith)
  highest_most (suc k) j b = go (ltb (highest h l k) (ballot_at l k).phase) refl (dec_lt j k) (highest_most k j)
    where
      go : (t : Bool) → ltb (highest h l k) (ballot_at l k).phase ≡ t → Dec (j < k)
          → (j < k → (ballot_at l j).phase ≤ highest h l k)
          → (ballot_at l j).phase ≤ cond t (ballot_at l k).phase (highest h l k)
      go true e (yes c) f = omega (arith, f c, ltb-true (highest h l k) (ballot_at l k).phase e)
      go false e (yes c) f = f c
      go true e (no c) f = let q : j ≡ k = omega arith in omega (arith, ap (λ (m : ℕ). (ballot_at l m).phase) q)
      go false e (no c) f =
          let q : j ≡ k = omega arith in
          omega (arith, ap (λ (m : ℕ). (ballot_at l m).phase) q, ltb-false (highest h l k) (ballot_at l k).phase e)

  pub highest_least : (k : ℕ) → h.phase ≤ highest h l k
  unfolding highest
  highest_least zero = omega arith
  highest_least (suc k) = go (ltb (highest h l k) (ballot_at l k).phase) refl (highest_least k)
    where
      go : (t : Bool) → ltb (highest h l k) (ballot_at l k).phase ≡ t → h.phase ≤ highest h l k
          → h.phase ≤ cond t (ballot_at l k).phase (highest h l k)
      go true e b = omega (arith, ltb-true (highest h l k) (ballot_at l k).phase e)
      go false e b = b

  pub highest_within : (k q : ℕ) → h.phase ≤ q → ((j : ℕ) → j < k → (ballot_at l j).phase ≤ q) → highest h l k ≤ q
  unfolding highest
  highest_within zero q b f = b
  highest_within (suc k) q b f =
      go (ltb (highest h l k) (ballot_at l k).phase) (highest_within k q b (λ j m. f j (omega arith)))
    where
      go : (t : Bool) → highest h l k ≤ q → cond t (ballot_at l k).phase (highest h l k) ≤ q
      go true e = f k (omega arith)
      go false e = e

-- ---- one more ballot, at index i

module _ (l : List ℕ) (i p : ℕ) where
  -- of the phase
  pub listed_grows : (ballot_at l i).phase ≡ p
      → bit_or (listed_in l i p) (alone (ballot_at l i).sender) ≡ listed_in l (i + 1) p
  listed_grows e =
      ap (bit_or (listed_in l i p)) (set_as (λ s. sym (and_first (eqb (ballot_at l i).phase p) (eqb (ballot_at l i).sender s) (eq-eqb (ballot_at l i).phase p e))))
      ∙ set_grows i (is_of l p)

  pub said_grows : (ballot_at l i).phase ≡ p
      → bit_or (said_in l i p (code (ballot_at l i))) (alone (ballot_at l i).sender) ≡ said_in l (i + 1) p (code (ballot_at l i))
  said_grows e =
      ap (bit_or (said_in l i p (code (ballot_at l i)))) (set_as same)
      ∙ set_grows i (is_said l p (code (ballot_at l i)))
    where
      same : (s : ℕ) → eqb (ballot_at l i).sender s ≡ is_said l p (code (ballot_at l i)) s i
      same s =
          sym
          (and_first (eqb (ballot_at l i).phase p) _ (eq-eqb (ballot_at l i).phase p e)
          ∙ ap (λ (t : Bool). eqb (ballot_at l i).sender s && t) (eq-eqb (code (ballot_at l i)) (code (ballot_at l i)) refl)
          ∙ and_always (eqb (ballot_at l i).sender s))

  pub said_other : (c : ℕ) → (code (ballot_at l i) ≡ c → ⊥) → said_in l i p c ≡ said_in l (i + 1) p c
  said_other c n =
      set_stays i (is_said l p c)
      (λ s. ap (λ (t : Bool). eqb (ballot_at l i).phase p && (eqb (ballot_at l i).sender s && t)) (ne_eqb (code (ballot_at l i)) c n) ∙ ap (λ (t : Bool). eqb (ballot_at l i).phase p && t) (and_never (eqb (ballot_at l i).sender s)) ∙ and_never (eqb (ballot_at l i).phase p))

  pub late_stays : p ≤ (ballot_at l i).phase → late_in l i p ≡ late_in l (i + 1) p
  late_stays b =
      set_stays i (is_late l p) (λ s. and_not (ltb (ballot_at l i).phase p) _ (le-ltb (ballot_at l i).phase p b))

  -- of a lower one
  pub listed_stays : (ballot_at l i).phase < p → listed_in l i p ≡ listed_in l (i + 1) p
  listed_stays b =
      set_stays i (is_of l p) (λ s. and_not (eqb (ballot_at l i).phase p) _ (ne_eqb (ballot_at l i).phase p (λ q. omega arith)))

  pub said_stays : (ballot_at l i).phase < p → (c : ℕ) → said_in l i p c ≡ said_in l (i + 1) p c
  said_stays b c =
      set_stays i (is_said l p c) (λ s. and_not (eqb (ballot_at l i).phase p) _ (ne_eqb (ballot_at l i).phase p (λ q. omega arith)))

  pub late_grows : (ballot_at l i).phase < p → bit_or (late_in l i p) (alone (ballot_at l i).sender) ≡ late_in l (i + 1) p
  late_grows b =
      ap (bit_or (late_in l i p)) (set_as (λ s. sym (and_first (ltb (ballot_at l i).phase p) (eqb (ballot_at l i).sender s) (lt-ltb (ballot_at l i).phase p b))))
      ∙ set_grows i (is_late l p)

-- of a higher phase q than the highest before, p
module _ (l : List ℕ) (i p q : ℕ) (most :
    (j : ℕ) → j < i → (ballot_at l j).phase ≤ p) (above : p < q) (e : (ballot_at l i).phase ≡ q) where
  other : (j : ℕ) → j < i → eqb (ballot_at l j).phase q ≡ false
  other j b = ne_eqb (ballot_at l j).phase q (λ z. omega (arith, most j b))

  pub listed_begins : alone (ballot_at l i).sender ≡ listed_in l (i + 1) q
  listed_begins =
      set_as (λ s. sym (and_first (eqb (ballot_at l i).phase q) (eqb (ballot_at l i).sender s) (eq-eqb (ballot_at l i).phase q e)))
      ∙ set_begins i (is_of l q) (λ s j b. and_not (eqb (ballot_at l j).phase q) _ (other j b))

  pub said_begins : (c : ℕ) → cond (eqb (code (ballot_at l i)) c) (alone (ballot_at l i).sender) 0 ≡ said_in l (i + 1) q c
  said_begins c =
      go (eqb (code (ballot_at l i)) c)
      ∙ set_as (λ s. sym (and_first (eqb (ballot_at l i).phase q) _ (eq-eqb (ballot_at l i).phase q e)))
      ∙ set_begins i (is_said l q c) (λ s j b. and_not (eqb (ballot_at l j).phase q) _ (other j b))
    where
      go : (t : Bool) → cond t (alone (ballot_at l i).sender) 0 ≡ set_of 32 (λ s. eqb (ballot_at l i).sender s && t)
      go true = set_as (λ s. sym (and_always (eqb (ballot_at l i).sender s)))
      go false = nobody _ (λ s. and_never (eqb (ballot_at l i).sender s))

  abbrev Sent : ℕ → Type 0
  Sent s = (j : ℕ) × (j < i) × ((ballot_at l j).sender ≡ s)

  pub late_begins : bit_or (late_in l i p) (listed_in l i p) ≡ late_in l (i + 1) q
  late_begins =
      or_sets (λ s. some i (is_late l p s)) (λ s. some i (is_of l p s))
      ∙ set_as (λ s. means_same (means_as (to s) (from s) (means_or (means_some (λ j. means_and (means_lt {a = (ballot_at l j).phase} {b = p}) (means_eq (ballot_at l j).sender s))) (means_some (λ j. means_and (means_eq (ballot_at l j).phase p) (means_eq (ballot_at l j).sender s))))) (means_as (all s) (lower s) (means_some (λ j. means_and (means_lt {a = (ballot_at l j).phase} {b = q}) (means_eq (ballot_at l j).sender s)))))
      ∙ set_stays i (is_late l q) (λ s. and_not (ltb (ballot_at l i).phase q) _ (le-ltb (ballot_at l i).phase q (omega arith)))
    where
      to : (s : ℕ)
          → ((j : ℕ) × (j < i) × (((ballot_at l j).phase < p) × ((ballot_at l j).sender ≡ s))) ⊎ ((j : ℕ) × (j < i) × (((ballot_at l j).phase ≡ p) × ((ballot_at l j).sender ≡ s)))
          → Sent s
      to s (inl r) = (r.0, r.1, r.2.1)
      to s (inr r) = (r.0, r.1, r.2.1)

      from : (s : ℕ) → Sent s
          → ((j : ℕ) × (j < i) × (((ballot_at l j).phase < p) × ((ballot_at l j).sender ≡ s))) ⊎ ((j : ℕ) × (j < i) × (((ballot_at l j).phase ≡ p) × ((ballot_at l j).sender ≡ s)))
      from s r = go (dec_lt (ballot_at l r.0).phase p)
        where
          go : Dec ((ballot_at l r.0).phase < p)
              → ((j : ℕ) × (j < i) × (((ballot_at l j).phase < p) × ((ballot_at l j).sender ≡ s))) ⊎ ((j : ℕ) × (j < i) × (((ballot_at l j).phase ≡ p) × ((ballot_at l j).sender ≡ s)))
          go (yes b) = inl (r.0, r.1, (b, r.2))
          go (no b) = inr (r.0, r.1, (omega (arith, most r.0 r.1), r.2))

      all : (s : ℕ) → (j : ℕ) × (j < i) × (((ballot_at l j).phase < q) × ((ballot_at l j).sender ≡ s)) → Sent s
      all s r = (r.0, r.1, r.2.1)

      lower : (s : ℕ) → Sent s → (j : ℕ) × (j < i) × (((ballot_at l j).phase < q) × ((ballot_at l j).sender ≡ s))
      lower s r = (r.0, r.1, (omega (arith, most r.0 r.1), r.2))
