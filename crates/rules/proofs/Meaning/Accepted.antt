-- What an accepted start, reading and tick have shown: no line of the table applies.
use Prim.Native.Nat.{ℕ, ◌+◌, ◌*◌, ◌%◌, ◌≤◌, ◌<◌}
use mathlib.Core.Path.{◌≡◌, refl, sym, subst}
use mathlib.Core.List.{List, ◌∷◌}
use mathlib.Core.Bool.{Bool, true, false, not}
use mathlib.Core.Logic.{inl, inr}
use native.Mathlib.Decide.{dec_lt}
use native.Mathlib.Omega.{arith}
use lib.ListN.{length, get_or}
use lib.Dec.{ltb, eqb}
use borrow.Author.Tests.{ltb-false, eqb-true, not-false}
use Rattle.rules.specs.declared.Value.TheVariants.{Zero, One}
use Rattle.rules.specs.declared.Ballot.{Ballot}
use Rattle.rules.specs.declared.Head.{Head}
use Rattle.rules.specs.Number.{Line, ◌when◌, first_that_applies}
use Rattle.rules.specs.Ballot.{value_code, value_of, status_code, status_of, phase_at, ballot_at, breaks_rule, not_heads, read_number}
use Rattle.rules.specs.Head.{start_number}
use Rattle.rules.specs.Tick.{ballots, gathered, stepped, not_list, own_otherwise, tick_number}
use Rattle.rules.specs.Given.{Heads, Obeys, phase_1, phase_2, odd_from_3, even_from_4, Sound, OwnOtherwise, Differ, HeldOtherwise, HeardAtAll, Quorum, DecidesOtherwise}
use Rattle.rules.proofs.Counting.Truth.{means_and, means_lt, or_left_false, or_right_false, false_not}
use Rattle.rules.proofs.Counting.Below.{not_some}
use Rattle.rules.proofs.Meaning.Meanings.{heads, means_obeys, means_sound}
use Rattle.rules.proofs.Meaning.Given.{means_own, means_difference, means_both, means_end, means_decides}

passes : (k : ℕ) (t : Bool) (later : List Line) → (k ≡ 0 → ⊥) → first_that_applies ((k when t) ∷ later) ≡ 0 → (t ≡ false) × (first_that_applies later ≡ 0)
unfolding first_that_applies
passes k true later n e = absurd (n e)
passes k false later n e = (refl, e)

-- ---- a ballot that breaks no rule

code_bounds : {p v s : ℕ} → Obeys p v s → (v < 3) × (s < 2)
code_bounds (phase_1 p a b) = (omega arith, omega arith)
code_bounds (phase_2 p a b) = (a, omega arith)
code_bounds (odd_from_3 p a b c) = (omega arith, c)
code_bounds (even_from_4 p a b c d) = (b, c)

pub value_code_back : (c : ℕ) → c < 3 → value_code (value_of c) ≡ c
unfolding value_of
value_code_back ℕ.zero h = refl
value_code_back (ℕ.suc ℕ.zero) h = refl
value_code_back (ℕ.suc (ℕ.suc ℕ.zero)) h = refl
value_code_back (ℕ.suc (ℕ.suc (ℕ.suc c))) h = absurd (omega arith)

pub status_code_back : (c : ℕ) → c < 2 → status_code (status_of c) ≡ c
unfolding status_of
status_code_back ℕ.zero h = refl
status_code_back (ℕ.suc ℕ.zero) h = refl
status_code_back (ℕ.suc (ℕ.suc c)) h = absurd (omega arith)

-- a ballot that stands in a vote of n heads
pub record Stands (n : ℕ) (b : Ballot) : Type 0 where
  pub sender : b.sender < n
  pub rules : Obeys b.phase (value_code b.value) (status_code b.status)

-- its codes are those of the bytes
pub record Codes (l : List ℕ) (i : ℕ) : Type 0 where
  pub value : value_code (ballot_at l i).value ≡ get_or l (i * 5 + 1) 0
  pub status : status_code (ballot_at l i).status ≡ get_or l (i * 5 + 2) 0

stands_with : (n : ℕ) (l : List ℕ) (i : ℕ) → breaks_rule n l i ≡ false → Stands n (ballot_at l i) × Codes l i
unfolding breaks_rule ballot_at
stands_with n l i e =
    let r = (means_and means_lt (means_obeys (phase_at l i) (get_or l (i * 5 + 1) 0) (get_or l (i * 5 + 2) 0))).0 (not-false _ e) in
    let b = code_bounds r.1 in
    let v = value_code_back (get_or l (i * 5 + 1) 0) b.0 in
    let s = status_code_back (get_or l (i * 5 + 2) 0) b.1 in
    (record { sender = r.0; rules = rw (v, s) r.1 }, record { value = v; status = s })

-- ---- start and reading

pub start_accepted : (n own proposal : ℕ) → start_number n own proposal ≡ 0 → Heads n × (own < n) × (proposal < 2)
unfolding start_number
start_accepted n own proposal e =
    let a = passes 1 _ _ (λ z. omega arith) e in
    let b = passes 2 _ _ (λ z. omega arith) a.1 in
    let own_low = borrow.Author.Tests.ltb-true own n (not-false (ltb own n) (or_right_false (not_heads n) (not (ltb own n)) a.0)) in
    (heads n (or_left_false (not_heads n) _ a.0), own_low, omega (arith, ltb-false 1 proposal b.0))

pub record ReadsWell (n : ℕ) (bytes : List ℕ) : Type 0 where
  pub heads : Heads n
  pub five : length bytes ≡ 5
  pub stands : Stands n (ballot_at bytes 0)
  pub codes : Codes bytes 0

pub read_accepted : (n : ℕ) (bytes : List ℕ) → read_number n bytes ≡ 0 → ReadsWell n bytes
unfolding read_number
read_accepted n bytes e =
    let a = passes 1 _ _ (λ z. omega arith) e in
    let b = passes 5 _ _ (λ z. omega arith) a.1 in
    let c = passes 6 _ _ (λ z. omega arith) b.1 in
    let s = stands_with n bytes 0 c.0 in
    record { heads = heads n a.0; five = eqb-true (length bytes) 5 (not-false (eqb (length bytes) 5) b.0); stands = s.0; codes = s.1 }

-- ---- the tick

pub record Accepted (h : Head) (l : List ℕ) (coin : ℕ) : Type 0 where
  pub sound : Sound h
  pub bit : coin < 2
  pub whole : length l % 5 ≡ 0
  pub few : length l ≤ 320
  pub stands : (i : ℕ) → i < ballots l → Stands h.n (ballot_at l i)
  pub codes : (i : ℕ) → i < ballots l → Codes l i
  pub own : (i : ℕ) → i < ballots l → OwnOtherwise h (ballot_at l i) → ⊥
  pub once : (i j : ℕ) → i < ballots l → j < ballots l → Differ (ballot_at l i) (ballot_at l j) → ⊥
  pub held : (i : ℕ) → i < ballots l → HeldOtherwise h (ballot_at l i) → ⊥
  pub even : (gathered h l).phase % 2 ≡ 0 → HeardAtAll (gathered h l) Zero → HeardAtAll (gathered h l) One → ⊥
  pub phases : Quorum (gathered h l) → (gathered h l).phase + 1 < 65536
  pub decides : DecidesOtherwise (stepped (gathered h l) coin) → ⊥

-- two ballots that differ differ either way round; none differs from itself
differ_turned : (a b : Ballot) → Differ a b → Differ b a
differ_turned a b d = (sym d.0, sym d.1, elim d.2 [ inl f ↦ inl (λ e. f (sym e)) | inr f ↦ inr (λ e. f (sym e)) ])

differ_self : (a : Ballot) → Differ a a → ⊥
differ_self a d = elim d.2 [ inl f ↦ f refl | inr f ↦ f refl ]

pub tick_accepted : (h : Head) (l : List ℕ) (coin : ℕ) → tick_number h l coin ≡ 0 → Accepted h l coin
unfolding tick_number
tick_accepted h l coin e =
    let a3 = passes 3 _ _ (λ z. omega arith) e in
    let a4 = passes 4 _ _ (λ z. omega arith) a3.1 in
    let a5 = passes 5 _ _ (λ z. omega arith) a4.1 in
    let a6 = passes 6 _ _ (λ z. omega arith) a5.1 in
    let a7 = passes 7 _ _ (λ z. omega arith) a6.1 in
    let a8 = passes 8 _ _ (λ z. omega arith) a7.1 in
    let a9 = passes 9 _ _ (λ z. omega arith) a8.1 in
    let a10 = passes 10 _ _ (λ z. omega arith) a9.1 in
    let a11 = passes 11 _ _ (λ z. omega arith) a10.1 in
    let list = well_formed a5.0 in
    let apart = false_not (means_difference h l) a8.0 in
    record {
      sound = (means_sound h).0 (not-false _ a3.0);
      bit = omega (arith, ltb-false 1 coin a4.0);
      whole = list.0;
      few = list.1;
      stands = λ i b. (stands_with h.n l i (not_some (ballots l) (breaks_rule h.n l) a6.0 i b)).0;
      codes = λ i b. (stands_with h.n l i (not_some (ballots l) (breaks_rule h.n l) a6.0 i b)).1;
      own = λ i b. false_not (means_own h (ballot_at l i)) (not_some (ballots l) (λ i. own_otherwise h (ballot_at l i)) a7.0 i b);
      once = λ i j b c d. two (λ x. apart (inl x)) i j b c d;
      held = λ i b x. apart (inr (i, b, x));
      even = λ p z o. false_not (means_both (gathered h l)) a9.0 (p, z, o);
      phases = λ q. below (false_not (means_end (gathered h l)) a10.0) q;
      decides = false_not (means_decides (stepped (gathered h l) coin)) a11.0;
    }
  where
    well_formed : not_list l ≡ false → (length l % 5 ≡ 0) × (length l ≤ 320)
    well_formed e =
        unfold not_list in (
          eqb-true (length l % 5) 0 (not-false (eqb (length l % 5) 0) (or_left_false (not (eqb (length l % 5) 0)) _ e)),
          ltb-false 320 (length l) (or_right_false (not (eqb (length l % 5) 0)) _ e),
        )

    two : ((i : ℕ) × (i < ballots l) × ((j : ℕ) × (j < i) × Differ (ballot_at l j) (ballot_at l i)) → ⊥)
        → (i j : ℕ) → i < ballots l → j < ballots l → Differ (ballot_at l i) (ballot_at l j) → ⊥
    two none i j b c d = go (dec_lt i j) (dec_lt j i)
      where
        go : Dec (i < j) → Dec (j < i) → ⊥
        go (yes x) y = none (j, c, (i, x, d))
        go (no x) (yes y) = none (i, b, (j, y, differ_turned (ballot_at l i) (ballot_at l j) d))
        go (no x) (no y) = differ_self (ballot_at l j) (subst (λ (k : ℕ). Differ (ballot_at l k) (ballot_at l j)) (omega arith) d)

    below : (Quorum (gathered h l) × (65536 ≤ (gathered h l).phase + 1) → ⊥) → Quorum (gathered h l) → (gathered h l).phase + 1 < 65536
    below none q = elim (dec_lt ((gathered h l).phase + 1) 65536) [ yes x ↦ x | no x ↦ absurd (none (q, omega arith)) ]
