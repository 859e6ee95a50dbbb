-- Whether the next ballot is refused by 6, 7 or 8, none before it being so: told by sets of senders.
use Prim.Native.Nat.{ℕ, ◌+◌, ◌*◌, ◌/◌, ◌%◌, ◌≤◌, ◌<◌}
use mathlib.Core.Path.{◌≡◌, refl, sym, ap, ap₂, ◌∙◌}
use mathlib.Core.List.{List}
use mathlib.Core.Bool.{Bool, true, false, ◌&&◌, ◌||◌, not}
use native.Mathlib.Decide.{dec_lt}
use native.Mathlib.Omega.{arith}
use lib.Dec.{ltb, eqb}
use lib.ListN.{get_or}
use borrow.Author.Tests.{ne_eqb, lt-ltb, le-ltb, ltb-true, not-false}
use Rattle.rules.specs.declared.Value.{Value}
use Rattle.rules.specs.declared.Status.{Status}
use Rattle.rules.specs.declared.Ballot.{Ballot}
use Rattle.rules.specs.declared.Head.{Head}
use Rattle.rules.specs.Below.{first, some}
use Rattle.rules.specs.Ballot.{value_code, value_of, status_code, status_of, ballot_at, phase_at, class_of, obeys, breaks_rule}
use Rattle.rules.specs.Heard.{member}
use Rattle.rules.specs.Tick.{same_state, differ, own_otherwise, held_otherwise, contradicts}
use Rattle.rules.proofs.Counting.Truth.{Means, never, false_not, not_false as means_false, not_not, means_same, means_as, means_and, means_not, means_eq, and_left, and_right, and_never, or_left_false, or_right_false, or_never}
use Rattle.rules.proofs.Counting.Below.{NoneBefore, first_le, first_before, first_holds, some_not, not_some, means_some}
use Rattle.rules.proofs.Counting.Sets.{member_set_of}
use Rattle.rules.proofs.Meaning.Meanings.{value_low, status_low, value_back, status_back}
use Rattle.rules.proofs.Meaning.Accepted.{value_code_back, status_code_back}
use Rattle.engine.specs.Look.{refused, code, is_within, KnownIn, statuses_of, ballot_by, barred_from, highest, is_of, is_said, listed_in, said_in, Fits}
use Rattle.engine.proofs.Bounds.{statuses_tell, few}
use Rattle.engine.proofs.Fives.{StandsAt, same_sender, same_phase, same_rule, same_value, same_status, same_within}
use Rattle.engine.proofs.Growing.{highest_most, highest_least}

-- ---- a ballot that breaks no rule

-- the statuses that stand at its phase tell
pub breaks_within : (n : ℕ) (l : List ℕ) (i p : ℕ) (statuses : List ℕ) → (ballot_at l i).phase ≡ p
    → statuses ≡ statuses_of (class_of p) → breaks_rule n l i ≡ not (is_within n statuses l i)
unfolding breaks_rule obeys ballot_at
breaks_within n l i p statuses e t =
    ap (λ (b : Bool). not (ltb (get_or l (i * 5) 0) n && b))
    (statuses_tell (class_of (phase_at l i)) (get_or l (i * 5 + 1) 0) (get_or l (i * 5 + 2) 0)
    ∙ ap (λ (s : List ℕ). ltb (get_or l (i * 5 + 2) 0) (get_or s (get_or l (i * 5 + 1) 0) 0)) (ap (λ (q : ℕ). statuses_of (class_of q)) e ∙ sym t))

-- the codes at an index in one number
abbrev pub code_at : List ℕ → ℕ → ℕ
code_at l i = get_or l (i * 5 + 1) 0 * 2 + get_or l (i * 5 + 2) 0

module _ (n : ℕ) (l : List ℕ) (i : ℕ) (stands : breaks_rule n l i ≡ false) where
  abbrev statuses : List ℕ
  statuses = statuses_of (class_of (ballot_at l i).phase)

  within : is_within n statuses l i ≡ true
  within = not-false _ (sym (breaks_within n l i (ballot_at l i).phase statuses refl refl) ∙ stands)

  pub low_sender : (ballot_at l i).sender < n
  unfolding ballot_at
  low_sender = ltb-true (get_or l (i * 5) 0) n (and_left (ltb (get_or l (i * 5) 0) n) _ within)

  low : (get_or l (i * 5 + 2) 0 < 2) × (code_at l i < 5)
  low =
      few (class_of (ballot_at l i).phase) (get_or l (i * 5 + 1) 0) (get_or l (i * 5 + 2) 0)
      (ltb-true (get_or l (i * 5 + 2) 0) (get_or statuses (get_or l (i * 5 + 1) 0) 0) (and_right (ltb (get_or l (i * 5) 0) n) _ within))

  pub low_status : get_or l (i * 5 + 2) 0 < 2
  low_status = low.0

  pub low_code : code_at l i < 5
  low_code = low.1

  -- its codes are those of its value and status, and at most five
  pub code_read : code_at l i ≡ code (ballot_at l i)
  unfolding ballot_at
  code_read =
      let v : value_code (value_of (get_or l (i * 5 + 1) 0)) ≡ get_or l (i * 5 + 1) 0 = value_code_back (get_or l (i * 5 + 1) 0) (omega (arith, low_code)) in
      let t : status_code (status_of (get_or l (i * 5 + 2) 0)) ≡ get_or l (i * 5 + 2) 0 = status_code_back (get_or l (i * 5 + 2) 0) low_status in
      omega arith

  -- read from its own bytes too
  pub code_of : {five : List ℕ} {c : ℕ} → StandsAt five l i → c ≡ get_or five 1 0 * 2 + get_or five 2 0
      → (c ≡ code (ballot_at l i)) × (c < 5)
  code_of at e =
      (omega (arith, e, same_value at, same_status at, code_read), omega (arith, e, same_value at, same_status at, low_code))

  pub code_low : code (ballot_at l i) < 5
  code_low = omega (arith, low_code, code_read)

-- ---- two ballots

pub means_state : (a b : Ballot) → Means (same_state a b) (code a ≡ code b)
unfolding same_state
means_state a b =
    means_as (λ p. omega (arith, p.0, p.1))
    (λ e. (omega (arith, value_low a.value, value_low b.value, status_low a.status, status_low b.status), omega (arith, value_low a.value, value_low b.value, status_low a.status, status_low b.status)))
    (means_and (means_eq (value_code a.value) (value_code b.value)) (means_eq (status_code a.status) (status_code b.status)))

-- of one sender and phase
abbrev pub Same : Ballot → Ballot → Type 0
Same a b = (a.phase ≡ b.phase) × (a.sender ≡ b.sender)

means_differ : (a b : Ballot) → Means (differ a b) (Same a b × (code a ≡ code b → ⊥))
unfolding differ
means_differ a b =
    means_as (λ r. ((r.1.0, r.0), r.1.1)) (λ r. (r.0.1, (r.0.0, r.1)))
    (means_and (means_eq a.sender b.sender) (means_and (means_eq a.phase b.phase) (means_not (means_state a b))))

half : (v t : ℕ) → t < 2 → (v * 2 + t) / 2 ≡ v
half v t b = omega arith

rest : (v t : ℕ) → t < 2 → (v * 2 + t) % 2 ≡ t
rest v t b = omega arith

-- a ballot by its sender, code and phase
pub ballot_by_lem : (b : Ballot) → ballot_by b.sender (code b) b.phase ≡ b
ballot_by_lem b =
    ap₂ (λ (v : Value) (t : Status). record { sender = b.sender; value = v; status = t; phase = b.phase })
    (ap value_of (half (value_code b.value) (status_code b.status) (status_low b.status)) ∙ value_back b.value)
    (ap status_of (rest (value_code b.value) (status_code b.status) (status_low b.status)) ∙ status_back b.status)

ballot_same : (a b : Ballot) → Same a b → code a ≡ code b → a ≡ b
ballot_same a b s e =
    sym (ballot_by_lem a)
    ∙ ap (λ (x : ℕ). ballot_by x (code a) a.phase) s.1
    ∙ ap (λ (x : ℕ). ballot_by b.sender x a.phase) e
    ∙ ap (λ (x : ℕ). ballot_by b.sender (code b) x) s.0
    ∙ ballot_by_lem b

-- a search up to an index of the list ends in the list
pub found_low : (i r k : ℕ) (p : ℕ → Bool) → r ≡ first i p → i < k → r < k
found_low i r k p e b = omega (arith, e, first_le i p)

-- a ballot of a lower phase than the head's gives neither 7 nor 8 by what is held
pub late_otherwise : (h : Head) (b : Ballot) → b.phase < h.phase → false ≡ own_otherwise h b || held_otherwise h b
unfolding own_otherwise held_otherwise
late_otherwise h b e =
    let higher : ltb h.phase b.phase ≡ false = le-ltb h.phase b.phase (omega arith) in
    let away : eqb b.phase h.phase ≡ false = ne_eqb b.phase h.phase (λ q. omega arith) in
    sym (or_never false) ∙ sym (ap (λ (t : Bool). t || false) (and_never (eqb b.sender h.own))) ∙ simp (higher, away)

-- ---- the ballot at index i

module _ (h : Head) (l : List ℕ) (i : ℕ) where
  abbrev pub earlier : Bool
  earlier = some i (λ j. differ (ballot_at l j) (ballot_at l i))

  abbrev pub otherwise : Bool
  otherwise = own_otherwise h (ballot_at l i) || held_otherwise h (ballot_at l i)

  pub refused_breaks : breaks_rule h.n l i ≡ true → true ≡ refused h l i
  unfolding refused
  refused_breaks e = sym (ap (λ (t : Bool). t || (own_otherwise h (ballot_at l i) || contradicts h l i)) e)

  pub stands_clean : refused h l i ≡ false → breaks_rule h.n l i ≡ false
  unfolding refused
  stands_clean e = or_left_false (breaks_rule h.n l i) _ e

  pub clean_low : Fits h → refused h l i ≡ false → (ballot_at l i).sender < 32
  clean_low f e = omega (arith, low_sender h.n l i (stands_clean e), f.0)

  -- the test of the hot loop: of the phase, and within its bounds
  module _ {five : List ℕ} (at : StandsAt five l i) (p x : ℕ) (statuses : List ℕ) (t : Bool) (is : x ≡ (ballot_at five 0).phase)
      (s : statuses ≡ statuses_of (class_of p)) (within : t ≡ is_within h.n statuses five 0) where
    phase : x ≡ (ballot_at l i).phase
    phase = is ∙ same_phase at

    test : t ≡ is_within h.n statuses l i
    test = within ∙ same_within at h.n statuses

    pub test_passed : x ≡ p → t ≡ true → ((ballot_at l i).phase ≡ p) × (breaks_rule h.n l i ≡ false)
    test_passed e b =
        let here : (ballot_at l i).phase ≡ p = sym phase ∙ e in
        (here, breaks_within h.n l i p statuses here s ∙ ap not (sym test ∙ b))

    pub test_failed : t ≡ false → (ballot_at l i).phase ≡ p → refused h l i ≡ true
    test_failed e here = sym (refused_breaks (breaks_within h.n l i p statuses here s ∙ ap not (sym test ∙ e)))

  -- 7 or 8
  pub refused_parts : breaks_rule h.n l i ≡ false → earlier || otherwise ≡ refused h l i
  unfolding refused contradicts
  refused_parts e =
      turn earlier (own_otherwise h (ballot_at l i)) (held_otherwise h (ballot_at l i))
      ∙ sym (ap (λ (t : Bool). t || (own_otherwise h (ballot_at l i) || (earlier || held_otherwise h (ballot_at l i)))) e)
    where
      turn : (d o k : Bool) → d || (o || k) ≡ o || (d || k)
      turn true true k = refl
      turn true false k = refl
      turn false o k = refl

  -- at a phase at which the sender has sent nothing yet
  pub not_earlier : (elsewhere : ℕ) → Fits h → breaks_rule h.n l i ≡ false → KnownIn elsewhere l i
      → member (ballot_at l i).sender elsewhere ≡ false → earlier ≡ false
  not_earlier elsewhere f e known absent =
      some_not i (λ j. differ (ballot_at l j) (ballot_at l i))
      (λ j b. means_false (means_differ (ballot_at l j) (ballot_at l i)) (λ r. never (sym absent ∙ ap (λ (s : ℕ). member s elsewhere) (sym r.0.1) ∙ known j b r.0.0 (omega (arith, low_sender h.n l i e, f.0, r.0.1)))))

  -- from ahead
  pub refused_ahead : {five : List ℕ} → StandsAt five l i → highest h l i < (ballot_at l i).phase
      → breaks_rule h.n five 0 || eqb (ballot_at five 0).sender h.own ≡ refused h l i
  unfolding refused contradicts own_otherwise held_otherwise
  refused_ahead at above =
      let apart : earlier ≡ false = some_not i (λ j. differ (ballot_at l j) (ballot_at l i)) (λ j b. means_false (means_differ (ballot_at l j) (ballot_at l i)) (λ r. absurd (omega (arith, highest_most h l i j b, r.0.0)))) in
      let higher : ltb h.phase (ballot_at l i).phase ≡ true = lt-ltb h.phase (ballot_at l i).phase (omega (arith, highest_least h l i)) in
      let away : eqb (ballot_at l i).phase h.phase ≡ false = ne_eqb (ballot_at l i).phase h.phase (λ q. omega (arith, highest_least h l i)) in
      ap₂ (λ (a : Bool) (s : ℕ). a || eqb s h.own) (same_rule at h.n) (same_sender at)
      ∙ ap (λ (t : Bool). breaks_rule h.n l i || t) (sym (pick (eqb (ballot_at l i).sender h.own)))
      ∙ simp (apart, higher, away)
    where
      pick : (s : Bool) → (s && true) || false ≡ s
      pick true = refl
      pick false = refl

module _ (h : Head) (l : List ℕ) (i : ℕ) (clean : NoneBefore i (refused h l)) where
  abbrev here : ℕ → Bool
  here = is_of l (ballot_at l i).phase (ballot_at l i).sender

  abbrev same : ℕ → Bool
  same = is_said l (ballot_at l i).phase (code (ballot_at l i)) (ballot_at l i).sender

  -- among those before i, one sender says one thing at a phase
  later_code : (j k : ℕ) → j < k → k < i → Same (ballot_at l j) (ballot_at l k)
      → code (ballot_at l j) ≡ code (ballot_at l k)
  unfolding refused contradicts
  later_code j k a b s =
      let quiet : some k (λ j. differ (ballot_at l j) (ballot_at l k)) ≡ false = or_left_false _ _ (or_right_false (own_otherwise h (ballot_at l k)) _ (or_right_false (breaks_rule h.n l k) _ (clean k b))) in
      let apart = not_some k (λ j. differ (ballot_at l j) (ballot_at l k)) quiet j a in
      not_not (means_eq _ _) (λ n. false_not (means_differ (ballot_at l j) (ballot_at l k)) apart (s, n))

  pub one_code : (j k : ℕ) → j < i → k < i → Same (ballot_at l j) (ballot_at l k)
      → code (ballot_at l j) ≡ code (ballot_at l k)
  one_code j k a b s = go (dec_lt j k) (dec_lt k j)
    where
      go : Dec (j < k) → Dec (k < j) → code (ballot_at l j) ≡ code (ballot_at l k)
      go (yes p) q = later_code j k p b s
      go (no p) (yes q) = sym (later_code k j q a (sym s.0, sym s.1))
      go (no p) (no q) = ap (λ (m : ℕ). code (ballot_at l m)) (omega arith)

  means_here : (j : ℕ) → Means (here j) (Same (ballot_at l j) (ballot_at l i))
  means_here j =
      means_and (means_eq (ballot_at l j).phase (ballot_at l i).phase) (means_eq (ballot_at l j).sender (ballot_at l i).sender)

  means_again : (j : ℕ)
      → Means (same j) (Same (ballot_at l j) (ballot_at l i) × (code (ballot_at l j) ≡ code (ballot_at l i)))
  means_again j =
      means_as (λ r. ((r.0, r.1.0), r.1.1)) (λ r. (r.0.0, (r.0.1, r.1)))
      (means_and (means_eq (ballot_at l j).phase (ballot_at l i).phase) (means_and (means_eq (ballot_at l j).sender (ballot_at l i).sender) (means_eq (code (ballot_at l j)) (code (ballot_at l i)))))

  abbrev OneOf : Type 0
  OneOf = (j : ℕ) × (j < i) × (Same (ballot_at l j) (ballot_at l i) × (code (ballot_at l j) ≡ code (ballot_at l i) → ⊥))

  abbrev Both : Type 0
  Both =
      ((j : ℕ) × (j < i) × Same (ballot_at l j) (ballot_at l i)) × ((j : ℕ) × (j < i) × (Same (ballot_at l j) (ballot_at l i) × (code (ballot_at l j) ≡ code (ballot_at l i))) → ⊥)

  -- so it differs from an earlier one where its sender is listed at its phase, but not under what it says
  differs : earlier h l i ≡ some i here && not (some i same)
  differs =
      means_same
      (means_as to from (means_some (λ j. means_differ (ballot_at l j) (ballot_at l i))))
      (means_and (means_some means_here) (means_not (means_some means_again)))
    where
      to : OneOf → Both
      to (j, b, (s, n)) =
          ((j, b, s), λ r. n (one_code j r.0 b r.1 (s.0 ∙ sym r.2.0.0, s.1 ∙ sym r.2.0.1) ∙ r.2.1))

      from : Both → OneOf
      from (r, none) = (r.0, r.1, (r.2, λ e. none (r.0, r.1, (r.2, e))))

  -- or: from the first of its sender and phase
  differs_first : (e : ℕ) → e ≡ first i here → earlier h l i ≡ not (eqb (code (ballot_at l e)) (code (ballot_at l i)))
  differs_first e is =
      means_same
      (means_as to from (means_some (λ j. means_differ (ballot_at l j) (ballot_at l i))))
      (means_not (means_eq (code (ballot_at l e)) (code (ballot_at l i))))
    where
      there : e < i → Same (ballot_at l e) (ballot_at l i)
      there b = (means_here e).0 (ap here is ∙ first_holds i here (omega (arith, is)))

      not_after : (j : ℕ) → here j ≡ true → e ≤ j
      not_after j t = elim (dec_lt j e) [ yes b ↦ never (sym (first_before i here j (omega (arith, is))) ∙ t) | no b ↦ omega (arith, b) ]

      to : OneOf → code (ballot_at l e) ≡ code (ballot_at l i) → ⊥
      to (j, b, (s, n)) q =
          let low : e < i = omega (arith, not_after j ((means_here j).1 s), b) in
          let s' = there low in
          n (one_code j e b low (s.0 ∙ sym s'.0, s.1 ∙ sym s'.1) ∙ q)

      from : (code (ballot_at l e) ≡ code (ballot_at l i) → ⊥) → OneOf
      from n = elim (dec_lt e i) [ yes b ↦ (e, b, (there b, n)) | no b ↦ absurd (n (ap (λ (m : ℕ). code (ballot_at l m)) (omega (arith, b, is, first_le i here)))) ]

  pub refused_late : breaks_rule h.n l i ≡ false → (e : ℕ) (t : Bool) → e ≡ first i here
      → t ≡ eqb (get_or l (e * 5 + 1) 0) (get_or l (i * 5 + 1) 0) && eqb (get_or l (e * 5 + 2) 0) (get_or l (i * 5 + 2) 0)
      → not t || otherwise h l i ≡ refused h l i
  refused_late stands e t is et =
      ap (λ (b : Bool). not b || otherwise h l i) (et ∙ one_number _ _ _ _ (low_status h.n l e before) (low_status h.n l i stands) ∙ ap₂ eqb (code_read h.n l e before) (code_read h.n l i stands))
      ∙ sym (ap (λ (t : Bool). t || otherwise h l i) (differs_first e is)) ∙ refused_parts h l i stands
    where
      before : breaks_rule h.n l e ≡ false
      before = elim (dec_lt e i) [ yes b ↦ stands_clean h l e (clean e b) | no b ↦ ap (breaks_rule h.n l) (omega (arith, b, is, first_le i here)) ∙ stands ]

      one_number : (v t w u : ℕ) → t < 2 → u < 2 → eqb v w && eqb t u ≡ eqb (v * 2 + t) (w * 2 + u)
      one_number v t w u a b =
          means_same (means_and (means_eq v w) (means_eq t u)) (means_as (λ e. (omega arith, omega arith)) (λ p. omega (arith, p.0, p.1)) (means_eq (v * 2 + t) (w * 2 + u)))

  -- what was said before was not barred
  not_barred : some i same ≡ true → otherwise h l i ≡ false
  unfolding refused contradicts
  not_barred e =
      let r = (means_some means_again).0 e in
      let was : ballot_at l r.0 ≡ ballot_at l i = ballot_same (ballot_at l r.0) (ballot_at l i) r.2.0 r.2.1 in
      let none = or_right_false (breaks_rule h.n l r.0) _ (clean r.0 r.1) in
      let own : own_otherwise h (ballot_at l i) ≡ false = ap (own_otherwise h) (sym was) ∙ or_left_false (own_otherwise h (ballot_at l r.0)) _ none in
      let held : held_otherwise h (ballot_at l i) ≡ false = ap (held_otherwise h) (sym was) ∙ or_right_false (earlier h l r.0) _ (or_right_false (own_otherwise h (ballot_at l r.0)) _ none) in
      ap₂ (λ (a b : Bool). a || b) own held

  refused_here : breaks_rule h.n l i ≡ false → (otherwise h l i || some i here) && not (some i same) ≡ refused h l i
  refused_here e =
      pick (otherwise h l i) (some i here) (some i same) not_barred
      ∙ sym (ap (λ (t : Bool). t || otherwise h l i) differs)
      ∙ refused_parts h l i e
    where
      pick : (b m s : Bool) → (s ≡ true → b ≡ false) → (b || m) && not s ≡ (m && not s) || b
      pick b m true f = and_never (b || m) ∙ sym (ap₂ (λ (x y : Bool). x || y) (and_never m) (f refl))
      pick true true false f = refl
      pick true false false f = refl
      pick false true false f = refl
      pick false false false f = refl

  -- at the look's phase p, by its sets
  pub refused_present : (p c s barred listed said : ℕ) → s ≡ (ballot_at l i).sender → Fits h
      → breaks_rule h.n l i ≡ false → (ballot_at l i).phase ≡ p → c ≡ code (ballot_at l i)
      → barred ≡ barred_from h p c → listed ≡ listed_in l i p → said ≡ said_in l i p c
      → (member s barred || member s listed) && not (member s said) ≡ refused h l i
  refused_present p c x barred listed said z f e q d eb el es =
      let low : (ballot_at l i).sender < 32 = omega (arith, low_sender h.n l i e, f.0) in
      let s = (ballot_at l i).sender in
      let b : member s barred ≡ otherwise h l i = ap (member s) (eb ∙ ap₂ (barred_from h) (sym q) d) ∙ member_set_of 32 _ s low ∙ ap (λ (x : Ballot). own_otherwise h x || held_otherwise h x) (ballot_by_lem (ballot_at l i)) in
      let m : member s listed ≡ some i here = ap (member s) (el ∙ ap (listed_in l i) (sym q)) ∙ member_set_of 32 _ s low in
      let t : member s said ≡ some i same = ap (member s) (es ∙ ap₂ (said_in l i) (sym q) d) ∙ member_set_of 32 _ s low in
      ap (λ (y : ℕ). (member y barred || member y listed) && not (member y said)) z
      ∙ ap₂ (λ (x y : Bool). x && not y) (ap₂ (λ (x y : Bool). x || y) b m) t
      ∙ refused_here e
