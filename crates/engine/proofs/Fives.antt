-- A list of ballots as arrays of five bytes: what stands at index 0 of one stands at its index of the list.
use Prim.Native.Nat.{ℕ, ◌+◌, ◌*◌, ◌≤◌, ◌<◌}
use mathlib.Core.Path.{◌≡◌, refl, sym, ap, ◌∙◌}
use mathlib.Core.List.{List, []}
use mathlib.Core.Bool.{Bool, true, false}
use native.Mathlib.Decide.{dec_lt}
use native.Mathlib.Omega.{arith}
use lib.ListN.{get_or}
use lib.Dec.{lit<}
use Rattle.std.specs.Simd.{first_chunks}
use Rattle.std.specs.declared.option.Option.{Option}
use Rattle.std.specs.declared.option.Option.TheVariants.{None, Some}
use Rattle.std.specs.Option.{MatchOption, unwrap_or}
use Rattle.rules.specs.declared.Ballot.{Ballot}
use Rattle.rules.specs.Below.{first}
use Rattle.rules.specs.Ballot.{ballot_at, breaks_rule, five_at}
use Rattle.rules.specs.Tick.{ballots}
use Rattle.rules.proofs.Counting.Below.{NoneBefore, first_at, first_none}
use Rattle.rules.proofs.Layouts.Encoding.{five_hold, first_of_five, byte_of_five}
use Rattle.codes.proofs.Fives.{array_at}
use Rattle.engine.specs.Look.{is_within}

-- ---- one array

-- these five bytes stand at that index of a list
pub record StandsAt (five l : List ℕ) (i : ℕ) : Type 0 where
  pub same : five ≡ five_at l i

pub array_of : {fives : List (List ℕ)} {l : List ℕ} (i : ℕ) → fives ≡ first_chunks 5 (ballots l) l → i < ballots l
    → StandsAt (get_or fives i []) l i
array_of {fives} {l} i is b =
    record { same = ap (λ (f : List (List ℕ)). get_or f i []) is ∙ array_at (ballots l) i l [] b }

-- what they say
module _ {five l : List ℕ} {i : ℕ} (at : StandsAt five l i) where
  pub same_ballot : ballot_at five 0 ≡ ballot_at l i
  same_ballot = ap (λ (f : List ℕ). ballot_at f 0) at.same ∙ sym (five_hold l i)

  pub same_sender : (ballot_at five 0).sender ≡ (ballot_at l i).sender
  same_sender = ap (λ (b : Ballot). b.sender) same_ballot

  pub same_phase : (ballot_at five 0).phase ≡ (ballot_at l i).phase
  same_phase = ap (λ (b : Ballot). b.phase) same_ballot

  pub same_rule : (n : ℕ) → breaks_rule n five 0 ≡ breaks_rule n l i
  unfolding breaks_rule
  same_rule n =
      rw (first_of_five l i, byte_of_five l i 1 (lit< tt), byte_of_five l i 2 (lit< tt), byte_of_five l i 3 (lit< tt), byte_of_five l i 4 (lit< tt), at.same) refl

  pub same_value : get_or five 1 0 ≡ get_or l (i * 5 + 1) 0
  same_value = ap (λ (f : List ℕ). get_or f 1 0) at.same ∙ sym (byte_of_five l i 1 (lit< tt))

  pub same_status : get_or five 2 0 ≡ get_or l (i * 5 + 2) 0
  same_status = ap (λ (f : List ℕ). get_or f 2 0) at.same ∙ sym (byte_of_five l i 2 (lit< tt))

  pub same_within : (n : ℕ) (statuses : List ℕ) → is_within n statuses five 0 ≡ is_within n statuses l i
  same_within n statuses =
      rw (first_of_five l i, byte_of_five l i 1 (lit< tt), byte_of_five l i 2 (lit< tt), at.same) refl

-- ---- a search from an index on

-- behind those that are known not to be it: q tests an array as p does its index of the list
pub search_from : (p q : ℕ → Bool) (k from n : ℕ) (r : Option ℕ) → n ≡ k → from ≤ k → NoneBefore from p
    → ((j : ℕ) → j < k → q j ≡ p j)
    → MatchOption r ((j : ℕ) → from ≤ j → j < n → q j ≡ false) (λ i. (from ≤ i) × (i < n) × (q i ≡ true) × ((j : ℕ) → from ≤ j → j < i → q j ≡ false))
    → unwrap_or r n ≡ first k p
search_from p q k from n None e b none same m = e ∙ sym (first_none k p none_below)
  where
    none_below : NoneBefore k p
    none_below j c =
        elim (dec_lt j from) [ yes l ↦ none j l | no l ↦ sym (same j c) ∙ m j (omega (arith, l)) (omega (arith, c, e)) ]
search_from p q k from n (Some i) e b none same m =
    sym (first_at k p i none_below (sym (same i low) ∙ m.2) low)
  where
    low : i < k
    low = omega (arith, e, m.1)

    none_below : NoneBefore i p
    none_below j c =
        elim (dec_lt j from) [ yes l ↦ none j l | no l ↦ sym (same j (omega (arith, c, low))) ∙ m.3 j (omega (arith, l)) c ]
