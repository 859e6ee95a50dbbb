-- W1, "Which ballot was bad": the index that comes with a number is that of the first offending ballot. What that means
-- stands in specs/Given, `Offender`.
use Prim.Native.Nat.{ℕ, ◌<◌}
use mathlib.Core.Path.{◌≡◌, refl, sym, subst, ◌∙◌}
use mathlib.Core.List.{List}
use mathlib.Core.Bool.{Bool, true, false, cond, true≢false}
use mathlib.Core.Logic.{◌⊎◌, inl, inr, ◌↔◌}
use native.Mathlib.Decide.{ℕ_discrete}
use native.Mathlib.Omega.{arith}
use lib.ListN.{length}
use borrow.Author.Tests.{ltb-true, ne_eqb}
use Rattle.rules.specs.declared.Head.{Head}
use Rattle.rules.specs.Below.{first, some}
use Rattle.rules.specs.Ballot.{ballot_at, read_number, read_index}
use Rattle.rules.specs.Tick.{ballots, tick_number, offender, tick_index}
use Rattle.rules.specs.Record.{head_at, not_sound, tick_number_from_c, tick_index_from_c}
use Rattle.rules.specs.Given.{At, Given, Breaks, OwnOtherwise, FirstBallot, Contradicts, Offender, by_rule, by_own, by_difference, by_none, read_table, tick_table}
use Rattle.rules.proofs.Counting.Truth.{Means, not_false, not_not, means_eq}
use Rattle.rules.proofs.Counting.Below.{first_holds, first_before, first_at, means_some}
use Rattle.rules.proofs.Meaning.Given.{Applying, given_applies, means_breaks, means_own, means_contradicts, means_difference, tick_given, read_given}

-- the first index at which a test is true, if it is at some, is the first at which what it means holds
first_ballot : (l : List ℕ) {p : ℕ → Bool} {P : ℕ → Type 0} → ((i : ℕ) → Means (p i) (P i))
    → some (ballots l) p ≡ true → (index : ℕ) → (first (ballots l) p ≡ index) ↔ FirstBallot l P index
first_ballot l {p} {P} m found index = (
  λ e. subst (FirstBallot l P) e (below, (m _).0 (first_holds (ballots l) p below), λ j b x. true≢false (sym ((m j).1 x) ∙ first_before (ballots l) p j b)),
  λ f. first_at (ballots l) p index (λ j b. not_false (m j) (f.2 j b)) ((m index).1 f.1) f.0,
)
  where
    below : first (ballots l) p < ballots l
    below = ltb-true (first (ballots l) p) (ballots l) found

-- of a line that alone has its number
alone : {P : Type 0} → At 0 P 0 ⊎ ⊥ → P
alone (inl x) = x.0
alone (inr none) = absurd none

-- ---- what the four cases of `Offender` say of a number

pub named_at_6 : {h : Head} {l : List ℕ} {index : ℕ} → Offender h l 6 index → FirstBallot l (Breaks h.n l) index
named_at_6 (by_rule n x) = x
named_at_6 (by_own n x) = absurd (omega (arith, n))
named_at_6 (by_difference n x) = absurd (omega (arith, n))
named_at_6 (by_none a b c x) = absurd (a refl)

pub named_at_7 : {h : Head} {l : List ℕ} {index : ℕ} → Offender h l 7 index
    → FirstBallot l (λ i. OwnOtherwise h (ballot_at l i)) index
named_at_7 (by_rule n x) = absurd (omega (arith, n))
named_at_7 (by_own n x) = x
named_at_7 (by_difference n x) = absurd (omega (arith, n))
named_at_7 (by_none a b c x) = absurd (b refl)

pub named_at_8 : {h : Head} {l : List ℕ} {index : ℕ} → Offender h l 8 index → FirstBallot l (Contradicts h l) index
named_at_8 (by_rule n x) = absurd (omega (arith, n))
named_at_8 (by_own n x) = absurd (omega (arith, n))
named_at_8 (by_difference n x) = x
named_at_8 (by_none a b c x) = absurd (c refl)

-- a number that names no ballot
at_others : (h : Head) (l : List ℕ) (number index : ℕ) → (number ≡ 6 → ⊥) → (number ≡ 7 → ⊥) → (number ≡ 8 → ⊥)
    → (0 ≡ index) ↔ Offender h l number index
at_others h l number index a b c = (λ q. by_none a b c (sym q), λ o. elim o [ by_rule n x ↦ absurd (a n) | by_own n x ↦ absurd (b n) | by_difference n x ↦ absurd (c n) | by_none d f g x ↦ sym x ])

-- ---- W1

-- "the tick .. to give the index, from 0, of the first offending ballot", of the number that it gives
pub a_tick_names_the_first_offending_ballot : (h : Head) (l : List ℕ) (coin index : ℕ)
    → (tick_index h l coin ≡ index) ↔ Offender h l (tick_number h l coin) index
unfolding tick_index offender
a_tick_names_the_first_offending_ballot h l coin index = by (tick_number h l coin) refl
  where
    Named : ℕ → Type 0
    Named number = (offender number h l ≡ index) ↔ Offender h l number index

    -- the line of a number that is given applies
    applying : (k : ℕ) → (k ≡ 0 → ⊥) → tick_number h l coin ≡ k → Applying k 0 (tick_table h l coin)
    applying k some e = given_applies k 0 (tick_table h l coin) some ((tick_given h l coin k).0 e)

    at_6 : tick_number h l coin ≡ 6 → Named 6
    at_6 e =
        let is = first_ballot l (means_breaks h.n l) ((means_some (means_breaks h.n l)).1 (alone (applying 6 (λ z. omega (arith, z)) e))) index in (
          λ q. by_rule refl (is.0 q),
          λ o. is.1 (named_at_6 o),
        )

    at_7 : tick_number h l coin ≡ 7 → Named 7
    at_7 e =
        let is = first_ballot l (λ i. means_own h (ballot_at l i)) ((means_some (λ i. means_own h (ballot_at l i))).1 (alone (applying 7 (λ z. omega (arith, z)) e))) index in (
          λ q. by_own refl (is.0 q),
          λ o. is.1 (named_at_7 o),
        )

    at_8 : tick_number h l coin ≡ 8 → Named 8
    at_8 e =
        let is = first_ballot l (means_contradicts h l) ((means_difference h l).1 (alone (applying 8 (λ z. omega (arith, z)) e))) index in (
          λ q. by_difference refl (is.0 q),
          λ o. is.1 (named_at_8 o),
        )

    by : (number : ℕ) → tick_number h l coin ≡ number → Named number
    by number e = elim (ℕ_discrete number 6) [
      | yes z ↦ subst Named (sym z) (at_6 (e ∙ z))
      | no a ↦ elim (ℕ_discrete number 7) [
        | yes z ↦ subst Named (sym z) (at_7 (e ∙ z))
        | no b ↦ elim (ℕ_discrete number 8) [
          | yes z ↦ subst Named (sym z) (at_8 (e ∙ z))
          | no c ↦ rw (ne_eqb number 6 a, ne_eqb number 7 b, ne_eqb number 8 c) (at_others h l number index a b c)
        ]
      ]
    ]

-- "The C entry passes it on."
pub a_tick_from_c_names_the_first_offending_ballot : (r l : List ℕ) (coin index : ℕ)
    → (tick_index_from_c r l coin ≡ index) ↔ Offender (head_at r) l (tick_number_from_c r l coin) index
unfolding tick_index_from_c tick_number_from_c
a_tick_from_c_names_the_first_offending_ballot r l coin index = go (not_sound r)
  where
    go : (t : Bool) → (cond t 0 (tick_index (head_at r) l coin) ≡ index) ↔ Offender (head_at r) l (cond t 3 (tick_number (head_at r) l coin)) index
    go true = at_others (head_at r) l 3 index (λ z. omega (arith, z)) (λ z. omega (arith, z)) (λ z. omega (arith, z))
    go false = a_tick_names_the_first_offending_ballot (head_at r) l coin index

-- "The ballot reader": where it gives 6, the ballot at its index is the first that breaks the rule, and "Other numbers
-- give index 0"
pub a_reading_names_its_ballot : (n : ℕ) (bytes : List ℕ)
    → (read_index n bytes ≡ 0) × (read_number n bytes ≡ 6 → FirstBallot bytes (Breaks n bytes) (read_index n bytes))
a_reading_names_its_ballot n bytes = (refl, λ e. go ((read_given n bytes 6).0 e))
  where
    go : Given 6 0 (read_table n bytes) → FirstBallot bytes (Breaks n bytes) 0
    go (inl x) = absurd (omega (arith, x.1))
    go (inr (no_1, inl x)) = absurd (omega (arith, x.1))
    go (inr (no_1, inr (no_5, inl x))) =
        let five = not_not (means_eq (length bytes) 5) (λ other. no_5 0 (other, refl)) in
        (omega (arith, five), x.0.0, λ j b. absurd (omega (arith, b)))
    go (inr (no_1, inr (no_5, inr (no_6, none)))) = absurd (omega (arith, none.0))
