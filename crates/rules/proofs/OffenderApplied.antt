-- Every theorem of Offender, applied by its name to a case that needs all of it: from the index to its sentence, and from
-- the sentence to its index.
use Prim.Native.Nat.{ℕ}
use mathlib.Core.Path.{◌≡◌, refl, ap, subst}
use mathlib.Core.List.{List, [], ◌∷◌}
use mathlib.Core.Logic.{inl, inr}
use native.Mathlib.Omega.{arith}
use lib.Dec.{lit<}
use Rattle.rules.specs.declared.Value.TheVariants.{Zero, One, Blank}
use Rattle.rules.specs.declared.Status.TheVariants.{Undecided as u}
use Rattle.rules.specs.declared.Decision.TheVariants.{Unwritten as none}
use Rattle.rules.specs.declared.Head.{Head}
use Rattle.rules.specs.Ballot.{value_code, ballot, encode, ballot_at}
use Rattle.rules.specs.Tick.{tick_index}
use Rattle.rules.specs.Record.{record_of, head_at, tick_number_from_c, tick_index_from_c}
use Rattle.rules.specs.Given.{Breaks, OwnOtherwise, SoundRecord, FirstBallot, Contradicts, by_difference, by_none}
use Rattle.rules.specs.Sixteen.{start, head}
use Rattle.rules.proofs.Counting.Truth.{never}
use Rattle.rules.proofs.Computed.Computing.{computing}
use Rattle.rules.proofs.Meaning.Given.{applies}
use Rattle.rules.proofs.Demands as D
use Rattle.rules.proofs.Offender as O

-- ---- from the index to its sentence

-- a 7 at index 0 and a 6 at index 2: the number is chosen first
abbrev own_then_broken : List ℕ
own_then_broken = encode (ballot 0 2 One u ∷ ballot 1 1 One u ∷ ballot 2 1 Blank u ∷ [])

pub six_is_named_after_a_seven : FirstBallot own_then_broken (Breaks 3 own_then_broken) 2
unfolding computing
six_is_named_after_a_seven = O.named_at_6 ((O.a_tick_names_the_first_offending_ballot (start 3) own_then_broken 0 2).0 refl)

-- own ballots that the head may have sent, at its phase and below, are passed over
abbrev own_earlier : List ℕ
own_earlier = encode (ballot 0 1 Zero u ∷ ballot 0 2 One u ∷ ballot 0 2 Zero u ∷ [])

pub the_first_own_ballot_otherwise_is_named : FirstBallot own_earlier (λ i. OwnOtherwise (head 3 2 One u none 0) (ballot_at own_earlier i)) 2
unfolding computing
the_first_own_ballot_otherwise_is_named =
    O.named_at_7 ((O.a_tick_names_the_first_offending_ballot (head 3 2 One u none 0) own_earlier 0 2).0 refl)

-- of two pairs, the ballot that ends one of them first; not the earlier of a pair
abbrev two_pairs : List ℕ
two_pairs = encode (ballot 1 1 One u ∷ ballot 2 1 One u ∷ ballot 2 1 Zero u ∷ ballot 1 1 Zero u ∷ [])

pub the_pair_that_ends_first_is_named : FirstBallot two_pairs (Contradicts (start 5) two_pairs) 2
unfolding computing
the_pair_that_ends_first_is_named =
    O.named_at_8 ((O.a_tick_names_the_first_offending_ballot (start 5) two_pairs 0 2).0 refl)

pub the_same_from_c : FirstBallot two_pairs (Contradicts (head_at (record_of (start 5))) two_pairs) 2
unfolding computing
the_same_from_c =
    O.named_at_8 ((O.a_tick_from_c_names_the_first_offending_ballot (record_of (start 5)) two_pairs 0 2).0 refl)

pub the_only_ballot_is_named : FirstBallot (3 ∷ 1 ∷ 1 ∷ 1 ∷ 44 ∷ []) (Breaks 3 (3 ∷ 1 ∷ 1 ∷ 1 ∷ 44 ∷ [])) 0
unfolding computing
the_only_ballot_is_named = (O.a_reading_names_its_ballot 3 (3 ∷ 1 ∷ 1 ∷ 1 ∷ 44 ∷ [])).1 refl

-- ---- from the sentence to its index

-- head 1 is held under 1 and says 0 before the pair of head 2 ends
abbrev holds_head1 : Head
holds_head1 = head 5 1 One u none 2

abbrev held_then_pair : List ℕ
held_then_pair = encode (ballot 2 1 One u ∷ ballot 1 1 Zero u ∷ ballot 2 1 Zero u ∷ [])

-- the ballot of a head that is held under nothing, and that comes first
quiet : Contradicts holds_head1 held_then_pair 0 → ⊥
unfolding computing
quiet (inl (j, b, x)) = omega (arith, b)
quiet (inr (here, (Zero, hears, other))) = never hears
quiet (inr (here, (One, hears, other))) = never hears
quiet (inr (here, (Blank, hears, other))) = never hears

pub what_is_held_comes_before_the_pair : tick_index holds_head1 held_then_pair 0 ≡ 1
unfolding computing
what_is_held_comes_before_the_pair =
    (O.a_tick_names_the_first_offending_ballot holds_head1 held_then_pair 0 1).1
    (by_difference refl (
      lit< tt,
      inr (refl, (One, refl, λ e. omega (arith, ap value_code e))),
      λ j b x. quiet (subst (Contradicts holds_head1 held_then_pair) (omega (arith, b)) x),
    ))

-- bytes that are no record name no ballot, whatever the list
pub no_record_names_none : (r l : List ℕ) (coin : ℕ) → (SoundRecord r → ⊥) → tick_index_from_c r l coin ≡ 0
no_record_names_none r l coin unsound =
    let three : tick_number_from_c r l coin ≡ 3 = (D.a_tick_from_c_is_refused_by_the_first_number_that_applies r l coin 3).1 (applies unsound) in
    (O.a_tick_from_c_names_the_first_offending_ballot r l coin 0).1
    (by_none (λ z. omega (arith, three, z)) (λ z. omega (arith, three, z)) (λ z. omega (arith, three, z)) refl)
