-- The ballots that are not lost, one after the other: what stands from turn to turn.
use Prim.Native.Nat.{ℕ, zero, suc, ◌+◌, ◌≤◌, ◌<◌, min}
use mathlib.Core.Path.{◌≡◌, refl, sym, ap, ap₂, ◌∙◌}
use mathlib.Core.List.{List, [], ◌++◌, append-nil}
use mathlib.Core.Bool.{Bool, true, false, cond, ◌&&◌, not}
use native.Mathlib.Decide.{dec_lt, ℕ_discrete}
use native.Mathlib.Omega.{arith}
use native.Mathlib.Numerals.{add-one}
use lib.ListN.{length, take, set, get_or, replicate, length-set}
use lib.Dec.{leb, eqb}
use borrow.Author.Tests.{not-false, not-true, le-leb, lt-leb, eq-eqb, ne_eqb}
use Rattle.std.specs.List.{flat_map}
use Rattle.std.proofs.lemmas.List.{take_more_set, take_more, take_all, flat_map_more}
use Rattle.rules.specs.Below.{first}
use Rattle.rules.specs.Heard.{member, set_of}
use Rattle.rules.proofs.Counting.Truth.{never, and_always, and_never}
use Rattle.rules.proofs.Counting.Below.{first_le, first_holds, first_before}
use Rattle.rules.proofs.Counting.Sets.{member_none, member_set_of}
use Rattle.run.specs.Received.{received_from}

-- the bytes of ballots, one after the other
abbrev pub in_turn : List (List ℕ) → List ℕ
in_turn = flat_map (λ ballot. ballot)

-- lost ones add nothing
skipped : (sent : List (List ℕ)) (lost from k : ℕ) → from ≤ k → ((s : ℕ) → from ≤ s → s < k → member s lost ≡ true)
    → received_from sent lost k ≡ received_from sent lost from
skipped sent lost from zero h gone = let e : zero ≡ from = omega arith in ap (received_from sent lost) e
skipped sent lost from (suc k) h gone = go (ℕ_discrete from (suc k)) (λ less. skipped sent lost from k less (λ s a b. gone s a (omega arith)))
  where
    go : Dec (from ≡ suc k) → (from ≤ k → received_from sent lost k ≡ received_from sent lost from)
        → received_from sent lost (suc k) ≡ received_from sent lost from
    go (yes e) f = ap (received_from sent lost) (sym e)
    go (no e) f =
        let less : from ≤ k = omega (arith, e) in
        ap (λ (t : Bool). received_from sent lost k ++ cond t [] (get_or sent k [])) (gone k less (omega arith))
        ∙ append-nil (received_from sent lost k) ∙ f less

-- the heads from a number on that are not lost
abbrev pub Left : ℕ → ℕ → ℕ → Type 0
Left lost from left = (s : ℕ) → s < 32 → member s left ≡ leb from s && not (member s lost)

-- k is the next head that is not lost, if it is below n; the ballots of those before it that are not lost are the first
-- `count` of the list
abbrev pub Kept : List (List ℕ) → ℕ → List (List ℕ) → ℕ → ℕ → ℕ → Type 0
Kept sent lost list left k count =
    (count ≤ k) × (length list ≡ 32) × (in_turn (take count list) ≡ received_from sent lost (min k (length sent)))
    × Left lost k left × (k ≡ first 32 (λ s. member s left))

module _ (sent list : List (List ℕ)) (lost from left k count : ℕ) (few : length sent ≤ 32) (low : from ≤ length sent)
    (is_left : Left lost from left) (next : k ≡ first 32 (λ s. member s left)) where
  not_left : (s : ℕ) → s < k → member s left ≡ false
  not_left s h = first_before 32 (λ s. member s left) s (omega (arith, next))

  k_small : k ≤ 32
  k_small = omega (arith, next, first_le 32 (λ s. member s left))

  not_below : from ≤ k
  not_below = elim (dec_lt k from) [ yes l ↦ never (sym (absent l) ∙ there l) | no l ↦ omega (arith, l) ]
    where
      absent : k < from → member k left ≡ false
      absent l = is_left k (omega arith) ∙ ap (λ (t : Bool). t && not (member k lost)) (lt-leb from k l)

      there : k < from → member k left ≡ true
      there l = ap (λ (x : ℕ). member x left) next ∙ first_holds 32 (λ s. member s left) (omega (arith, next))

  gone : (s : ℕ) → from ≤ s → s < k → member s lost ≡ true
  gone s a b =
      let e : leb from s && not (member s lost) ≡ false = sym (is_left s (omega (arith, k_small))) ∙ not_left s b in
      not-false (member s lost) (sym (ap (λ (t : Bool). t && not (member s lost)) (le-leb from s a)) ∙ e)

  left_from_next : Left lost k left
  left_from_next s h = elim (dec_lt s k) [
    | yes l ↦ not_left s l ∙ sym (rw (lt-leb k s l) refl)
    | no l ↦ is_left s h
        ∙ rw (le-leb from s (omega (arith, l, not_below)), le-leb k s (omega (arith, l))) refl
  ]

  -- on to the next head that is not lost
  to_next : count ≤ from → length list ≡ 32 → in_turn (take count list) ≡ received_from sent lost from
      → Kept sent lost list left k count
  to_next short long so_far = (
    omega (arith, short, not_below),
    long,
    so_far ∙ sym (skipped sent lost from (min k (length sent)) (omega (arith, not_below)) (λ s a b. gone s a (omega arith))),
    left_from_next,
    next,
  )

-- before the first turn
pub none_kept : (sent : List (List ℕ)) (lost left k : ℕ) → length sent ≤ 32
    → left ≡ set_of 32 (λ s. not (member s lost)) → k ≡ first 32 (λ s. member s left)
    → Kept sent lost (replicate 32 (replicate 5 0)) left k 0
none_kept sent lost left k few is next =
    to_next sent (replicate 32 (replicate 5 0)) lost 0 left k 0 few (omega arith)
    (λ s h. ap (member s) is ∙ member_set_of 32 (λ s. not (member s lost)) s h
    ∙ sym (rw (le-leb 0 s (omega arith)) refl)) next (omega arith) refl refl

-- the next head is there, and the one after it is behind it
pub next_present : (sent list : List (List ℕ)) (lost left k count : ℕ) → length sent ≤ 32
    → Kept sent lost list left k count → k < length sent → member k left ≡ true
next_present sent list lost left k count few kept less =
    ap (λ (x : ℕ). member x left) kept.4 ∙ first_holds 32 (λ s. member s left) (omega (arith, kept.4))

pub next_later : (left left' k k' : ℕ) → left' ≡ set_of 32 (λ t. member t left && not (eqb k t))
    → k' ≡ first 32 (λ s. member s left')
    → k ≡ first 32 (λ s. member s left) → k < 32 → k < k'
next_later left left' k k' is next' next less = elim (dec_lt k k') [
  | yes l ↦ l
  | no l ↦ never (sym (not_there l) ∙ there l)
]
  where
    there : (k < k' → ⊥) → member k' left' ≡ true
    there l = ap (λ (x : ℕ). member x left') next'
        ∙ first_holds 32 (λ s. member s left') (omega (arith, next', l, less))

    not_there : (k < k' → ⊥) → member k' left' ≡ false
    not_there l = ap (member k') is
        ∙ member_set_of 32 (λ t. member t left && not (eqb k t)) k' (omega (arith, l, less))
        ∙ go (ℕ_discrete k k')
      where
        go : Dec (k ≡ k') → member k' left && not (eqb k k') ≡ false
        go (yes e) = rw (eq-eqb k k' e) (and_never (member k' left))
        go (no e) = rw (first_before 32 (λ s. member s left) k' (omega (arith, next, l, e))) refl

-- a turn
pub one_kept : (sent list : List (List ℕ)) (lost left left' k k' count : ℕ) → length sent ≤ 32
    → Kept sent lost list left k count → k < length sent
    → left' ≡ set_of 32 (λ t. member t left && not (eqb k t))
    → k' ≡ first 32 (λ s. member s left') → Kept sent lost (set list count (get_or sent k [])) left' k' (count + 1)
one_kept sent list lost left left' k k' count few kept less left_is next =
    to_next sent (set list count (get_or sent k [])) lost (suc k) left' k' (count + 1) few less still_left next
    (omega (arith, kept.0)) (rw length-set kept.1) so_far
  where
    here : min k (length sent) ≡ k
    here = omega arith

    not_lost : member k lost ≡ false
    not_lost =
        not-true (member k lost)
        (sym (ap (λ (t : Bool). t && not (member k lost)) (le-leb k k (omega arith))) ∙ sym (kept.3 k (omega arith))
        ∙ next_present sent list lost left k count few kept less)

    so_far : in_turn (take (count + 1) (set list count (get_or sent k []))) ≡ received_from sent lost (suc k)
    so_far =
        ap in_turn (take_more_set list count (get_or sent k []) (omega (arith, kept.0, kept.1)))
        ∙ sym (flat_map_more (λ (ballot : List ℕ). ballot) [] (take count list) (get_or sent k []))
        ∙ ap (λ (bytes : List ℕ). bytes ++ get_or sent k []) (kept.2 ∙ ap (received_from sent lost) here)
        ∙ sym (ap (λ (t : Bool). received_from sent lost k ++ cond t [] (get_or sent k [])) not_lost)

    still_left : Left lost (suc k) left'
    still_left s h = ap (member s) left_is ∙ member_set_of 32 (λ t. member t left && not (eqb k t)) s h
        ∙ go (ℕ_discrete k s)
      where
        go : Dec (k ≡ s) → member s left && not (eqb k s) ≡ leb (suc k) s && not (member s lost)
        go (yes e) = rw (eq-eqb k s e, lt-leb (suc k) s (omega (arith, e))) (and_never (member s left))
        go (no e) = rw (ne_eqb k s e) (and_always (member s left) ∙ kept.3 s h
            ∙ elim (dec_lt s k) [
              | yes l ↦ rw (lt-leb k s l, lt-leb (suc k) s (omega (arith, l))) refl
              | no l ↦ rw (le-leb k s (omega (arith, l)), le-leb (suc k) s (omega (arith, l, e))) refl
            ])

-- what was written stands in the list
pub within : (sent list : List (List ℕ)) (lost left k count : ℕ) → Kept sent lost list left k count → count ≤ length list
within sent list lost left k count kept =
    omega (arith, kept.0, kept.1, kept.4, first_le 32 (λ s. member s left))

-- where nothing is lost, all are received
pub all_received : (sent : List (List ℕ)) → received_from sent 0 (length sent) ≡ in_turn sent
all_received sent = go (length sent) (omega arith) ∙ ap in_turn (take_all (length sent) sent (omega arith))
  where
    go : (k : ℕ) → k ≤ length sent → received_from sent 0 k ≡ in_turn (take k sent)
    go zero h = refl
    go (suc k) h =
        ap₂ (λ (bytes : List ℕ) (t : Bool). bytes ++ cond t [] (get_or sent k [])) (go k (omega arith)) (member_none k)
        ∙ flat_map_more (λ (ballot : List ℕ). ballot) [] (take k sent) (get_or sent k [])
        ∙ ap in_turn (sym (take_more sent k [] (omega arith)) ∙ ap (λ (n : ℕ). take n sent) (add-one k))
