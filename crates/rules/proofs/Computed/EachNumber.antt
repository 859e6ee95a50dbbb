-- Document 01's numbers 1 to 11, computed: small calls of every entry, each with the number that its table gives. "The
-- first that applies, in this order": where two apply, the call says which.
use Prim.Native.Nat.{ℕ}
use mathlib.Core.Path.{◌≡◌, refl}
use mathlib.Core.List.{List, [], ◌∷◌, ◌++◌, map}
use lib.ListN.{replicate}
use Rattle.rules.specs.declared.Value.TheVariants.{Zero, One, Blank}
use Rattle.rules.specs.declared.Status.TheVariants.{Undecided as u, Decided as d}
use Rattle.rules.specs.declared.Decision.TheVariants.{Zero as ForZero, One as ForOne, Unwritten as none}
use Rattle.rules.specs.declared.Head.{Head}
use Rattle.rules.specs.Ballot.{ballot, encode, read_number}
use Rattle.rules.specs.Head.{head_with, nobody, zero_head, start_number, send_of}
use Rattle.rules.specs.Tick.{tick_number, tick_of, not_list}
use Rattle.rules.specs.Record.{start_number_from_c, record_after_start, tick_number_from_c, record_after_tick, send_number_from_c, buffer_after_send}
use Rattle.rules.specs.Sixteen.{start, head}
use Rattle.rules.proofs.Computed.Computing.{computing}
use mathlib.Core.Bool.{true, false}

-- the number that an entry gives, and the one that document 01 gives
pub record Numbered : Type 0 where
  pub gives : ℕ
  pub said : ℕ

abbrev of_start : ℕ → ℕ → ℕ → ℕ → Numbered
of_start n own proposal number = record { gives = start_number n own proposal; said = number }

abbrev of_reading : ℕ → List ℕ → ℕ → Numbered
of_reading n bytes number = record { gives = read_number n bytes; said = number }

abbrev of_sending : Head → ℕ → Numbered
of_sending h number = record { gives = (send_of h).number; said = number }

abbrev of_tick : Head → List ℕ → ℕ → ℕ → Numbered
of_tick h l coin number = record { gives = tick_number h l coin; said = number }

abbrev of_start_from_c : ℕ → ℕ → ℕ → ℕ → ℕ → Numbered
of_start_from_c size n own proposal number =
    record { gives = start_number_from_c (replicate size 255) n own proposal; said = number }

abbrev of_tick_from_c : List ℕ → List ℕ → ℕ → ℕ → Numbered
of_tick_from_c r l coin number = record { gives = tick_number_from_c r l coin; said = number }

abbrev of_ballot_from_c : List ℕ → ℕ → ℕ → Numbered
of_ballot_from_c r size number = record { gives = send_number_from_c r (replicate size 255); said = number }

-- ---- what the calls are handed

-- at phase 3, decided for 1
abbrev decided : Head
decided = head 3 3 One d ForOne 0

-- of five, at phase 1, that holds head 1 under 1; and the same at phase 3
abbrev holds1 : Head
holds1 = head 5 1 One u none 2

abbrev holds1at3 : Head
holds1at3 = head 5 3 One u none 2

-- a started head's record, with its bytes 4 to 7, value, status, decision and the zero byte, as said
abbrev coded : ℕ → ℕ → ℕ → ℕ → List ℕ
coded value status decision fourth =
    (3 ∷ 0 ∷ 0 ∷ 1 ∷ value ∷ status ∷ decision ∷ fourth ∷ []) ++ replicate 12 0

unfoldable pub starts_and_readings : List Numbered
starts_and_readings =
    -- ---- 1: "start ..: n not 2 to 32; start: own number not below n"; 2: "start: proposal above 1"
    of_start 1 0 1 1
    ∷ of_start 33 0 1 1
    ∷ of_start 3 3 1 1
    ∷ of_start 3 2 2 2
    ∷ of_start 3 3 2 1
    ∷ of_start 2 1 1 0
    ∷ of_start 32 31 0 0
    -- ---- reading one ballot: 1, 5 "not five bytes", 6 "a ballot breaks a ballot rule"
    ∷ of_reading 1 (0 ∷ 1 ∷ 1 ∷ 1 ∷ 44 ∷ []) 1
    ∷ of_reading 33 [] 1
    ∷ of_reading 3 (1 ∷ 1 ∷ 1 ∷ 1 ∷ []) 5
    ∷ of_reading 3 (3 ∷ 1 ∷ 1 ∷ 1 ∷ 44 ∷ 0 ∷ []) 5
    ∷ of_reading 3 (3 ∷ 1 ∷ 1 ∷ 1 ∷ 44 ∷ []) 6
    ∷ of_reading 3 (1 ∷ 1 ∷ 1 ∷ 1 ∷ 44 ∷ []) 0
    -- "phase 0 never stands"
    ∷ of_reading 3 (1 ∷ 1 ∷ 0 ∷ 0 ∷ 0 ∷ []) 6
    -- "Phase 1: value 0 or 1, undecided."
    ∷ of_reading 3 (1 ∷ 1 ∷ 0 ∷ 0 ∷ 1 ∷ []) 0
    ∷ of_reading 3 (1 ∷ 2 ∷ 0 ∷ 0 ∷ 1 ∷ []) 6
    ∷ of_reading 3 (1 ∷ 1 ∷ 1 ∷ 0 ∷ 1 ∷ []) 6
    -- "Phase 2: any value, undecided."
    ∷ of_reading 3 (1 ∷ 2 ∷ 0 ∷ 0 ∷ 2 ∷ []) 0
    ∷ of_reading 3 (1 ∷ 3 ∷ 0 ∷ 0 ∷ 2 ∷ []) 6
    ∷ of_reading 3 (1 ∷ 0 ∷ 1 ∷ 0 ∷ 2 ∷ []) 6
    -- "Odd from 3: value 0 or 1, either status."
    ∷ of_reading 3 (1 ∷ 0 ∷ 1 ∷ 0 ∷ 3 ∷ []) 0
    ∷ of_reading 3 (1 ∷ 2 ∷ 0 ∷ 0 ∷ 3 ∷ []) 6
    ∷ of_reading 3 (1 ∷ 0 ∷ 2 ∷ 0 ∷ 3 ∷ []) 6
    -- "Even from 4: any value; blank only when undecided."
    ∷ of_reading 3 (1 ∷ 2 ∷ 0 ∷ 0 ∷ 4 ∷ []) 0
    ∷ of_reading 3 (1 ∷ 2 ∷ 1 ∷ 0 ∷ 4 ∷ []) 6
    ∷ of_reading 3 (1 ∷ 0 ∷ 1 ∷ 0 ∷ 4 ∷ []) 0
    -- ---- sending: 3 "head not sound"
    ∷ of_sending (start 3) 0
    ∷ of_sending zero_head 3
    ∷ []

unfoldable pub ticks_by_value : List Numbered
ticks_by_value =
    -- ---- a tick: 3 before 4, 4 before 5
    of_tick zero_head [] 2 3
    ∷ of_tick (start 3) (7 ∷ []) 2 4
    ∷ of_tick (start 3) [] 2 4
    -- "A head is sound when": one clause broken at a time
    ∷ of_tick (head_with 33 0 1 One u none nobody) [] 0 3
    ∷ of_tick (head_with 3 3 1 One u none nobody) [] 0 3
    ∷ of_tick (head 3 1 Blank u none 0) [] 0 3
    ∷ of_tick (head 3 3 One d none 0) [] 0 3
    ∷ of_tick (head 3 3 One d ForZero 0) [] 0 3
    ∷ of_tick (head 3 2 One u ForOne 0) [] 0 3
    ∷ of_tick (head_with 5 0 3 One u none (λ v. 2)) [] 0 3
    ∷ of_tick (head 3 1 One u none 8) [] 0 3
    ∷ of_tick (record { n = 5; own = 0; phase = 3; value = One; status = u; decision = none; zeros = 0; ones = 0; blanks = 2 }) [] 0 3
    ∷ of_tick (record { n = 5; own = 0; phase = 4; value = One; status = u; decision = none; zeros = 2; ones = 4; blanks = 0 }) [] 0 3
    ∷ of_tick (head 3 1 Zero u none 1) [] 0 3
    -- 5: "list length not a multiple of 5, or over 320 bytes"; before 6
    ∷ of_tick (start 3) (9 ∷ 9 ∷ 9 ∷ 9 ∷ 9 ∷ 9 ∷ []) 0 5
    -- 6 before 7 and 8, wherever in the list
    ∷ of_tick (start 3) (encode (ballot 0 2 One u ∷ ballot 1 1 Zero u ∷ ballot 1 1 One u ∷ ballot 2 1 Blank u ∷ [])) 0 6
    -- 7: "a ballot under the head's own number has a higher phase, or the same phase and another value or status";
    -- before 8
    ∷ of_tick (start 3) (encode (ballot 1 1 Zero u ∷ ballot 1 1 One u ∷ ballot 0 2 One u ∷ [])) 0 7
    ∷ of_tick (start 3) (encode (ballot 0 1 Zero u ∷ [])) 0 7
    ∷ of_tick decided (encode (ballot 0 3 One u ∷ [])) 0 7
    ∷ of_tick decided (encode (ballot 0 2 Zero u ∷ [])) 0 0
    -- 8: "two ballots of one sender and phase differ": in value, in status, not next to each other, below the present
    -- phase
    ∷ of_tick (start 3) (encode (ballot 2 1 One u ∷ ballot 1 1 Zero u ∷ ballot 1 1 One u ∷ [])) 0 8
    ∷ of_tick (start 3) (encode (ballot 1 3 One u ∷ ballot 2 3 One u ∷ ballot 1 3 One d ∷ [])) 0 8
    ∷ of_tick decided (encode (ballot 1 1 Zero u ∷ ballot 1 1 One u ∷ [])) 0 8
    -- "or one at the present phase differs in value from what that sender is held under"
    ∷ of_tick holds1 (encode (ballot 1 1 Zero u ∷ [])) 0 8
    ∷ of_tick holds1 (encode (ballot 1 1 Zero u ∷ ballot 2 2 One u ∷ [])) 0 8
    ∷ of_tick holds1 (encode (ballot 1 1 One u ∷ ballot 1 2 Zero u ∷ [])) 0 0
    ∷ of_tick holds1at3 (encode (ballot 1 3 One d ∷ [])) 0 0
    ∷ of_tick holds1at3 (encode (ballot 1 1 Zero u ∷ [])) 0 0
    -- 9: "after step 2, phase even and both 0 and 1 heard", whether or not a step follows
    ∷ of_tick (start 32) (encode (ballot 1 2 Zero u ∷ ballot 2 2 One u ∷ [])) 0 9
    -- 10: "step 3 would need phase 65,536"; before 11
    ∷ of_tick (start 3) (encode (ballot 1 65535 One d ∷ ballot 2 65535 Zero u ∷ [])) 0 10
    -- 11: "decided with a blank, or with a value unlike the decision already written"
    ∷ of_tick decided (encode (ballot 1 3 Zero u ∷ ballot 2 3 One u ∷ [])) 0 11
    ∷ of_tick decided (encode (ballot 1 5 Zero d ∷ [])) 0 11
    ∷ of_tick decided (encode (ballot 1 5 Zero u ∷ [])) 0 0
    ∷ []

unfoldable pub calls_from_c : List Numbered
calls_from_c =
    -- ---- a start: 1, 2, then 3 "at a start from C, record not 20 bytes"
    of_start_from_c 19 33 0 2 1
    ∷ of_start_from_c 19 3 0 2 2
    ∷ of_start_from_c 19 3 0 1 3
    ∷ of_start_from_c 21 3 0 1 3
    ∷ of_start_from_c 20 3 0 1 0
    -- a tick: "Another length or a byte outside these codes makes it unsound."
    ∷ of_tick_from_c (coded 1 0 2 0) [] 0 0
    ∷ of_tick_from_c (coded 3 0 2 0) [] 2 3
    ∷ of_tick_from_c (coded 1 2 2 0) [] 2 3
    ∷ of_tick_from_c (coded 1 0 3 0) [] 2 3
    ∷ of_tick_from_c (coded 1 0 2 1) [] 2 3
    ∷ of_tick_from_c (coded 2 0 2 0) [] 2 3
    ∷ of_tick_from_c (coded 1 0 2 0 ++ (0 ∷ [])) [] 2 3
    ∷ of_tick_from_c (coded 1 0 2 0) [] 2 4
    ∷ of_tick_from_c (coded 1 0 2 0) (1 ∷ []) 0 5
    ∷ of_tick_from_c (coded 1 0 2 0) (1 ∷ 2 ∷ 0 ∷ 0 ∷ 1 ∷ []) 0 6
    ∷ of_tick_from_c (coded 1 0 2 0) (0 ∷ 0 ∷ 0 ∷ 0 ∷ 1 ∷ []) 0 7
    ∷ of_tick_from_c (coded 1 0 2 0) (1 ∷ 0 ∷ 0 ∷ 0 ∷ 1 ∷ 1 ∷ 1 ∷ 0 ∷ 0 ∷ 1 ∷ []) 0 8
    ∷ of_tick_from_c (coded 1 0 2 0) (1 ∷ 0 ∷ 0 ∷ 0 ∷ 2 ∷ 2 ∷ 1 ∷ 0 ∷ 0 ∷ 2 ∷ []) 0 9
    ∷ of_tick_from_c (coded 1 0 2 0) (1 ∷ 1 ∷ 0 ∷ 255 ∷ 255 ∷ 2 ∷ 1 ∷ 0 ∷ 255 ∷ 255 ∷ []) 0 10
    ∷ of_tick_from_c (coded 1 0 2 0) (1 ∷ 0 ∷ 1 ∷ 0 ∷ 5 ∷ 2 ∷ 1 ∷ 0 ∷ 0 ∷ 5 ∷ []) 0 11
    -- a ballot: "a length other than five is 5, after 3"
    ∷ of_ballot_from_c (coded 1 0 2 0) 5 0
    ∷ of_ballot_from_c (coded 1 0 2 0) 4 5
    ∷ of_ballot_from_c (coded 1 0 2 0) 6 5
    ∷ of_ballot_from_c (coded 3 0 2 0) 4 3
    ∷ of_ballot_from_c [] 5 3
    ∷ []

abbrev Right : List Numbered → Type 0
Right calls = map (λ (c : Numbered). c.gives) calls ≡ map (λ (c : Numbered). c.said) calls

pub each_start_and_reading_has_its_number : Right starts_and_readings
unfolding starts_and_readings computing
each_start_and_reading_has_its_number = refl

pub each_tick_has_its_number : Right ticks_by_value
unfolding ticks_by_value computing
each_tick_has_its_number = refl

pub each_call_from_c_has_its_number : Right calls_from_c
unfolding calls_from_c computing
each_call_from_c_has_its_number = refl

-- "over 320 bytes": 65 ballots are no list, 64 are
pub at_most_64_ballots : (not_list (encode (replicate 64 (ballot 1 1 One u))) ∷ not_list (encode (replicate 65 (ballot 1 1 One u))) ∷ [])
    ≡ (false ∷ true ∷ [])
unfolding computing
at_most_64_ballots = refl

-- ---- what they leave

-- the record and the buffer after each entry: accepted, then refused
pub what_is_left :
    (record_after_start (replicate 20 255) 3 0 1 ∷ record_after_start (1 ∷ 2 ∷ []) 3 0 1
    ∷ record_after_tick (coded 1 0 2 0) (1 ∷ 1 ∷ 0 ∷ 0 ∷ 1 ∷ []) 0 ∷ record_after_tick (coded 1 0 2 0) (7 ∷ []) 0
    ∷ buffer_after_send (coded 1 0 2 0) (replicate 5 255) ∷ buffer_after_send (coded 1 0 2 0) (replicate 4 255) ∷ [])
    ≡ (coded 1 0 2 0 ∷ (1 ∷ 2 ∷ [])
    ∷ ((3 ∷ 0 ∷ 0 ∷ 1 ∷ 1 ∷ 0 ∷ 2 ∷ 0 ∷ []) ++ replicate 7 0 ++ (2 ∷ []) ++ replicate 4 0) ∷ coded 1 0 2 0
    ∷ (0 ∷ 1 ∷ 0 ∷ 0 ∷ 1 ∷ []) ∷ (0 ∷ 0 ∷ 0 ∷ 0 ∷ []) ∷ [])
unfolding computing
what_is_left = refl

-- "Heard sets now hold that phase's ballots only.": head 1, held at phase 1, is not held at phase 3
pub a_list_replaces_what_was_held : (tick_of holds1 (encode (ballot 2 3 One u ∷ ballot 1 1 One u ∷ [])) 0).head ≡ head 5 3 One u none 4
unfolding computing
a_list_replaces_what_was_held = refl
