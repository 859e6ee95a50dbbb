-- One tick, with its refusals. Document 01, 'One tick' and 'Numbers given back', sentence by sentence. These are tests;
-- what they mean is in Given.
use Rattle.std.specs.Prelude.{ℕ, ◌+◌, ◌/◌, ◌%◌, List, [], Result, Ok, Err, ◌∷◌, Bool, cond, ◌&&◌, ◌||◌, not, length, ltb, leb, eqb}
use Rattle.rules.specs.declared.Value.{Value}
use Rattle.rules.specs.declared.Value.TheVariants.{Zero, One, Blank}
use Rattle.rules.specs.declared.Status.{Status}
use Rattle.rules.specs.declared.Status.TheVariants.{Decided}
use Rattle.rules.specs.declared.Decision.{Decision}
use Rattle.rules.specs.declared.Ballot.{Ballot}
use Rattle.rules.specs.declared.Head.{Head}
use Rattle.rules.specs.declared.Refused.{Refused}
use Rattle.rules.specs.Answer.{Ticked}
use Rattle.rules.specs.Refusal.{number_of, index_of}
use Rattle.rules.specs.Number.{◌when◌, first_that_applies}
use Rattle.rules.specs.Below.{first, some}
use Rattle.rules.specs.Ballot.{value_of, status_code, same_value, ballot_at, breaks_rule}
use Rattle.rules.specs.Heard.{member, set_of, size, over_half, heard, says}
use Rattle.rules.specs.Choice.{ahead, bit_with}
use Rattle.rules.specs.Head.{head_with, nobody, decision_for, is_decided, is_written, decision_is_value, any_heard, stands_under, sound, ballot_of}
use Rattle.rules.specs.Sizes.{heads_most, ballot_bytes, list_bytes_most}

-- how many ballots a list of bytes holds
abbrev pub ballots : List ℕ → ℕ
ballots l = length l / ballot_bytes

-- ---- Steps 1 and 2

-- the index of "a ballot of the highest phase; among several senders the lowest number gives it": none is ahead of it
unfoldable pub leader : List ℕ → ℕ
leader l = first (ballots l) (λ i. not (some (ballots l) (λ j. ahead (ballot_at l j) (ballot_at l i))))

-- "take phase, value and status from a ballot ..; Heard sets now hold that phase's ballots only"
abbrev pub copying : Head → Ballot → Head
copying h b = head_with h.n h.own b.phase b.value b.status h.decision nobody

-- "If some ballot has a higher phase"
unfoldable pub moved : Head → List ℕ → Head
moved h l = cond (some (ballots l) (λ i. ltb h.phase (ballot_at l i).phase)) (copying h (ballot_at l (leader l))) h

-- the set of v with the senders of all ballots of the head's phase that say v; "Equal repeats count once."
unfoldable pub heard_with : Head → List ℕ → Value → ℕ
heard_with h l v =
    set_of heads_most (λ s. member s (heard h v) || some (ballots l) (λ i. says h.phase v s (ballot_at l i)))

-- Step 1: "Add the ballots to what was heard."
unfoldable pub added : Head → List ℕ → Head
added h l = head_with h.n h.own h.phase h.value h.status h.decision (heard_with h l)

-- The head after steps 1 and 2. Only ballots of the phase that step 2 ends at are held, so they are added at that
-- phase.
unfoldable pub gathered : Head → List ℕ → Head
gathered h l = added (moved h l) l

-- ---- Step 3

-- "the number of heads heard at the phase, doubled, exceeds n"
unfoldable pub quorum : Head → Bool
quorum h = over_half h.n (size h.zeros + size h.ones + size h.blanks)

-- v "was heard from more than n/2 heads"
unfoldable pub majority : Head → Value → Bool
majority h v = over_half h.n (size (heard h v))

-- "odd phase: if a value was heard from more than n/2 heads, take it, else blank;
-- even phase: .. take the value 0 or 1 that was heard at all, else the coin"
unfoldable pub step_value : Head → ℕ → Value
step_value h coin = cond (eqb (h.phase % 2) 1) (bit_with (majority h) Blank) (bit_with (any_heard h) (value_of coin))

-- "even phase: if a value 0 or 1 was heard from more than n/2 heads, become decided"
unfoldable pub step_status : Head → Status
step_status h = cond (eqb (h.phase % 2) 0 && (majority h Zero || majority h One)) Decided h.status

-- "Then phase rises by one and the sets become empty."
abbrev pub risen : Head → ℕ → Head
risen h coin = head_with h.n h.own (h.phase + 1) (step_value h coin) (step_status h) h.decision nobody

-- "If the number of heads heard .. exceeds n, step"
unfoldable pub stepped : Head → ℕ → Head
stepped h coin = cond (quorum h) (risen h coin) h

-- ---- Step 4: "If decided, the decision is the value."
abbrev pub decision_after : Head → Decision
decision_after h = cond (is_decided h) (decision_for h.value) h.decision

unfoldable pub settled : Head → Head
settled h = head_with h.n h.own h.phase h.value h.status (decision_after h) (heard h)

-- ---- The refusals

-- 5: "list length not a multiple of 5, or over 320 bytes"
unfoldable pub not_list : List ℕ → Bool
not_list l = not (eqb (length l % ballot_bytes) 0) || ltb list_bytes_most (length l)

-- the same value and status
unfoldable pub same_state : Ballot → Ballot → Bool
same_state a b = same_value a.value b.value && eqb (status_code a.status) (status_code b.status)

-- 7: "a ballot under the head's own number has a higher phase, or the same phase and another value or status"
unfoldable pub own_otherwise : Head → Ballot → Bool
own_otherwise h b =
    eqb b.sender h.own
    && (ltb h.phase b.phase || (eqb b.phase h.phase && not (same_state b (ballot_of h))))

-- 8: "two ballots of one sender and phase differ"
unfoldable pub differ : Ballot → Ballot → Bool
differ a b = eqb a.sender b.sender && (eqb a.phase b.phase && not (same_state a b))

-- 8: "one at the present phase differs in value from what that sender is held under"
unfoldable pub held_otherwise : Head → Ballot → Bool
held_otherwise h b = eqb b.phase h.phase && not (stands_under h b.sender b.value)

-- 8, of the ballot at index i: it differs from an earlier one, or from what is held
unfoldable pub contradicts : Head → List ℕ → ℕ → Bool
contradicts h l i = some i (λ j. differ (ballot_at l j) (ballot_at l i)) || held_otherwise h (ballot_at l i)

-- 9: "after step 2, phase even and both 0 and 1 heard"
unfoldable pub both_heard : Head → Bool
both_heard h = eqb (h.phase % 2) 0 && (any_heard h Zero && any_heard h One)

-- 10: "step 3 would need phase 65,536"
unfoldable pub phases_end : Head → Bool
phases_end h = quorum h && leb 65536 (h.phase + 1)

-- 11: "the end would be decided with a blank, or with a value unlike the decision already written"
unfoldable pub decides_otherwise : Head → Bool
decides_otherwise h = is_decided h && (same_value h.value Blank || (is_written h && not (decision_is_value h)))

-- "The first that applies, in this order"
unfoldable pub tick_number : Head → List ℕ → ℕ → ℕ
tick_number h l coin =
    first_that_applies
    ((3 when not (sound h))
    ∷ (4 when ltb 1 coin)
    ∷ (5 when not_list l)
    ∷ (6 when some (ballots l) (breaks_rule h.n l))
    ∷ (7 when some (ballots l) (λ i. own_otherwise h (ballot_at l i)))
    ∷ (8 when some (ballots l) (contradicts h l))
    ∷ (9 when both_heard (gathered h l))
    ∷ (10 when phases_end (gathered h l))
    ∷ (11 when decides_otherwise (stepped (gathered h l) coin))
    ∷ [])

-- W1: "the index, from 0, of the first offending ballot: for 6 and 7 the first that breaks the rule, for 8 the first
-- that differs from an earlier one or from what is held. Other numbers give index 0."
unfoldable pub offender : ℕ → Head → List ℕ → ℕ
offender number h l =
    cond (eqb number 6) (first (ballots l) (breaks_rule h.n l))
    (cond (eqb number 7) (first (ballots l) (λ i. own_otherwise h (ballot_at l i)))
    (cond (eqb number 8) (first (ballots l) (contradicts h l)) 0))

unfoldable pub tick_index : Head → List ℕ → ℕ → ℕ
tick_index h l coin = offender (tick_number h l coin) h l

-- Steps 1 to 4; "A refused tick gives back the head as it came, sound or not."
unfoldable pub tick_of : Head → List ℕ → ℕ → Ticked
tick_of h l coin =
    let number = tick_number h l coin in
    record {
      number = number;
      index = tick_index h l coin;
      head = cond (eqb number 0) (settled (stepped (gathered h l) coin)) h;
    }

-- what each answer of a tick stands for
abbrev pub tick_given : Result Head Refused → Ticked
tick_given (Ok head) = record { number = 0; index = 0; head = head }
tick_given (Err refused) =
    record { number = number_of refused.refusal; index = index_of refused.refusal; head = refused.head }
