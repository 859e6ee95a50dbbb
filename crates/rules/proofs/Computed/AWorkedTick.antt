-- Demand 2 at single ticks, computed, each after the ticks that lead to it from a start: under a wrong rule the
-- demand's own statement is false at one of them. The cases are document 01's.
use Prim.Native.Nat.{ℕ}
use mathlib.Core.Path.{◌≡◌, refl}
use mathlib.Core.List.{List, [], ◌∷◌}
use Rattle.rules.specs.declared.Value.{Value}
use Rattle.rules.specs.declared.Value.TheVariants.{Zero, One, Blank}
use Rattle.rules.specs.declared.Status.{Status}
use Rattle.rules.specs.declared.Status.TheVariants.{Undecided as u, Decided as d}
use Rattle.rules.specs.declared.Decision.{Decision}
use Rattle.rules.specs.declared.Decision.TheVariants.{One as ForOne, Unwritten as none}
use Rattle.rules.specs.declared.Ballot.{Ballot}
use Rattle.rules.specs.Algorithm.{Process, process_with}
use Rattle.rules.specs.History.{Handed, head_after, accepted_of, process_after, Shows}
use Rattle.rules.proofs.Computed.Computing.{computing, shows}
use Rattle.rules.specs.Ballot.{ballot, encode}
use Rattle.rules.proofs.Paper.HeardSoFar.{heard_in}

-- "coin 0 unless said"
abbrev tick : List Ballot → Handed
tick list = record { bytes = encode list; coin = 0 }

-- "own number 0, proposal 1": the ticks, the last first, are accepted and do what Algorithm 1 does
abbrev Does : ℕ → List Handed → Type 0
Does n ticks = (accepted_of n 0 1 ticks ≡ ticks) × Shows (head_after n 0 1 ticks) (process_after n 0 1 ticks)

-- the process that they leave
abbrev process : ℕ → List Handed → ℕ → Value → Status → Decision → Process
process n ticks phase value status decision = process_with n 0 phase value status decision (heard_in ticks)

abbrev case2 : List Handed
case2 = tick (ballot 0 1 One u ∷ ballot 1 1 One u ∷ []) ∷ []

-- "A tick that returns its head unchanged"; "Old ballots of the phase left in the sets after step .. 3"
pub a_tick_steps : Does 3 case2
unfolding computing
a_tick_steps = (refl, shows (process 3 case2 2 One u none) refl refl refl refl refl refl refl refl refl refl refl)

abbrev repeated : List Handed
repeated = tick (ballot 1 1 One u ∷ ballot 1 1 One u ∷ ballot 1 1 One u ∷ []) ∷ []

-- "Ballots counted instead of senders, so that a repeat makes a majority."
pub senders_are_counted : Does 4 repeated
unfolding computing
senders_are_counted = (refl, shows (process 4 repeated 1 One u none) refl refl refl refl refl refl refl refl refl refl refl)

-- head 1 is heard at phase 1, then head 2 at phase 3
abbrev moved_to3 : List Handed
moved_to3 = tick (ballot 2 3 One u ∷ []) ∷ tick (ballot 1 1 One u ∷ []) ∷ []

-- "Old ballots of the phase left in the sets after step 2"
pub that_phase_only_is_held : Does 4 moved_to3
unfolding computing
that_phase_only_is_held = (refl, shows (process 4 moved_to3 3 One u none) refl refl refl refl refl refl refl refl refl refl refl)

abbrev ahead_at3 : List Handed
ahead_at3 = tick (ballot 1 3 One d ∷ []) ∷ []

-- "take phase, value and status from a ballot of the highest phase"
pub the_status_is_taken : Does 3 ahead_at3
unfolding computing
the_status_is_taken = (refl, shows (process 3 ahead_at3 3 One d ForOne) refl refl refl refl refl refl refl refl refl refl refl)

abbrev case7 : List Handed
case7 = tick (ballot 0 2 One u ∷ ballot 1 2 One u ∷ []) ∷ case2

-- "an engine that truly steps at the first tick and afterwards only raises the phase"
pub a_later_tick_steps_too : Does 3 case7
unfolding computing
a_later_tick_steps_too = (refl, shows (process 3 case7 3 One d ForOne) refl refl refl refl refl refl refl refl refl refl refl)

abbrev case8 : List Handed
case8 = tick (ballot 1 4 One u ∷ []) ∷ case7

-- "Status "decided" treated as lasting, or the decision erased with it: case 8."
pub decided_is_not_lasting : Does 3 case8
unfolding computing
decided_is_not_lasting = (refl, shows (process 3 case8 4 One u ForOne) refl refl refl refl refl refl refl refl refl refl refl)

abbrev case4 : List Handed
case4 = tick (ballot 0 1 One u ∷ ballot 1 1 One u ∷ ballot 2 1 Zero u ∷ []) ∷ []

-- "A majority of those heard instead of all n: case 4 would take 1."
pub a_majority_is_one_of_all_n : Does 4 case4
unfolding computing
a_majority_is_one_of_all_n = (refl, shows (process 4 case4 2 Blank u none) refl refl refl refl refl refl refl refl refl refl refl)

abbrev case6 : List Handed
case6 = tick (ballot 0 2 Blank u ∷ ballot 1 2 One u ∷ ballot 2 2 Blank u ∷ []) ∷ case4

-- "A coin drawn although one value was heard: case 6."
pub a_value_heard_is_taken : Does 4 case6
unfolding computing
a_value_heard_is_taken = (refl, shows (process 4 case6 3 One u none) refl refl refl refl refl refl refl refl refl refl refl)

-- ---- the paper's lines 9, 22 and 28 at their edges

abbrev beside : List Handed
beside = tick (ballot 1 1 Zero u ∷ []) ∷ []

-- line 9: φ' > φ; a ballot of the same phase is not copied
pub the_same_phase_is_not_copied : Does 4 beside
unfolding computing
the_same_phase_is_not_copied =
    (refl, shows (process 4 beside 1 One u none) refl refl refl refl refl refl refl refl refl refl refl)

abbrev half : List Handed
half = tick (ballot 0 2 Blank u ∷ ballot 1 2 One u ∷ ballot 2 2 One u ∷ []) ∷ case4

-- line 22: over half of 4 is 3, not 2
pub half_does_not_decide : Does 4 half
unfolding computing
half_does_not_decide = (refl, shows (process 4 half 3 One u none) refl refl refl refl refl refl refl refl refl refl refl)

abbrev most : List Handed
most = tick (ballot 1 2 One u ∷ ballot 2 2 One u ∷ ballot 3 2 One u ∷ []) ∷ case4

pub more_than_half_decides : Does 4 most
unfolding computing
more_than_half_decides = (refl, shows (process 4 most 3 One d ForOne) refl refl refl refl refl refl refl refl refl refl refl)

abbrev case5 : List Handed
case5 =
    record { bytes = encode (ballot 0 2 Blank u ∷ ballot 1 2 Blank u ∷ ballot 2 2 Blank u ∷ []); coin = 1 } ∷ case4

-- line 28: nobody was heard with 0 or 1, and the coin is taken
pub the_coin_is_taken : Does 4 case5
unfolding computing
the_coin_is_taken = (refl, shows (process 4 case5 3 One u none) refl refl refl refl refl refl refl refl refl refl refl)

-- ---- "Each accepted tick": one that is refused between two others is none of Algorithm 1's

abbrev refused_between : List Handed
refused_between = tick (ballot 0 2 One u ∷ ballot 1 2 One u ∷ []) ∷ tick (ballot 0 9 One u ∷ []) ∷ case2

pub a_refused_tick_is_none : accepted_of 3 0 1 refused_between ≡ case7
unfolding computing
a_refused_tick_is_none = refl
