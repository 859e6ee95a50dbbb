-- What AWorkedRun computes with are runs of demand 3: the heads' proposals are bits, and every event is a tick of a
-- round.
use Prim.Native.Nat.{ℕ, ◌<◌}
use mathlib.Core.List.{List, [], ◌∷◌, ◌++◌}
use lib.Dec.{lit<, lit≤}
use Rattle.rules.specs.Given.{Heads}
use Rattle.rules.specs.Run.{Vote, Proper, Run}
use Rattle.rules.proofs.Computed.Computing.{Each, each}
use Rattle.rules.proofs.Computed.AWorkedRun.{losing, rounds, two_rounds, two_of_two, two_of_three, earlier, last, halves, alone, moving, decides, later}
use Rattle.rules.proofs.Rounds.Rounds.{round_is_run}

proper : (vote : Vote) → Heads vote.n → Each vote.n (λ s. vote.proposal s < 2) → Proper vote
proper vote heads bits = record { heads = heads; bits = each vote.n (λ s. vote.proposal s < 2) bits }

rounds_run : (vote : Vote) → Proper vote → (rows : List (List ℕ)) → Run vote (rounds vote rows)
rounds_run vote p [] = p
rounds_run vote p (now ∷ before) = round_is_run vote (rounds vote before) (losing now) (rounds_run vote p before) (λ s h. lit< tt)

-- the proposals are bits
two_of_two_lem : (bit : ℕ) → bit < 2 → Proper (two_of_two bit)
two_of_two_lem bit h = proper (two_of_two bit) (lit≤ tt, lit≤ tt) ((tt, h), h)

pub two_of_three_lem : (bit other : ℕ) → bit < 2 → other < 2 → Proper (two_of_three bit other)
two_of_three_lem bit other h k = proper (two_of_three bit other) (lit≤ tt, lit≤ tt) (((tt, h), h), k)

-- the run of a_tick_is_accepted
pub accepted_run : Run (two_of_two 1) (last ∷ earlier)
accepted_run = rounds_run (two_of_two 1) (two_of_two_lem 1 (lit< tt)) ([] ∷ [])

-- the run of two_halves_do_not_differ
pub halves_run : Run halves (rounds halves alone)
halves_run = rounds_run halves (proper halves (lit≤ tt, lit≤ tt) ((tt, lit< tt), lit< tt)) alone

-- the runs of a_decision_for_0_was_proposed and a_decision_for_1_was_proposed
pub proposed_run : (bit : ℕ) → bit < 2 → Run (two_of_two bit) (two_rounds (two_of_two bit))
proposed_run bit h = rounds_run (two_of_two bit) (two_of_two_lem bit h) ([] ∷ [] ∷ [])

-- the run of a_decision_stays
pub stays_run : Run (two_of_three 1 0) (later ++ decides)
stays_run = rounds_run (two_of_three 1 0) (two_of_three_lem 1 0 (lit< tt) (lit< tt)) moving
