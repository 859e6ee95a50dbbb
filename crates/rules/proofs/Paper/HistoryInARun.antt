-- Demand 3 is "under demand 2": a head of a run is the head of the history of its own ticks.
use Prim.Native.Nat.{ℕ, ◌<◌}
use mathlib.Core.Path.{◌≡◌, refl, ap}
use mathlib.Core.List.{List, [], ◌∷◌}
use mathlib.Core.Bool.{Bool, true, false, cond}
use lib.Dec.{eqb}
use Rattle.rules.specs.declared.Head.{Head}
use Rattle.rules.specs.Tick.{tick_of}
use Rattle.rules.specs.History.{Handed, head_after, accepted_of, process_after, Shows}
use Rattle.rules.specs.Run.{Vote, Event, head_in, ticks_of, Run}
use Rattle.rules.proofs.OneTick.Starts.{start_taken}
use Rattle.rules.proofs.Rounds.Rounds.{run_proper}
use Rattle.rules.proofs.Paper.AsAlgorithm.{as_algorithm_1}

-- every head of every sequence of events is the head after its own ticks
pub head_after_its_ticks : (vote : Vote) (events : List Event) (s : ℕ)
    → head_in vote events s ≡ head_after vote.n s (vote.proposal s) (ticks_of s events)
head_after_its_ticks vote [] s = refl
head_after_its_ticks vote (e ∷ events) s = go (eqb e.head s) (head_after_its_ticks vote events s)
  where
    after : List Handed → Head
    after = head_after vote.n s (vote.proposal s)

    now : Handed
    now = record { bytes = e.bytes; coin = e.coin }

    go : (t : Bool) → head_in vote events s ≡ after (ticks_of s events)
        → cond t (tick_of (head_in vote events s) e.bytes e.coin).head (head_in vote events s)
        ≡ after (cond t (now ∷ ticks_of s events) (ticks_of s events))
    go true i = ap (λ (h : Head). (tick_of h e.bytes e.coin).head) i
    go false i = i

pub as_algorithm_1_in_a_run : (vote : Vote) (events : List Event) → Run vote events → (s : ℕ) → s < vote.n
    → Shows (head_in vote events s) (process_after vote.n s (vote.proposal s) (accepted_of vote.n s (vote.proposal s) (ticks_of s events)))
as_algorithm_1_in_a_run vote events run s h =
    rw (head_after_its_ticks vote events s)
    (as_algorithm_1 vote.n s (vote.proposal s) (start_taken vote (run_proper vote events run) s h) (ticks_of s events))
