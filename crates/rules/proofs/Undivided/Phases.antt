-- How high the phases of a run are: each tick raises the highest by one at most. So a run of a few thousand ticks, such
-- as the bench's, is far from phase 65,536, and none of its ticks is refused.
use Prim.Native.Nat.{ℕ, ◌+◌, ◌≤◌, ◌<◌}
use mathlib.Core.Path.{◌≡◌, refl, ap}
use mathlib.Core.List.{List, [], ◌∷◌}
use mathlib.Core.Bool.{Bool, true, false, cond}
use mathlib.Core.Logic.{inl, inr}
use native.Mathlib.Omega.{arith}
use lib.ListN.{length}
use lib.Dec.{eqb}
use borrow.Author.Tests.{eqb-true}
use Rattle.rules.specs.declared.Ballot.{Ballot}
use Rattle.rules.specs.declared.Head.{Head}
use Rattle.rules.specs.Head.{start_number, start_of, fresh, zero_head, ballot_of}
use Rattle.rules.specs.Tick.{moved, added, gathered, quorum, risen, stepped, settled, tick_number, tick_of}
use Rattle.rules.specs.Run.{Vote, Event, head_in, Sent, Run, NotRefusedBeforeTheLastPhase}
use Rattle.rules.proofs.Rounds.Rounds.{sent_now}
use Rattle.rules.proofs.Undivided.OneEvent.{moved_state, event_number}
use Rattle.rules.proofs.Undivided.Runs.{kept_run}

start_low : (n own proposal : ℕ) → (start_of n own proposal).head.phase ≤ 1
unfolding start_of
start_low n own proposal = go (eqb (start_number n own proposal) 0)
  where
    go : (t : Bool) → (cond t (fresh n own proposal) zero_head).phase ≤ 1
    go true = omega arith
    go false = omega arith

gathered_phase : (h : Head) (l : List ℕ) → (gathered h l).phase ≡ (moved h l).phase
unfolding gathered added
gathered_phase h l = refl

-- a tick ends at most one phase above where steps 1 and 2 end
tick_phase : (h : Head) (l : List ℕ) (coin m : ℕ) → h.phase ≤ m → (gathered h l).phase ≤ m → (tick_of h l coin).head.phase ≤ m + 1
unfolding tick_of settled stepped
tick_phase h l coin m low high = go (eqb (tick_number h l coin) 0) (quorum (gathered h l))
  where
    go : (a b : Bool) → (cond a (settled (cond b (risen (gathered h l) coin) (gathered h l))) h).phase ≤ m + 1
    go true true = omega arith
    go true false = omega arith
    go false b = omega arith

-- the phase after steps 1 and 2 is that of a ballot that was sent
gathered_low : (vote : Vote) (events : List Event) (e : Event) (m : ℕ) → Run vote (e ∷ events) → ((b : Ballot) → Sent vote events b → b.phase ≤ m) → (gathered (head_in vote events e.head) e.bytes).phase ≤ m
gathered_low vote events e m run low =
    let r = moved_state vote events e (kept_run vote events run.0) run.1 in
    omega (arith, gathered_phase (head_in vote events e.head) e.bytes, low r.0 r.1, r.2)

-- a tick leaves every head at most one phase above what was sent
head_low : (vote : Vote) (events : List Event) (e : Event) (m : ℕ) → Run vote (e ∷ events) → ((b : Ballot) → Sent vote events b → b.phase ≤ m) → (s : ℕ) → s < vote.n → (head_in vote (e ∷ events) s).phase ≤ m + 1
head_low vote events e m run low s h = go (eqb e.head s) refl
  where
    go : (t : Bool) → eqb e.head s ≡ t → (cond t (tick_of (head_in vote events s) e.bytes e.coin).head (head_in vote events s)).phase ≤ m + 1
    go true q =
        let is : e.head ≡ s = eqb-true e.head s q in
        let ticked = tick_phase (head_in vote events e.head) e.bytes e.coin m (low _ (sent_now vote events e.head run.1.head)) (gathered_low vote events e m run low) in
        omega (arith, ticked, ap (λ (t : ℕ). (tick_of (head_in vote events t) e.bytes e.coin).head.phase) is)
    go false q = let before = low (ballot_of (head_in vote events s)) (sent_now vote events s h) in omega (arith, before)

-- after k ticks no ballot is above phase k + 1
pub phases_low : (vote : Vote) (events : List Event) → Run vote events → (b : Ballot) → Sent vote events b → b.phase ≤ length events + 1
phases_low vote [] run b (s, h, e) = omega (arith, ap (λ (c : Ballot). c.phase) e, start_low vote.n s (vote.proposal s))
phases_low vote (e ∷ events) run b (inr sent) = let i = phases_low vote events run.0 b sent in omega (arith, i)
phases_low vote (e ∷ events) run b (inl (s, h, is)) =
    omega (arith, ap (λ (c : Ballot). c.phase) is, head_low vote events e (length events + 1) run (phases_low vote events run.0) s h)

-- so in a run of fewer than 65,534 ticks none is refused
pub no_early_refusal : (vote : Vote) (events : List Event) (e : Event) → Run vote (e ∷ events) → length events < 65534 → tick_number (head_in vote events e.head) e.bytes e.coin ≡ 0
no_early_refusal vote events e run few = go (event_number vote events e (kept_run vote events run.0) run.1)
  where
    go : NotRefusedBeforeTheLastPhase vote events e → tick_number (head_in vote events e.head) e.bytes e.coin ≡ 0
    go (inl number) = number
    go (inr late) = absurd (omega (arith, late.2, few, gathered_low vote events e (length events + 1) run (phases_low vote events run.0)))
