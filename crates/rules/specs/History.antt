-- Histories of one head: a start and a sequence of ticks, each with its bytes and its coin; and the process of
-- Algorithm 1 that has heard the same.
use Rattle.std.specs.Prelude.{ℕ, zero, suc, ◌*◌, ◌%◌, ◌≤◌, ◌<◌, ◌≡◌, ◌↔◌, cond, eqb}
use mathlib.Core.List.{List, [], ◌∷◌, Memᴰ}
use Rattle.rules.specs.declared.Value.{Value}
use Rattle.rules.specs.declared.Value.TheVariants.{Zero, One}
use Rattle.rules.specs.declared.Ballot.{Ballot}
use Rattle.rules.specs.declared.Head.{Head}
use Rattle.rules.specs.Ballot.{ballot_at}
use Rattle.rules.specs.Head.{start_of}
use Rattle.rules.specs.Tick.{ballots, tick_number, tick_of}
use Rattle.rules.specs.Given.{Hears, Says}
use Rattle.rules.specs.Algorithm.{Process, lines1to4, at_phase_with, clock_tick}

-- what a tick is handed besides the head
pub record Handed : Type 0 where
  pub bytes : List ℕ
  pub coin : ℕ

-- the head after the ticks, the last first
abbrev pub head_after : ℕ → ℕ → ℕ → List Handed → Head
head_after n own proposal [] = (start_of n own proposal).head
head_after n own proposal (t ∷ ticks) = (tick_of (head_after n own proposal ticks) t.bytes t.coin).head

-- the ticks that were accepted
abbrev pub accepted_of : ℕ → ℕ → ℕ → List Handed → List Handed
accepted_of n own proposal [] = []
accepted_of n own proposal (t ∷ ticks) =
    let before = accepted_of n own proposal ticks in
    cond (eqb (tick_number (head_after n own proposal ticks) t.bytes t.coin) 0) (t ∷ before) before

-- the ballots of a list of bytes: the first k
abbrev pub ballots_up_to : ℕ → List ℕ → List Ballot
ballots_up_to zero l = []
ballots_up_to (suc k) l = ballot_at l k ∷ ballots_up_to k l

abbrev pub ballots_in : List ℕ → List Ballot
ballots_in l = ballots_up_to (ballots l) l

-- Algorithm 1's process that has heard the same ballots and drawn the same coins
abbrev pub process_after : ℕ → ℕ → ℕ → List Handed → Process
process_after n own proposal [] = lines1to4 n own proposal
process_after n own proposal (t ∷ ticks) =
    clock_tick (process_after n own proposal ticks) (ballots_in t.bytes) t.coin

-- Demand 2: "does what Algorithm 1 .. does with all ballots heard so far"; "the three sets give the same result as the
-- whole set of source document 002, counted by sender"
pub record Shows (h : Head) (i : Process) : Type 0 where
  pub n : h.n ≡ i.n
  pub own : h.own ≡ i.own
  pub phase : h.phase ≡ i.phase
  pub value : h.value ≡ i.value
  pub status : h.status ≡ i.status
  pub decision : h.decision ≡ i.decision
  -- the heads heard with v are the senders of the ballots of that phase and value among all heard so far
  pub heard : (v : Value) (s : ℕ)
      → Hears h v s ↔ ((b : Ballot) × Memᴰ b i.heard_so_far × Says i.phase v s b)

-- of a process at line 14: where lines 16, 22 and 25 ask for a v in {0, 1}, 0 and 1 are not both there
pub record OneBitIsThere (i : Process) : Type 0 where
  pub majority : i.n < at_phase_with i Zero * 2 → i.n < at_phase_with i One * 2 → ⊥
  pub heard : i.phase % 2 ≡ 0 → 1 ≤ at_phase_with i Zero → 1 ≤ at_phase_with i One → ⊥
