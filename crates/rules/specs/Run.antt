-- Runs of a whole vote, as demand 3 has them: "Start n heads once each, numbered 0 to n - 1 .. Tick them in any order,
-- with lists of at most 64 ballots that these heads sent earlier in the vote, any of them lost, late or repeated, and
-- any coin bits."
use Rattle.std.specs.Prelude.{ℕ, ◌%◌, ◌≤◌, ◌<◌, ◌≡◌, List, [], ◌∷◌, ◌++◌, cond, ◌⊎◌, length, eqb}
use Rattle.rules.specs.declared.Ballot.{Ballot}
use Rattle.rules.specs.declared.Head.{Head}
use Rattle.rules.specs.Ballot.{value_of, bytes_of, five_at}
use Rattle.rules.specs.Head.{decision_for, start_of, ballot_of}
use Rattle.rules.specs.Tick.{ballots, gathered, tick_number, tick_of}
use Rattle.rules.specs.Record.{record_after_start, record_after_tick}
use Rattle.rules.specs.History.{Handed}
use Rattle.rules.specs.Given.{Heads, WrittenDecision, Quorum}
use Rattle.rules.specs.Sizes.{ballot_bytes, ballots_most}

-- n heads, and what each proposes
pub record Vote : Type 0 where
  pub n : ℕ
  pub proposal : ℕ → ℕ

-- a vote of 2 to 32 heads, whose proposals are bits: its starts are accepted
pub record Proper (vote : Vote) : Type 0 where
  pub heads : Heads vote.n
  pub bits : (s : ℕ) → s < vote.n → vote.proposal s < 2

-- an event: which head is ticked, with which bytes and which coin
pub record Event : Type 0 where
  pub head : ℕ
  pub bytes : List ℕ
  pub coin : ℕ

-- head s after the events, the last first
abbrev pub head_in : Vote → List Event → ℕ → Head
head_in vote [] s = (start_of vote.n s (vote.proposal s)).head
head_in vote (e ∷ events) s =
    cond (eqb e.head s) (tick_of (head_in vote events s) e.bytes e.coin).head (head_in vote events s)

-- the ticks of head s among the events
abbrev pub ticks_of : ℕ → List Event → List Handed
ticks_of s [] = []
ticks_of s (e ∷ events) =
    cond (eqb e.head s) (record { bytes = e.bytes; coin = e.coin } ∷ ticks_of s events) (ticks_of s events)

-- the record that holds head s after the events, in bytes that were lent for it
abbrev pub record_in : Vote → (ℕ → List ℕ) → List Event → ℕ → List ℕ
record_in vote lent [] s = record_after_start (lent s) vote.n s (vote.proposal s)
record_in vote lent (e ∷ events) s =
    let r = record_in vote lent events s in cond (eqb e.head s) (record_after_tick r e.bytes e.coin) r

-- b was sent in the vote up to here: it is the ballot of a state that some head has or had, its start included
abbrev pub Sent : Vote → List Event → Ballot → Type 0
Sent vote [] b = (s : ℕ) × (s < vote.n) × (b ≡ ballot_of (head_in vote [] s))
Sent vote (e ∷ events) b = ((s : ℕ) × (s < vote.n) × (b ≡ ballot_of (head_in vote (e ∷ events) s))) ⊎ Sent vote events b

-- what demand 3 allows next
pub record Allowed (vote : Vote) (events : List Event) (e : Event) : Type 0 where
  pub head : e.head < vote.n
  -- "lists of at most 64 ballots"
  pub whole : length e.bytes % ballot_bytes ≡ 0
  pub few : ballots e.bytes ≤ ballots_most
  -- "that these heads sent earlier in the vote"
  pub sent : (i : ℕ) → i < ballots e.bytes → (b : Ballot) × Sent vote events b × (five_at e.bytes i ≡ bytes_of b)
  -- "any coin bits"
  pub bit : e.coin < 2

-- a run: every event was allowed when it came
abbrev pub Run : Vote → List Event → Type 0
Run vote [] = Proper vote
Run vote (e ∷ events) = Run vote events × Allowed vote events e

-- ---- what demand 3 says of a run

-- "No two decisions differ"
abbrev pub NoTwoDecisionsDiffer : Vote → List Event → Type 0
NoTwoDecisionsDiffer vote events =
    (s t : ℕ) → s < vote.n → t < vote.n
    → WrittenDecision (head_in vote events s) → WrittenDecision (head_in vote events t)
    → (head_in vote events s).decision ≡ (head_in vote events t).decision

-- "each was proposed by some head"
abbrev pub EachWasProposed : Vote → List Event → Type 0
EachWasProposed vote events =
    (s : ℕ) → s < vote.n → WrittenDecision (head_in vote events s)
    → (t : ℕ) × (t < vote.n) × ((head_in vote events s).decision ≡ decision_for (value_of (vote.proposal t)))

-- "a written one stays"
abbrev pub AWrittenOneStays : Vote → List Event → List Event → Type 0
AWrittenOneStays vote events later =
    (s : ℕ) → s < vote.n → WrittenDecision (head_in vote events s)
    → (head_in vote (later ++ events) s).decision ≡ (head_in vote events s).decision

-- "no tick is refused unless its step needs phase 65,536": of the tick that comes after the events
abbrev pub NotRefusedBeforeTheLastPhase : Vote → List Event → Event → Type 0
NotRefusedBeforeTheLastPhase vote events e =
    let h = head_in vote events e.head in
    let number = tick_number h e.bytes e.coin in
    (number ≡ 0) ⊎ ((number ≡ 10) × Quorum (gathered h e.bytes) × ((gathered h e.bytes).phase ≡ 65535))

-- "every head decides that bit"
abbrev pub EveryHeadDecides : Vote → List Event → ℕ → Type 0
EveryHeadDecides vote events bit = (s : ℕ) → s < vote.n → (head_in vote events s).decision ≡ decision_for (value_of bit)
