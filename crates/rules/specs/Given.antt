-- Document 01's table 'given exactly when' in propositions: what each number's sentence says, in its words.
use Rattle.std.specs.Prelude.{ℕ, ◌+◌, ◌*◌, ◌%◌, ◌≤◌, ◌<◌, ◌≡◌, List, [], ◌∷◌, ◌++◌, true, ◌⊎◌, length, get_or}
use Rattle.rules.specs.declared.Value.{Value}
use Rattle.rules.specs.declared.Value.TheVariants.{Zero, One, Blank}
use Rattle.rules.specs.declared.Status.{Status}
use Rattle.rules.specs.declared.Status.TheVariants.{Decided}
use Rattle.rules.specs.declared.Decision.TheVariants.{Unwritten}
use Rattle.rules.specs.declared.Ballot.{Ballot}
use Rattle.rules.specs.declared.Head.{Head}
use Rattle.rules.specs.Ballot.{value_code, status_code, phase_at, ballot_at}
use Rattle.rules.specs.Heard.{member, size, heard}
use Rattle.rules.specs.Head.{decision_for}
use Rattle.rules.specs.Tick.{ballots, moved, gathered, stepped}
use Rattle.rules.specs.Record.{head_at}
use Rattle.rules.specs.Sizes.{heads_least, heads_most, ballot_bytes, list_bytes_most, record_bytes}

infix 40 ◌exactly_at◌ ◌exactly_when◌
-- a line of the table: a number, and what must hold of the place that is given with it
pub data Row : Type 1 where
  ◌exactly_at◌ : ℕ → (ℕ → Type 0) → Row

-- P holds, and the place is this one
abbrev pub At : ℕ → Type 0 → ℕ → Type 0
At this P place = P × (place ≡ this)

-- a line that names no place: it is 0
abbrev pub ◌exactly_when◌ : ℕ → Type 0 → Row
number exactly_when P = number exactly_at At 0 P

-- "The first that applies, in this order": number's line applies at the place, and no earlier line applies anywhere; "0
-- is accepted", where none does
abbrev pub Given : ℕ → ℕ → List Row → Type 0
Given number place [] = (number ≡ 0) × (place ≡ 0)
Given number place ((k exactly_at Applies) ∷ later) =
    (Applies place × (number ≡ k)) ⊎ (((p : ℕ) → Applies p → ⊥) × Given number place later)

-- "n .. 2 to 32"
abbrev pub Heads : ℕ → Type 0
Heads n = (heads_least ≤ n) × (n ≤ heads_most)

-- "Ballot rules, by phase", of a phase, a value's code and a status's code
pub data Obeys (phase value status : ℕ) : Type 0 where
  -- "Phase 1: value 0 or 1, undecided."
  phase_1 : phase ≡ 1 → value < 2 → status ≡ 0 → Obeys phase value status
  -- "Phase 2: any value, undecided."
  phase_2 : phase ≡ 2 → value < 3 → status ≡ 0 → Obeys phase value status
  -- "Odd from 3: value 0 or 1, either status."
  odd_from_3 : 3 ≤ phase → phase % 2 ≡ 1 → value < 2 → status < 2 → Obeys phase value status
  -- "Even from 4: any value; blank only when undecided."
  even_from_4 : 4 ≤ phase → phase % 2 ≡ 0 → value < 3 → status < 2 → (value ≡ 2 → status ≡ 0) → Obeys phase value status

-- "a ballot breaks a ballot rule", the one at index i; "Sender below n."
abbrev pub Breaks : ℕ → List ℕ → ℕ → Type 0
Breaks n l i =
    let at = i * ballot_bytes in
    (get_or l at 0 < n) × Obeys (phase_at l i) (get_or l (at + 1) 0) (get_or l (at + 2) 0) → ⊥

-- head s is heard with v
abbrev pub Hears : Head → Value → ℕ → Type 0
Hears h v s = member s (heard h v) ≡ true

-- b is a ballot of head s at that phase with that value
abbrev pub Says : ℕ → Value → ℕ → Ballot → Type 0
Says phase v s b = (b.phase ≡ phase) × (b.sender ≡ s) × (b.value ≡ v)

-- "the decision is there"
abbrev pub WrittenDecision : Head → Type 0
WrittenDecision h = h.decision ≡ Unwritten → ⊥

-- "A head is sound when:"
pub record Sound (h : Head) : Type 0 where
  -- "n is 2 to 32;"
  pub heads : Heads h.n
  -- "own number below n;"
  pub own : h.own < h.n
  -- "its phase, value and status obey the same rules;"
  pub rules : Obeys h.phase (value_code h.value) (status_code h.status)
  -- "decided means that the decision is there and equals the value;"
  pub decided : h.status ≡ Decided → (h.decision ≡ decision_for h.value) × WrittenDecision h
  -- "a decision means phase 3 or more;"
  pub decision : WrittenDecision h → 3 ≤ h.phase
  -- "the three sets are disjoint, with members below n;"
  pub disjoint : (v w : Value) (s : ℕ) → Hears h v s → Hears h w s → v ≡ w
  pub members : (v : Value) (s : ℕ) → Hears h v s → s < h.n
  -- "at an odd phase none is heard blank;"
  pub odd : h.phase % 2 ≡ 1 → (s : ℕ) → Hears h Blank s → ⊥
  -- "at an even phase 0 and 1 are not both heard;"
  pub even : h.phase % 2 ≡ 0 → (s t : ℕ) → Hears h Zero s → Hears h One t → ⊥
  -- "its own number, if heard, stands under its own value."
  pub own_heard : (v : Value) → Hears h v h.own → v ≡ h.value

-- "another value or status"
abbrev pub Other : Ballot → Value → Status → Type 0
Other b v s = (b.value ≡ v → ⊥) ⊎ (b.status ≡ s → ⊥)

-- "a ballot under the head's own number has a higher phase, or the same phase and another value or status"
abbrev pub OwnOtherwise : Head → Ballot → Type 0
OwnOtherwise h b =
    (b.sender ≡ h.own) × ((h.phase < b.phase) ⊎ ((b.phase ≡ h.phase) × Other b h.value h.status))

-- "two ballots of one sender and phase differ"
abbrev pub Differ : Ballot → Ballot → Type 0
Differ a b = (a.sender ≡ b.sender) × (a.phase ≡ b.phase) × Other a b.value b.status

-- "one at the present phase differs in value from what that sender is held under"
abbrev pub HeldOtherwise : Head → Ballot → Type 0
HeldOtherwise h b = (b.phase ≡ h.phase) × ((v : Value) × Hears h v b.sender × (v ≡ b.value → ⊥))

-- some ballot of the list; two ballots of the list
abbrev pub SomeBallot : List ℕ → (ℕ → Type 0) → Type 0
SomeBallot l P = (i : ℕ) × (i < ballots l) × P i

abbrev pub TwoBallots : List ℕ → (Ballot → Ballot → Type 0) → Type 0
TwoBallots l P = SomeBallot l (λ i. (j : ℕ) × (j < i) × P (ballot_at l j) (ballot_at l i))

-- the first ballot of the list with P
abbrev pub FirstBallot : List ℕ → (ℕ → Type 0) → ℕ → Type 0
FirstBallot l P i = (i < ballots l) × P i × ((j : ℕ) → j < i → P j → ⊥)

-- W1, of the ballot at index i: it "differs from an earlier one or from what is held"
abbrev pub Contradicts : Head → List ℕ → ℕ → Type 0
Contradicts h l i = ((j : ℕ) × (j < i) × Differ (ballot_at l j) (ballot_at l i)) ⊎ HeldOtherwise h (ballot_at l i)

-- W1: "the index, from 0, of the first offending ballot:", by the number that is given
pub data Offender (h : Head) (l : List ℕ) (number index : ℕ) : Type 0 where
  -- "for 6 and 7 the first that breaks the rule,"
  by_rule : number ≡ 6 → FirstBallot l (Breaks h.n l) index → Offender h l number index
  by_own : number ≡ 7 → FirstBallot l (λ i. OwnOtherwise h (ballot_at l i)) index → Offender h l number index
  -- "for 8 the first that differs from an earlier one or from what is held."
  by_difference : number ≡ 8 → FirstBallot l (Contradicts h l) index → Offender h l number index
  -- "Other numbers give index 0."
  by_none : (number ≡ 6 → ⊥) → (number ≡ 7 → ⊥) → (number ≡ 8 → ⊥) → index ≡ 0 → Offender h l number index

-- Whom a head hears after steps 1 and 2: those held under v before, if it is at the same phase still, and the senders
-- of the ballots of its phase that say v.
abbrev pub HeldOrSent : Head → List ℕ → Value → ℕ → Type 0
HeldOrSent h l v s =
    let phase = (moved h l).phase in
    ((phase ≡ h.phase) × Hears h v s) ⊎ SomeBallot l (λ i. Says phase v s (ballot_at l i))

-- somebody is heard with v
abbrev pub HeardAtAll : Head → Value → Type 0
HeardAtAll h v = (s : ℕ) × Hears h v s

-- the number of heads heard, doubled, exceeds n
abbrev pub Quorum : Head → Type 0
Quorum h = h.n < (size h.zeros + size h.ones + size h.blanks) * 2

-- "decided with a blank, or with a value unlike the decision already written"
abbrev pub DecidesOtherwise : Head → Type 0
DecidesOtherwise h =
    (h.status ≡ Decided)
    × ((h.value ≡ Blank) ⊎ (WrittenDecision h × (h.decision ≡ decision_for h.value → ⊥)))

-- ---- the tables

abbrev pub start_table : ℕ → ℕ → ℕ → List Row
start_table n own proposal =
    -- "start ..: n not 2 to 32; start: own number not below n"
    (1 exactly_when ((Heads n → ⊥) ⊎ (own < n → ⊥)))
    -- "start: proposal above 1"
    ∷ (2 exactly_when (1 < proposal))
    ∷ []

abbrev pub read_table : ℕ → List ℕ → List Row
read_table n bytes =
    -- "reading one ballot: n not 2 to 32"
    (1 exactly_when (Heads n → ⊥))
    -- "one ballot read ..: not five bytes"
    ∷ (5 exactly_when (length bytes ≡ ballot_bytes → ⊥))
    -- "a ballot breaks a ballot rule"
    ∷ (6 exactly_when Breaks n bytes 0)
    ∷ []

-- what a tick tests after the head
abbrev pub later_table : Head → List ℕ → ℕ → List Row
later_table h l coin =
    -- "coin above 1, even if not needed"
    (4 exactly_when (1 < coin))
    -- "list length not a multiple of 5, or over 320 bytes"
    ∷ (5 exactly_when ((length l % ballot_bytes ≡ 0 → ⊥) ⊎ (list_bytes_most < length l)))
    -- "a ballot breaks a ballot rule"
    ∷ (6 exactly_when SomeBallot l (Breaks h.n l))
    -- "a ballot under the head's own number has a higher phase, or the same phase and another value or status"
    ∷ (7 exactly_when SomeBallot l (λ i. OwnOtherwise h (ballot_at l i)))
    -- "two ballots of one sender and phase differ; or one at the present phase differs in value from what that sender
    -- is held under"
    ∷ (8 exactly_when (TwoBallots l Differ ⊎ SomeBallot l (λ i. HeldOtherwise h (ballot_at l i))))
    -- "after step 2, phase even and both 0 and 1 heard"
    ∷ (9 exactly_when (((gathered h l).phase % 2 ≡ 0) × HeardAtAll (gathered h l) Zero × HeardAtAll (gathered h l) One))
    -- "step 3 would need phase 65,536"
    ∷ (10 exactly_when (Quorum (gathered h l) × (65536 ≤ (gathered h l).phase + 1)))
    -- "the end would be decided with a blank, or with a value unlike the decision already written"
    ∷ (11 exactly_when DecidesOtherwise (stepped (gathered h l) coin))
    ∷ []

-- "head not sound"
abbrev pub tick_table : Head → List ℕ → ℕ → List Row
tick_table h l coin = (3 exactly_when (Sound h → ⊥)) ∷ later_table h l coin

-- "of an unsound one refusal 3"
abbrev pub send_table : Head → List Row
send_table h = (3 exactly_when (Sound h → ⊥)) ∷ []

-- ---- the same from C

-- a record of 20 bytes within the codes that holds a sound head: "Another length or a byte outside these codes makes it
-- unsound."
pub record SoundRecord (r : List ℕ) : Type 0 where
  pub twenty : length r ≡ record_bytes
  pub value : get_or r 4 0 < 3
  pub status : get_or r 5 0 < 2
  pub decision : get_or r 6 0 < 3
  pub zero : get_or r 7 0 ≡ 0
  pub head : Sound (head_at r)

-- "at a start from C, record not 20 bytes"
abbrev pub start_table_from_c : List ℕ → ℕ → ℕ → ℕ → List Row
start_table_from_c r n own proposal = start_table n own proposal ++ (3 exactly_when (length r ≡ record_bytes → ⊥)) ∷ []

abbrev pub tick_table_from_c : List ℕ → List ℕ → ℕ → List Row
tick_table_from_c r l coin = (3 exactly_when (SoundRecord r → ⊥)) ∷ later_table (head_at r) l coin

abbrev pub send_table_from_c : List ℕ → List ℕ → List Row
send_table_from_c r buffer =
    (3 exactly_when (SoundRecord r → ⊥))
    -- "one ballot .. written: not five bytes"
    ∷ (5 exactly_when (length buffer ≡ ballot_bytes → ⊥))
    ∷ []
