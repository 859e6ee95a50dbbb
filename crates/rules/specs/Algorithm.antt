-- Algorithm 1 of "Randomization can be a healer: consensus with dynamic omission failures", over the whole set of
-- ballots heard so far, counted by sender, with document 01's choices: the highest phase, its lowest sender, the coin
-- handed in. It knows no heard sets, no records and no refusals. Line numbers are the paper's.
use Rattle.std.specs.Prelude.{ℕ, ◌+◌, ◌%◌, List, [], ◌∷◌, ◌++◌, Bool, false, cond, ◌&&◌, ◌||◌, not, ltb, leb, eqb}
use Rattle.rules.specs.declared.Value.{Value}
use Rattle.rules.specs.declared.Value.TheVariants.{Zero, One, Blank}
use Rattle.rules.specs.declared.Status.{Status}
use Rattle.rules.specs.declared.Status.TheVariants.{Undecided, Decided}
use Rattle.rules.specs.declared.Decision.{Decision}
use Rattle.rules.specs.declared.Decision.TheVariants.{Unwritten}
use Rattle.rules.specs.declared.Ballot.{Ballot}
use Rattle.rules.specs.Below.{count}
use Rattle.rules.specs.Ballot.{value_of, status_code, same_value, ballot, zero_ballot}
use Rattle.rules.specs.Heard.{over_half}
use Rattle.rules.specs.Head.{decision_for}
use Rattle.rules.specs.Choice.{ahead, bit_with}

-- process i of n: φ, v, status and decision, and V, all ballots heard so far
pub record Process : Type 0 where
  pub n : ℕ
  pub own : ℕ
  pub phase : ℕ
  pub value : Value
  pub status : Status
  pub decision : Decision
  pub heard_so_far : List Ballot

abbrev pub process_with : ℕ → ℕ → ℕ → Value → Status → Decision → List Ballot → Process
process_with n own phase value status decision all =
    record { n = n; own = own; phase = phase; value = value; status = status; decision = decision; heard_so_far = all }

-- some message of V
abbrev pub some_in : List Ballot → (Ballot → Bool) → Bool
some_in [] p = false
some_in (b ∷ all) p = p b || some_in all p

-- how many of the n processes sent a message of V of which p holds: "counted by sender"
abbrev pub senders : Process → (Ballot → Bool) → ℕ
senders i p = count i.n (λ s. some_in i.heard_so_far (λ b. eqb b.sender s && p b))

-- lines 1 to 4: φ ← 1; v ← proposal; status ← undecided; V ← ∅
abbrev pub lines1to4 : ℕ → ℕ → ℕ → Process
lines1to4 n own proposal = process_with n own 1 (value_of proposal) Undecided Unwritten []

-- line 6: broadcast ⟨i, φ, v, status⟩
abbrev pub line6 : Process → Ballot
line6 i = ballot i.own i.phase i.value i.status

-- line 8: V ← V ∪ M
abbrev pub line8 : Process → List Ballot → Process
line8 i M = process_with i.n i.own i.phase i.value i.status i.decision (M ++ i.heard_so_far)

-- the message that lines 9 to 13 end at, by document 01's choice: the first of V that none of V is ahead of
abbrev pub foremost : List Ballot → List Ballot → Ballot
foremost all [] = zero_ballot
foremost all (b ∷ rest) = cond (not (some_in all (λ c. ahead c b))) b (foremost all rest)

-- lines 10 to 12: φ ← φ'; v ← v'; status ← status'
abbrev pub lines10to12 : Process → Ballot → Process
lines10to12 i b = process_with i.n i.own b.phase b.value b.status i.decision i.heard_so_far

-- lines 9 to 13: while some ⟨*, φ', v', status'⟩ of V has φ' > φ
unfoldable pub lines9to13 : Process → Process
lines9to13 i =
    let all = i.heard_so_far in
    cond (some_in all (λ b. ltb i.phase b.phase)) (lines10to12 i (foremost all all)) i

-- ⟨*, φ, v, *⟩ ∈ V with φ = φ_i
abbrev pub at_phase_with : Process → Value → ℕ
at_phase_with i v = senders i (λ b. eqb b.phase i.phase && same_value b.value v)

-- lines 16 to 20: the v in {0, 1} with over half, else ⊥
unfoldable pub lines16to20 : Process → Value
lines16to20 i = bit_with (λ v. over_half i.n (at_phase_with i v)) Blank

-- lines 22 to 24: if some v in {0, 1} has over half, status ← decided
unfoldable pub lines22to24 : Process → Status
lines22to24 i =
    cond (over_half i.n (at_phase_with i Zero) || over_half i.n (at_phase_with i One)) Decided i.status

-- lines 25 to 29: the v in {0, 1} with at least one, else the coin
unfoldable pub lines25to29 : Process → ℕ → Value
lines25to29 i coin = bit_with (λ v. leb 1 (at_phase_with i v)) (value_of coin)

-- line 31: φ ← φ + 1, with the v and the status of the lines before
abbrev pub line31 : Process → Value → Status → Process
line31 i v status = process_with i.n i.own (i.phase + 1) v status i.decision i.heard_so_far

-- lines 14 to 32: if over half sent ⟨*, φ, *, *⟩ ∈ V with φ = φ_i
unfoldable pub lines14to32 : Process → ℕ → Process
lines14to32 i coin =
    cond (over_half i.n (senders i (λ b. eqb b.phase i.phase)))
    (cond (eqb (i.phase % 2) 1) (line31 i (lines16to20 i) i.status) (line31 i (lines25to29 i coin) (lines22to24 i)))
    i

-- lines 33 to 35: if status = decided, decision ← v
unfoldable pub lines33to35 : Process → Process
lines33to35 i =
    let decision = cond (eqb (status_code i.status) 1) (decision_for i.value) i.decision in
    process_with i.n i.own i.phase i.value i.status decision i.heard_so_far

-- one clock tick of process i, that receives M (line 7) and draws the coin (line 28)
unfoldable pub clock_tick : Process → List Ballot → ℕ → Process
clock_tick i M coin = lines33to35 (lines14to32 (lines9to13 (line8 i M)) coin)
