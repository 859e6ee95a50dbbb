-- Heads: soundness, the start, and what a head sends. Document 01, 'Heads and ballots'. These are tests; what they mean
-- is in Given.
use Rattle.std.specs.Prelude.{ℕ, ◌%◌, List, [], Result, Ok, Err, ◌∷◌, Bool, cond, ◌&&◌, ◌||◌, not, replicate, ltb, leb, eqb}
use Rattle.rules.specs.declared.Value.{Value}
use Rattle.rules.specs.declared.Value.TheVariants.{Zero, One, Blank}
use Rattle.rules.specs.declared.Status.{Status}
use Rattle.rules.specs.declared.Status.TheVariants.{Undecided}
use Rattle.rules.specs.declared.Decision.{Decision}
use Rattle.rules.specs.declared.Decision.TheVariants.{Zero as ForZero, One as ForOne, Unwritten}
use Rattle.rules.specs.declared.Ballot.{Ballot}
use Rattle.rules.specs.declared.Head.{Head}
use Rattle.rules.specs.declared.Refusal.{Refusal}
use Rattle.rules.specs.Answer.{Started, Written}
use Rattle.rules.specs.Refusal.{number_of}
use Rattle.rules.specs.Number.{Line, ◌when◌, first_that_applies}
use Rattle.rules.specs.Ballot.{value_code, value_of, status_code, same_value, ballot, bytes_of, obeys, not_heads}
use Rattle.rules.specs.Heard.{member, apart, within, heard}
use Rattle.rules.specs.Sizes.{ballot_bytes}

-- "A head has: the number of heads n, its own number, phase .., value .., status .., decision .., and three sets of
-- head numbers": those that it holds under each value
abbrev pub head_with : ℕ → ℕ → ℕ → Value → Status → Decision → (Value → ℕ) → Head
head_with n own phase value status decision held =
    record {
      n = n;
      own = own;
      phase = phase;
      value = value;
      status = status;
      decision = decision;
      zeros = held Zero;
      ones = held One;
      blanks = held Blank;
    }

-- "nothing heard"
abbrev pub nobody : Value → ℕ
nobody v = 0

-- "decision (2 for none)"
abbrev pub decision_code : Decision → ℕ
decision_code ForZero = 0
decision_code ForOne = 1
decision_code Unwritten = 2

-- the decision for a value; there is none for blank
abbrev pub decision_for : Value → Decision
decision_for Zero = ForZero
decision_for One = ForOne
decision_for Blank = Unwritten

abbrev pub is_decided : Head → Bool
is_decided h = eqb (status_code h.status) 1

abbrev pub is_written : Head → Bool
is_written h = ltb (decision_code h.decision) 2

-- "the decision is there and equals the value"
abbrev pub decision_is_value : Head → Bool
decision_is_value h = is_written h && eqb (decision_code h.decision) (value_code h.value)

-- v is "heard at all": some head is in its set
abbrev pub any_heard : Head → Value → Bool
any_heard h v = not (eqb (heard h v) 0)

-- head s, if heard, stands under w: where it is heard with v, v is w
abbrev pub heard_as : Head → ℕ → Value → Value → Bool
heard_as h s w v = not (member s (heard h v)) || same_value v w

unfoldable pub stands_under : Head → ℕ → Value → Bool
stands_under h s w = heard_as h s w Zero && (heard_as h s w One && heard_as h s w Blank)

-- "decided means that the decision is there and equals the value; a decision means phase 3 or more"
unfoldable pub decision_fits : Head → Bool
decision_fits h = (not (is_decided h) || decision_is_value h) && (not (is_written h) || leb 3 h.phase)

-- "the three sets are disjoint, with members below n"
unfoldable pub sets_fit : Head → Bool
sets_fit h =
    (apart h.zeros h.ones && (apart h.zeros h.blanks && apart h.ones h.blanks))
    && (within h.n h.zeros && (within h.n h.ones && within h.n h.blanks))

-- "at an odd phase none is heard blank; at an even phase 0 and 1 are not both heard"
unfoldable pub phase_fits : Head → Bool
phase_fits h =
    (not (eqb (h.phase % 2) 1) || eqb h.blanks 0)
    && (not (eqb (h.phase % 2) 0) || not (any_heard h Zero && any_heard h One))

-- "A head is sound when: n is 2 to 32; own number below n; its phase, value and status obey the same rules; .."; and at
-- last: "its own number, if heard, stands under its own value."
unfoldable pub sound : Head → Bool
sound h =
    not (not_heads h.n)
    && (ltb h.own h.n
    && (obeys h.phase (value_code h.value) (status_code h.status)
    && (decision_fits h && (sets_fit h && (phase_fits h && stands_under h h.own h.value)))))

-- 1: "start or reading one ballot: n not 2 to 32; start: own number not below n"; 2: "start: proposal above 1"
abbrev pub start_lines : ℕ → ℕ → ℕ → List Line
start_lines n own proposal = (1 when (not_heads n || not (ltb own n))) ∷ (2 when ltb 1 proposal) ∷ []

unfoldable pub start_number : ℕ → ℕ → ℕ → ℕ
start_number n own proposal = first_that_applies (start_lines n own proposal)

-- "It starts at phase 1, value = proposal, undecided, no decision, nothing heard."
abbrev pub fresh : ℕ → ℕ → ℕ → Head
fresh n own proposal = head_with n own 1 (value_of proposal) Undecided Unwritten nobody

-- "a head with every field zero (value and decision 0, undecided)"
abbrev pub zero_head : Head
zero_head = head_with 0 0 0 Zero Undecided ForZero nobody

-- "A refused start gives a head with every field zero"
unfoldable pub start_of : ℕ → ℕ → ℕ → Started
start_of n own proposal =
    let number = start_number n own proposal in
    record { number = number; head = cond (eqb number 0) (fresh n own proposal) zero_head }

-- what each answer of a start stands for
abbrev pub start_given : Result Head Refusal → Started
start_given (Ok head) = record { number = 0; head = head }
start_given (Err refusal) = record { number = number_of refusal; head = zero_head }

-- "A head sends its present phase, value and status"
abbrev pub ballot_of : Head → Ballot
ballot_of h = ballot h.own h.phase h.value h.status

-- "writing the ballot of a sound head gives those five bytes, of an unsound one refusal 3 and five zeros"
unfoldable pub send_of : Head → Written
send_of h =
    record { number = cond (sound h) 0 3; bytes = cond (sound h) (bytes_of (ballot_of h)) (replicate ballot_bytes 0) }

-- what each answer of sending stands for
abbrev pub send_given : Result (List ℕ) Refusal → Written
send_given (Ok bytes) = record { number = 0; bytes = bytes }
send_given (Err refusal) = record { number = number_of refusal; bytes = replicate ballot_bytes 0 }
