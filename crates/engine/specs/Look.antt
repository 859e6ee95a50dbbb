-- What the functions of `engine` hand to one another: a tick's answer in two parts, and what one look at a list of
-- ballots shows.
use Rattle.std.specs.Prelude.{ℕ, zero, suc, ◌+◌, ◌*◌, ◌/◌, ◌%◌, ◌≤◌, ◌<◌, ◌≡◌, List, [], ◌∷◌, Bool, true, false, cond, ◌&&◌, ◌||◌, ltb, eqb, get_or}
use Rattle.std.specs.Int.Bits.{bit_or}
use Rattle.rules.specs.declared.Value.{Value}
use Rattle.rules.specs.declared.Value.TheVariants.{Zero, One, Blank}
use Rattle.rules.specs.declared.Status.{Status}
use Rattle.rules.specs.declared.Status.TheVariants.{Undecided, Decided}
use Rattle.rules.specs.declared.Ballot.{Ballot}
use Rattle.rules.specs.declared.Head.{Head}
use Rattle.rules.specs.Answer.{Ticked}
use Rattle.rules.specs.declared.Class.{Class}
use Rattle.rules.specs.declared.Class.TheVariants.{Never, First, Second, Odd, Even}
use Rattle.rules.specs.Number.{◌when◌, first_that_applies}
use Rattle.rules.specs.Sizes.{heads_most}
use Rattle.rules.specs.Below.{first, some}
use Rattle.rules.specs.Ballot.{value_code, value_of, status_code, status_of, ballot_at, breaks_rule}
use Rattle.rules.specs.Heard.{member, set_of}
use Rattle.rules.specs.Tick.{ballots, own_otherwise, held_otherwise, contradicts, gathered, both_heard, phases_end, decides_otherwise, stepped, settled, offender}
use Rattle.engine.specs.declared.look.Look.{Look}

-- the numbers that a list of ballots gives: 6 to 8
unfoldable pub list_number : Head → List ℕ → ℕ
list_number h l =
    first_that_applies
    ((6 when some (ballots l) (breaks_rule h.n l))
    ∷ (7 when some (ballots l) (λ i. own_otherwise h (ballot_at l i)))
    ∷ (8 when some (ballots l) (contradicts h l))
    ∷ [])

-- one of them with the ballot that it names, or the head after steps 1 and 2
unfoldable pub listened : Head → List ℕ → Ticked
listened h l =
    let number = list_number h l in
    record { number = number; index = offender number h l; head = cond (eqb number 0) (gathered h l) h }

-- the numbers after those, of the head after steps 1 and 2: 9 to 11
unfoldable pub end_number : Head → ℕ → ℕ
end_number g coin =
    first_that_applies
    ((9 when both_heard g) ∷ (10 when phases_end g) ∷ (11 when decides_otherwise (stepped g coin)) ∷ [])

-- one of them, with the head as it came, or the head after steps 3 and 4
unfoldable pub ended : Head → Head → ℕ → Ticked
ended h g coin =
    let number = end_number g coin in
    record { number = number; index = 0; head = cond (eqb number 0) (settled (stepped g coin)) h }

-- ---- one ballot

-- the ballot at index i gives 6, 7 or 8
unfoldable pub refused : Head → List ℕ → ℕ → Bool
refused h l i = breaks_rule h.n l i || (own_otherwise h (ballot_at l i) || contradicts h l i)

-- a value and a status in one number, two for each value
abbrev pub code : Ballot → ℕ
code b = value_code b.value * 2 + status_code b.status

-- the ballot rules at phases of a class: how many statuses stand for each value
abbrev pub statuses_of : Class → List ℕ
statuses_of Never = 0 ∷ 0 ∷ 0 ∷ []
statuses_of First = 1 ∷ 1 ∷ 0 ∷ []
statuses_of Second = 1 ∷ 1 ∷ 1 ∷ []
statuses_of Odd = 2 ∷ 2 ∷ 0 ∷ []
statuses_of Even = 2 ∷ 2 ∷ 1 ∷ []

-- the ballot at index i has a sender below n, and that many statuses stand for its value
abbrev pub is_within : ℕ → List ℕ → List ℕ → ℕ → Bool
is_within n statuses l i =
    ltb (get_or l (i * 5) 0) n && ltb (get_or l (i * 5 + 2) 0) (get_or statuses (get_or l (i * 5 + 1) 0) 0)

-- the sets of a look by place, nobody in them
abbrev pub nobody_said : List ℕ
nobody_said = 0 ∷ 0 ∷ 0 ∷ 0 ∷ 0 ∷ []

-- the ballot of head s at phase p with that value and status
abbrev pub ballot_by : ℕ → ℕ → ℕ → Ballot
ballot_by s c p = record { sender = s; value = value_of (c / 2); status = status_of (c % 2); phase = p }

-- ---- sets of senders

-- the set of one head
abbrev pub alone : ℕ → ℕ
alone sender = set_of 32 (λ s. eqb sender s)

-- the heads whose ballot of phase p with that value and status gives 7, or 8 by what is held
abbrev pub barred_from : Head → ℕ → ℕ → ℕ
barred_from h p c = set_of 32 (λ s. own_otherwise h (ballot_by s c p) || held_otherwise h (ballot_by s c p))

-- the ballot at index j is of phase p and of head s; it has that value and status too; it is of a lower phase
abbrev pub is_of : List ℕ → ℕ → ℕ → ℕ → Bool
is_of l p s j = eqb (ballot_at l j).phase p && eqb (ballot_at l j).sender s

abbrev pub is_said : List ℕ → ℕ → ℕ → ℕ → ℕ → Bool
is_said l p c s j = eqb (ballot_at l j).phase p && (eqb (ballot_at l j).sender s && eqb (code (ballot_at l j)) c)

abbrev pub is_late : List ℕ → ℕ → ℕ → ℕ → Bool
is_late l p s j = ltb (ballot_at l j).phase p && eqb (ballot_at l j).sender s

-- the heads with such a ballot among the first k
abbrev pub listed_in : List ℕ → ℕ → ℕ → ℕ
listed_in l k p = set_of 32 (λ s. some k (is_of l p s))

abbrev pub said_in : List ℕ → ℕ → ℕ → ℕ → ℕ
said_in l k p c = set_of 32 (λ s. some k (is_said l p c s))

abbrev pub late_in : List ℕ → ℕ → ℕ → ℕ
late_in l k p = set_of 32 (λ s. some k (is_late l p s))

-- ---- one look

-- the highest phase of the head and the first k ballots
unfoldable pub highest : Head → List ℕ → ℕ → ℕ
highest h l zero = h.phase
highest h l (suc k) = cond (ltb (highest h l k) (ballot_at l k).phase) (ballot_at l k).phase (highest h l k)

-- what the first k ballots show
unfoldable pub look_at : Head → List ℕ → ℕ → Look
look_at h l k =
    record {
      next = k;
      phase = highest h l k;
      listed = listed_in l k (highest h l k);
      elsewhere = late_in l k (highest h l k);
      zeros = said_in l k (highest h l k) 0;
      zeros_decided = said_in l k (highest h l k) 1;
      ones = said_in l k (highest h l k) 2;
      ones_decided = said_in l k (highest h l k) 3;
      blanks = said_in l k (highest h l k) 4;
    }

-- before the first ballot; and a look that has gone on to index k, with more senders at its phase
abbrev pub unlooked : Head → Look
unlooked h =
    record {
      next = 0;
      phase = h.phase;
      listed = 0;
      elsewhere = 0;
      zeros = 0;
      zeros_decided = 0;
      ones = 0;
      ones_decided = 0;
      blanks = 0;
    }

abbrev pub with_said : Look → ℕ → ℕ → List ℕ → Look
with_said look k listed said =
    record {
      next = k;
      phase = look.phase;
      listed = listed;
      elsewhere = look.elsewhere;
      zeros = get_or said 0 0;
      zeros_decided = get_or said 1 0;
      ones = get_or said 2 0;
      ones_decided = get_or said 3 0;
      blanks = get_or said 4 0;
    }

-- numbers of heads that fit into a set
abbrev pub Fits : Head → Type 0
Fits h = (h.n ≤ 32) × (h.own < 32)

-- a look at ballots of which none is refused
abbrev pub Looks : Head → List ℕ → Look → Type 0
Looks h l look =
    (look.next ≤ ballots l) × ((j : ℕ) → j < look.next → refused h l j ≡ false) × (look ≡ look_at h l look.next)

-- one that goes on from another to a ballot that is refused, if its phase is R to the look's
abbrev pub GoesOn : Head → List ℕ → (ℕ → ℕ → Type 0) → Look → Look → Type 0
GoesOn h l R from look =
    Looks h l look
    × (from.next ≤ look.next)
    × (look.next < ballots l → R (ballot_at l look.next).phase look.phase → refused h l look.next ≡ true)

-- whoever sent an earlier ballot of the phase of the one at index i is in the set
abbrev pub KnownIn : ℕ → List ℕ → ℕ → Type 0
KnownIn set l i =
    (j : ℕ) → j < i → (ballot_at l j).phase ≡ (ballot_at l i).phase → (ballot_at l j).sender < 32 → member (ballot_at l j).sender set ≡ true

-- what head s says at the look's phase; and the ballot of the lowest sender there
abbrev pub value_by : Look → ℕ → Value
value_by look s = cond (member s look.blanks) Blank (cond (member s (bit_or look.ones look.ones_decided)) One Zero)

abbrev pub status_by : Look → ℕ → Status
status_by look s = cond (member s (bit_or look.zeros_decided look.ones_decided)) Decided Undecided

abbrev pub foremost : Look → Ballot
foremost look =
    let s = first heads_most (λ s. member s look.listed) % 32 in
    record { sender = s; value = value_by look s; status = status_by look s; phase = look.phase }

-- the head with those that were seen at its phase; nobody is decided with a blank
abbrev pub shown : Head → Look → Head
shown h look =
    record {
      n = h.n;
      own = h.own;
      phase = h.phase;
      value = h.value;
      status = h.status;
      decision = h.decision;
      zeros = set_of 32 (λ s. member s h.zeros || (member s look.zeros || member s look.zeros_decided));
      ones = set_of 32 (λ s. member s h.ones || (member s look.ones || member s look.ones_decided));
      blanks = set_of 32 (λ s. member s h.blanks || (member s look.blanks || member s 0));
    }
