-- Ballots: their bytes, the ballot rules, reading one. Document 01, 'Heads and ballots'. These are tests; what they
-- mean is in Given.
use Rattle.std.specs.Prelude.{ℕ, ◌+◌, ◌*◌, ◌/◌, ◌%◌, ◌<◌, List, [], Result, Ok, Err, ◌∷◌, ◌++◌, Bool, false, cond, ◌&&◌, not, length, get_or, take, drop, ltb, leb, eqb}
use Rattle.rules.specs.declared.Value.{Value}
use Rattle.rules.specs.declared.Value.TheVariants.{Zero, One, Blank}
use Rattle.rules.specs.declared.Status.{Status}
use Rattle.rules.specs.declared.Status.TheVariants.{Undecided, Decided}
use Rattle.rules.specs.declared.Class.{Class}
use Rattle.rules.specs.declared.Class.TheVariants.{Never, First, Second, Odd, Even}
use Rattle.rules.specs.declared.Ballot.{Ballot}
use Rattle.rules.specs.declared.Refusal.{Refusal}
use Rattle.rules.specs.Refusal.{number_of, index_of}
use Rattle.rules.specs.Number.{◌when◌, first_that_applies}
use Rattle.rules.specs.Sizes.{ballot_bytes, heads_least, heads_most}

-- "value 0, 1 or 2 (blank)"
abbrev pub value_code : Value → ℕ
value_code Zero = 0
value_code One = 1
value_code Blank = 2

unfoldable pub value_of : ℕ → Value
value_of code = cond (eqb code 0) Zero (cond (eqb code 1) One Blank)

-- "status 0 or 1 (decided)"
abbrev pub status_code : Status → ℕ
status_code Undecided = 0
status_code Decided = 1

unfoldable pub status_of : ℕ → Status
status_of code = cond (eqb code 0) Undecided Decided

abbrev pub same_value : Value → Value → Bool
same_value v w = eqb (value_code v) (value_code w)

-- "Ballots as (sender, phase, value, u or d)"
abbrev pub ballot : ℕ → ℕ → Value → Status → Ballot
ballot sender phase value status = record { sender = sender; value = value; status = status; phase = phase }

-- "Five bytes: sender; value 0, 1 or 2 (blank); status 0 or 1 (decided); phase, high byte first."
abbrev pub bytes_of : Ballot → List ℕ
bytes_of b = b.sender ∷ value_code b.value ∷ status_code b.status ∷ b.phase / 256 ∷ b.phase % 256 ∷ []

-- the bytes of a list of ballots, one after the other; and the five bytes at index i of such a list
abbrev pub encode : List Ballot → List ℕ
encode [] = []
encode (b ∷ list) = bytes_of b ++ encode list

abbrev pub five_at : List ℕ → ℕ → List ℕ
five_at l i = take ballot_bytes (drop (i * ballot_bytes) l)

-- each is a byte
abbrev pub Bytes : List ℕ → Type 0
Bytes l = (i : ℕ) → get_or l i 0 < 256

-- The ballot that the five bytes at index i of a list of ballots write. A code that is none is read as the
-- last one: such a ballot breaks a ballot rule, which is tested on its bytes before anything looks at it.
abbrev pub phase_at : List ℕ → ℕ → ℕ
phase_at l i = get_or l (i * ballot_bytes + 3) 0 * 256 + get_or l (i * ballot_bytes + 4) 0

unfoldable pub ballot_at : List ℕ → ℕ → Ballot
ballot_at l i =
    let at = i * ballot_bytes in
    ballot (get_or l at 0) (phase_at l i) (value_of (get_or l (at + 1) 0)) (status_of (get_or l (at + 2) 0))

-- "phase 0 never stands; the values and statuses allowed differ for phase 1, phase 2, odd phases from 3 and even
-- phases from 4."
unfoldable pub class_of : ℕ → Class
class_of phase =
    cond (eqb phase 0) Never (cond (eqb phase 1) First (cond (eqb phase 2) Second (cond (eqb (phase % 2) 1) Odd Even)))

-- "Phase 1: value 0 or 1, undecided. Phase 2: any value, undecided. Odd from 3: value 0 or 1, either status. Even from
-- 4: any value; blank only when undecided." Of a class of phases, a value's code and a status's code.
unfoldable pub allowed : Class → ℕ → ℕ → Bool
allowed Never value status = false
allowed First value status = ltb value 2 && eqb status 0
allowed Second value status = ltb value 3 && eqb status 0
allowed Odd value status = ltb value 2 && ltb status 2
allowed Even value status = cond (eqb value 2) (eqb status 0) (ltb value 2 && ltb status 2)

unfoldable pub obeys : ℕ → ℕ → ℕ → Bool
obeys phase value status = allowed (class_of phase) value status

-- 6: "a ballot breaks a ballot rule", the one at index i; "Sender below n."
unfoldable pub breaks_rule : ℕ → List ℕ → ℕ → Bool
breaks_rule n l i =
    let at = i * ballot_bytes in
    not (ltb (get_or l at 0) n && obeys (phase_at l i) (get_or l (at + 1) 0) (get_or l (at + 2) 0))

-- 1: "n not 2 to 32"
unfoldable pub not_heads : ℕ → Bool
not_heads n = not (leb heads_least n && leb n heads_most)

-- "Reading one ballot takes n and the bytes": 1, 5 or 6
unfoldable pub read_number : ℕ → List ℕ → ℕ
read_number n bytes =
    first_that_applies
    ((1 when not_heads n) ∷ (5 when not (eqb (length bytes) ballot_bytes)) ∷ (6 when breaks_rule n bytes 0) ∷ [])

abbrev pub zero_ballot : Ballot
zero_ballot = ballot 0 0 Zero Undecided

-- "a refusal (1, 5 or 6) comes with a ballot of zero fields"
unfoldable pub read_ballot : ℕ → List ℕ → Ballot
read_ballot n bytes = cond (eqb (read_number n bytes) 0) (ballot_at bytes 0) zero_ballot

-- W1: "The ballot reader .. to give the index, from 0, of the first offending ballot", and it has one ballot, at index
-- 0; "Other numbers give index 0."
abbrev pub read_index : ℕ → List ℕ → ℕ
read_index n bytes = 0

-- the number, the index and the ballot that each answer of the reader stands for
abbrev pub number_read : Result Ballot Refusal → ℕ
number_read (Ok b) = 0
number_read (Err refusal) = number_of refusal

abbrev pub index_read : Result Ballot Refusal → ℕ
index_read (Ok b) = 0
index_read (Err refusal) = index_of refusal

abbrev pub ballot_read : Result Ballot Refusal → Ballot
ballot_read (Ok b) = b
ballot_read (Err refusal) = zero_ballot
