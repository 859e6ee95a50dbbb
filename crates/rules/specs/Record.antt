-- A head as the record of 20 bytes that the heads' firmware holds. Document 01, 'Heads and ballots'. Tests; what they
-- mean is in Given.
use Rattle.std.specs.Prelude.{ℕ, ◌+◌, ◌*◌, ◌/◌, ◌%◌, List, [], ◌∷◌, ◌++◌, Bool, cond, ◌&&◌, not, length, get_or, replicate, ltb, eqb}
use Rattle.rules.specs.declared.Decision.{Decision}
use Rattle.rules.specs.declared.Decision.TheVariants.{Zero as ForZero, One as ForOne, Unwritten}
use Rattle.rules.specs.declared.Head.{Head}
use Rattle.rules.specs.Number.{◌when◌, first_that_applies}
use Rattle.rules.specs.Ballot.{value_code, value_of, status_code, status_of, bytes_of}
use Rattle.rules.specs.Head.{head_with, decision_code, sound, start_lines, start_of, ballot_of}
use Rattle.rules.specs.Tick.{tick_number, tick_index, tick_of}
use Rattle.rules.specs.Sizes.{ballot_bytes, record_bytes}

-- "4 bytes each, high byte first"
abbrev pub four_bytes : ℕ → List ℕ
four_bytes x = x / 16777216 ∷ x / 65536 % 256 ∷ x / 256 % 256 ∷ x % 256 ∷ []

-- "n, own number, phase (2, high byte first), value, status, decision (2 for none), a zero byte, then the sets for 0, 1
-- and blank"
abbrev pub record_of : Head → List ℕ
record_of h =
    (h.n ∷ h.own ∷ h.phase / 256 ∷ h.phase % 256 ∷ [])
    ++ (value_code h.value ∷ status_code h.status ∷ decision_code h.decision ∷ 0 ∷ [])
    ++ four_bytes h.zeros ++ four_bytes h.ones ++ four_bytes h.blanks

-- "Another length or a byte outside these codes makes it unsound."
unfoldable pub is_record : List ℕ → Bool
is_record r =
    eqb (length r) record_bytes
    && (ltb (get_or r 4 0) 3 && (ltb (get_or r 5 0) 2 && (ltb (get_or r 6 0) 3 && eqb (get_or r 7 0) 0)))

unfoldable pub decision_of : ℕ → Decision
decision_of code = cond (eqb code 0) ForZero (cond (eqb code 1) ForOne Unwritten)

-- four bytes from index i on, high byte first
abbrev pub four_bytes_at : List ℕ → ℕ → ℕ
four_bytes_at r i = ((get_or r i 0 * 256 + get_or r (i + 1) 0) * 256 + get_or r (i + 2) 0) * 256 + get_or r (i + 3) 0

-- the head that a record holds
unfoldable pub head_at : List ℕ → Head
head_at r =
    head_with (get_or r 0 0) (get_or r 1 0) (get_or r 2 0 * 256 + get_or r 3 0) (value_of (get_or r 4 0)) (status_of (get_or r 5 0))
    (decision_of (get_or r 6 0)) (λ v. four_bytes_at r (8 + value_code v * 4))

-- 3: "head not sound"
unfoldable pub not_sound : List ℕ → Bool
not_sound r = not (is_record r && sound (head_at r))

-- A start from C: 1, 2, then 3, "at a start from C, record not 20 bytes"; "from C the record is unchanged" where
-- refused.
unfoldable pub start_number_from_c : List ℕ → ℕ → ℕ → ℕ → ℕ
start_number_from_c r n own proposal =
    first_that_applies (start_lines n own proposal ++ (3 when not (eqb (length r) record_bytes)) ∷ [])

unfoldable pub record_after_start : List ℕ → ℕ → ℕ → ℕ → List ℕ
record_after_start r n own proposal =
    cond (eqb (start_number_from_c r n own proposal) 0) (record_of (start_of n own proposal).head) r

-- A tick from C: 3, and then what a tick asks of the head; refused, "no byte of a lent record .. changes".
unfoldable pub tick_number_from_c : List ℕ → List ℕ → ℕ → ℕ
tick_number_from_c r l coin = cond (not_sound r) 3 (tick_number (head_at r) l coin)

-- W1: "The C entry passes it on"; a record that is none is 3, and "Other numbers give index 0."
unfoldable pub tick_index_from_c : List ℕ → List ℕ → ℕ → ℕ
tick_index_from_c r l coin = cond (not_sound r) 0 (tick_index (head_at r) l coin)

unfoldable pub record_after_tick : List ℕ → List ℕ → ℕ → List ℕ
record_after_tick r l coin = cond (eqb (tick_number_from_c r l coin) 0) (record_of (tick_of (head_at r) l coin).head) r

-- A ballot from C: "Where a buffer is lent for it, a length other than five is 5, after 3, and either refusal leaves
-- every byte of that buffer zero."
unfoldable pub send_number_from_c : List ℕ → List ℕ → ℕ
send_number_from_c r buffer = first_that_applies ((3 when not_sound r) ∷ (5 when not (eqb (length buffer) ballot_bytes)) ∷ [])

unfoldable pub buffer_after_send : List ℕ → List ℕ → List ℕ
buffer_after_send r buffer =
    cond (eqb (send_number_from_c r buffer) 0) (bytes_of (ballot_of (head_at r))) (replicate (length buffer) 0)
