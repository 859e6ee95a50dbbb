-- The sections of a run file: "Four sections in this order, each after a two-byte count, high byte first." Document 01,
-- 'Run file and bench'. Tests; what they mean is in Refusal.
use Rattle.std.specs.Prelude.{ℕ, ◌+◌, ◌*◌, ◌/◌, List, [], Bool, cond, ◌&&◌, not, length, get_or, take, drop, ltb, leb, eqb, Result, Ok, Err}
use Rattle.rules.specs.Below.{first}
use Rattle.rules.specs.Ballot.{not_heads}
use Rattle.rules.specs.Heard.{over_half, within}
use Rattle.rules.specs.Record.{four_bytes_at}
use Rattle.file.specs.declared.Refusal.{Refusal}
use Rattle.file.specs.declared.Body.{Body as Standing}
use Rattle.file.specs.Fault.{number_of}

-- "body or refusal with its place"
pub data Section : Type 0 where
  Body : (start length : ℕ) → Section
  Refused : (number place : ℕ) → Section

-- what a section reader's answer stands for
abbrev pub section_read : Result Standing Refusal → Section
section_read (Ok body) = Body body.start body.length
section_read (Err refusal) = Refused (number_of refusal.fault) refusal.place

-- "a two-byte count, high byte first"
abbrev pub count_at : List ℕ → ℕ → ℕ
count_at file place = get_or file place 0 * 256 + get_or file (place + 1) 0

-- "hands back that section's body as the part of the caller's bytes it stands in, an empty part at a refusal"
abbrev pub body_of : List ℕ → Section → List ℕ
body_of file (Body start length) = take length (drop start file)
body_of file (Refused number place) = []

-- "In each section the count is read, then its rule tested, then the body's length, then its bytes.": the section whose
-- count stands at a place, with a body of so many bytes, in pieces of so many. "Place of a refusal: 12, the file's
-- length; 13, the count; 14, the byte, or the row's first byte".
unfoldable pub section_at : List ℕ → ℕ → Bool → ℕ → ℕ → (List ℕ → ℕ → Bool) → Section
section_at file at count_breaks size width breaks =
    let body = body_of file (Body (at + 2) size) in
    let pieces = length body / width in
    let broken = first pieces (λ i. breaks body (i * width)) in
    cond (ltb (length file) (at + 2)) (Refused 12 (length file))
    (cond count_breaks (Refused 13 at)
    (cond (ltb (length file) (at + 2 + size)) (Refused 12 (length file))
    (cond (ltb broken pieces) (Refused 14 (at + 2 + broken * width)) (Body (at + 2) size))))

-- a byte that is to be "0 or 1", and is not
abbrev pub not_bit : List ℕ → ℕ → Bool
not_bit body at = ltb 1 (get_or body at 0)

-- "Count n (2 to 32), then n proposals (0 or 1)."
unfoldable pub proposals_of : List ℕ → Section
proposals_of file = section_at file 0 (not_heads (count_at file 0)) (count_at file 0) 1 not_bit

-- "k, the heads needed: more than n/2, at most n"
abbrev pub not_need : ℕ → List ℕ → ℕ → Bool
not_need n body at = not (over_half n (get_or body at 0) && leb (get_or body at 0) n)

-- "Count 1, then k"
unfoldable pub needed_of : List ℕ → ℕ → ℕ → Section
needed_of file at n = section_at file at (not (eqb (count_at file at) 1)) 1 1 (not_need n)

-- "Bits from n up are zero."
abbrev pub not_row : ℕ → List ℕ → ℕ → Bool
not_row n body at = not (within n (four_bytes_at body at))

-- "Count of rounds, 0 to 256; per round n rows of 4 bytes, high byte first"
unfoldable pub losses_of : List ℕ → ℕ → ℕ → Section
losses_of file at n = section_at file at (ltb 256 (count_at file at)) (count_at file at * n * 4) 4 (not_row n)

-- "Count n times rounds, then that many coins (0 or 1), round by round, head by head."
unfoldable pub coins_of : List ℕ → ℕ → ℕ → Section
coins_of file at count = section_at file at (not (eqb (count_at file at) count)) count 1 not_bit
