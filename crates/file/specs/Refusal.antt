-- The refusals of a run file as propositions: document 01's numbers 12 to 16, "given exactly when", each with its
-- place.
use Rattle.std.specs.Prelude.{ℕ, ◌+◌, ◌*◌, ◌≤◌, ◌<◌, ◌≡◌, List, [], ◌∷◌, ◌++◌, true, length, get_or}
use Rattle.rules.specs.Heard.{member}
use Rattle.rules.specs.Record.{four_bytes_at}
use Rattle.rules.specs.Given.{Row, ◌exactly_at◌, At, Heads}
use Rattle.file.specs.Section.{count_at}

-- of so many pieces from a start on, each of so many bytes, the first that does not keep its rule stands at the place
abbrev pub FirstThatBreaks : ℕ → ℕ → ℕ → (ℕ → Type 0) → ℕ → Type 0
FirstThatBreaks start pieces width Keeps place =
    (i : ℕ) × (i < pieces) × (place ≡ start + i * width) × (Keeps place → ⊥)
    × ((j : ℕ) → j < i → Keeps (start + j * width))

-- a section: where its count stands, the count's rule, how many pieces of how many bytes follow, and the rule of a
-- piece
abbrev pub section_refusals : List ℕ → ℕ → Type 0 → ℕ → ℕ → (ℕ → Type 0) → List Row
section_refusals file count Rule pieces width Keeps =
    -- "In each section the count is read": 12, "ends inside a count"; "12, the file's length"
    (12 exactly_at At (length file) (length file < count + 2))
    -- "then its rule tested": 13, "a count breaks its rule"; "13, the count"
    ∷ (13 exactly_at At count (Rule → ⊥))
    -- "then the body's length": 12, "ends inside .. a body"
    ∷ (12 exactly_at At (length file) (length file < count + 2 + pieces * width))
    -- "then its bytes.": 14, "a byte or row breaks its rule"; "14, the byte, or the row's first byte"
    ∷ (14 exactly_at FirstThatBreaks (count + 2) pieces width Keeps)
    ∷ []

-- a byte that is "0 or 1"
abbrev pub BitAt : List ℕ → ℕ → Type 0
BitAt file place = get_or file place 0 < 2

-- "k, the heads needed: more than n/2, at most n"
abbrev pub Need : ℕ → List ℕ → ℕ → Type 0
Need n file place = (n < get_or file place 0 * 2) × (get_or file place 0 ≤ n)

-- "rows of 4 bytes, high byte first .. Bits from n up are zero."
abbrev pub LossRow : ℕ → List ℕ → ℕ → Type 0
LossRow n file place = (s : ℕ) → member s (four_bytes_at file place) ≡ true → s < n

-- "Four sections in this order, each after a two-byte count", for a table with room for so many heads. Where the file
-- is too short for a count, the count's 12 comes before all that is said of it.
abbrev pub file_refusals : List ℕ → ℕ → List Row
file_refusals file room =
    let n = count_at file 0 in
    let second = 2 + n in
    let third = second + 2 + 1 in
    let rounds = count_at file third in
    let fourth = third + 2 + rounds * n * 4 in
    let end = fourth + 2 + rounds * n in
    -- "1. Count n (2 to 32), then n proposals (0 or 1)."
    section_refusals file 0 (Heads n) n 1 (BitAt file)
    -- "2. Count 1, then k"
    ++ section_refusals file second (count_at file second ≡ 1) 1 1 (Need n file)
    -- "3. Count of rounds, 0 to 256; per round n rows of 4 bytes"
    ++ section_refusals file third (rounds ≤ 256) (rounds * n) 4 (LossRow n file)
    -- "4. Count n times rounds, then that many coins (0 or 1)"
    ++ section_refusals file fourth (count_at file fourth ≡ rounds * n) (rounds * n) 1 (BitAt file)
    -- 15, "bytes after the last section"; "15, the first extra byte"
    ++ (15 exactly_at At end (end < length file))
    -- 16, "table shorter than n"; "16, place 0"; "Number 16 is tested after the whole file."
    ∷ (16 exactly_at At 0 (room < n))
    ∷ []
