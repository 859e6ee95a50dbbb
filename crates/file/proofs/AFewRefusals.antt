-- Document 01's refusals of a run file, computed: one list of small files, each with its number and place, and one
-- statement over it. "The first that applies, in this order"; "In each section the count is read, then its rule tested,
-- then the body's length, then its bytes. Place of a refusal: 12, the file's length; 13, the count; 14, the byte, or
-- the row's first byte; 15, the first extra byte; 16, place 0."
use Prim.Native.Nat.{ℕ}
use mathlib.Core.Path.{◌≡◌, refl}
use mathlib.Core.List.{List, [], ◌∷◌, ◌++◌, map}
use lib.ListN.{replicate}
use Rattle.rules.specs.Head.{zero_head}
use Rattle.file.specs.Figures.{Outcome, outcome_of}
use Rattle.file.specs.Section.{body_of, proposals_of, needed_of, losses_of, coins_of}
use Rattle.file.specs.Benched.{benched_of}
use Rattle.file.specs.Report.{word, report_of}
use Rattle.file.proofs.Computing.{reporting}

-- a number and its place
pub record Answer : Type 0 where
  pub number : ℕ
  pub place : ℕ

pub record Compared : Type 0 where
  pub gives : Answer
  pub said : Answer

abbrev answers : Outcome → ℕ → ℕ → Compared
answers o number place =
    record { gives = record { number = o.number; place = o.place }; said = record { number = number; place = place } }

-- a file in a lent table of so many heads, with what document 01 says of it
abbrev lent : ℕ → List ℕ → ℕ → ℕ → Compared
lent room file = answers (outcome_of file (replicate room zero_head))

-- in the program's table
abbrev gives : List ℕ → ℕ → ℕ → Compared
gives file = answers (benched_of file).outcome

-- ---- sound sections for three heads

-- "1. Count n (2 to 32), then n proposals (0 or 1).": 5 bytes
abbrev proposals : List ℕ
proposals = 0 ∷ 3 ∷ 1 ∷ 1 ∷ 0 ∷ []

-- "2. Count 1, then k", the next three: 8 bytes
abbrev need : List ℕ
need = proposals ++ (0 ∷ 1 ∷ 2 ∷ [])

-- "3. Count of rounds ..; per round n rows of 4 bytes": one round in which every ballot is lost, "A head's own ballot
-- may be lost too." 22 bytes
abbrev losses : List ℕ
losses = need ++ (0 ∷ 1 ∷ 0 ∷ 0 ∷ 0 ∷ 7 ∷ 0 ∷ 0 ∷ 0 ∷ 7 ∷ 0 ∷ 0 ∷ 0 ∷ 7 ∷ [])

-- "4. Count n times rounds, then that many coins (0 or 1)": 27 bytes
abbrev coins : List ℕ
coins = losses ++ (0 ∷ 3 ∷ 1 ∷ 0 ∷ 1 ∷ [])

unfoldable pub files : List Compared
files =
    -- ---- section 1: "An empty file: 12 at 0."
    gives [] 12 0
    ∷ gives (0 ∷ []) 12 1
    -- the count's rule, before the body's length
    ∷ gives (0 ∷ 1 ∷ []) 13 0
    ∷ gives (0 ∷ 33 ∷ []) 13 0
    -- "a two-byte count, high byte first": 258 and 512, not 2
    ∷ gives (1 ∷ 2 ∷ 1 ∷ 1 ∷ []) 13 0
    ∷ gives (2 ∷ 0 ∷ 1 ∷ 1 ∷ []) 13 0
    -- the body's length, before its bytes
    ∷ gives (0 ∷ 3 ∷ []) 12 2
    ∷ gives (0 ∷ 3 ∷ 2 ∷ 1 ∷ []) 12 4
    -- its bytes, before section 2; of two the first
    ∷ gives (0 ∷ 3 ∷ 1 ∷ 1 ∷ 2 ∷ []) 14 4
    ∷ gives (0 ∷ 3 ∷ 1 ∷ 2 ∷ 3 ∷ []) 14 3
    ∷ gives (0 ∷ 3 ∷ 2 ∷ 1 ∷ 2 ∷ 0 ∷ 2 ∷ []) 14 2
    -- ---- section 2, its count at 2 + n
    ∷ gives proposals 12 5
    ∷ gives (proposals ++ (9 ∷ [])) 12 6
    ∷ gives (proposals ++ (0 ∷ 0 ∷ [])) 13 5
    ∷ gives (proposals ++ (0 ∷ 2 ∷ 2 ∷ 2 ∷ [])) 13 5
    ∷ gives (proposals ++ (1 ∷ 1 ∷ 2 ∷ [])) 13 5
    ∷ gives (proposals ++ (0 ∷ 1 ∷ [])) 12 7
    -- "k, the heads needed: more than n/2, at most n"
    ∷ gives (proposals ++ (0 ∷ 1 ∷ 1 ∷ [])) 14 7
    ∷ gives (0 ∷ 4 ∷ 1 ∷ 1 ∷ 0 ∷ 0 ∷ 0 ∷ 1 ∷ 2 ∷ []) 14 8
    ∷ gives (0 ∷ 4 ∷ 1 ∷ 1 ∷ 0 ∷ 0 ∷ 0 ∷ 1 ∷ 5 ∷ []) 14 8
    -- ---- section 3, its count at 5 + n
    ∷ gives need 12 8
    ∷ gives (need ++ (9 ∷ [])) 12 9
    ∷ gives (need ++ (1 ∷ 1 ∷ [])) 13 8
    ∷ gives (need ++ (1 ∷ 0 ∷ [])) 12 10
    -- a bad row before the cut
    ∷ gives (need ++ (0 ∷ 1 ∷ []) ++ replicate 11 255) 12 21
    -- "Bits from n up are zero.": bit 3 in the second row, bit 31 in the third; of two such rows the first
    ∷ gives (need ++ (0 ∷ 1 ∷ 0 ∷ 0 ∷ 0 ∷ 7 ∷ 0 ∷ 0 ∷ 0 ∷ 8 ∷ 0 ∷ 0 ∷ 0 ∷ 0 ∷ [])) 14 14
    ∷ gives (need ++ (0 ∷ 1 ∷ 0 ∷ 0 ∷ 0 ∷ 7 ∷ 0 ∷ 0 ∷ 0 ∷ 7 ∷ 128 ∷ 0 ∷ 0 ∷ 0 ∷ [])) 14 18
    ∷ gives (need ++ (0 ∷ 1 ∷ 0 ∷ 0 ∷ 0 ∷ 0 ∷ 1 ∷ 0 ∷ 0 ∷ 0 ∷ 1 ∷ 0 ∷ 0 ∷ 0 ∷ [])) 14 14
    -- ---- section 4, its count after the rows
    ∷ gives losses 12 22
    ∷ gives (losses ++ (9 ∷ [])) 12 23
    -- "Count n times rounds", not the rounds, nor one less or more
    ∷ gives (losses ++ (0 ∷ 1 ∷ 0 ∷ [])) 13 22
    ∷ gives (losses ++ (0 ∷ 2 ∷ 0 ∷ 0 ∷ [])) 13 22
    ∷ gives (losses ++ (0 ∷ 4 ∷ 0 ∷ 0 ∷ 0 ∷ 0 ∷ [])) 13 22
    ∷ gives (losses ++ (0 ∷ 3 ∷ 2 ∷ 2 ∷ [])) 12 26
    ∷ gives (losses ++ (0 ∷ 3 ∷ 1 ∷ 0 ∷ 2 ∷ [])) 14 26
    ∷ gives (losses ++ (0 ∷ 3 ∷ 1 ∷ 2 ∷ 2 ∷ [])) 14 25
    -- ---- "15, the first extra byte; 16, place 0"; "Number 16 is tested after the whole file."
    ∷ gives (coins ++ (0 ∷ [])) 15 27
    ∷ gives (coins ++ (0 ∷ 1 ∷ 0 ∷ [])) 15 27
    ∷ lent 2 coins 16 0
    ∷ lent 2 (coins ++ (0 ∷ [])) 15 27
    ∷ lent 2 (losses ++ (0 ∷ 3 ∷ 1 ∷ 0 ∷ 2 ∷ [])) 14 26
    ∷ lent 0 [] 12 0
    -- ---- accepted: just room enough; the smallest file, of no round; the most heads, all needed, all ballots lost
    ∷ lent 3 coins 0 0
    ∷ lent 2 (0 ∷ 2 ∷ 0 ∷ 1 ∷ 0 ∷ 1 ∷ 2 ∷ 0 ∷ 0 ∷ 0 ∷ 0 ∷ []) 0 0
    ∷ gives ((0 ∷ 32 ∷ []) ++ replicate 32 1 ++ (0 ∷ 1 ∷ 32 ∷ 0 ∷ 1 ∷ []) ++ replicate 128 255 ++ (0 ∷ 32 ∷ [])
    ++ replicate 32 1) 0 0
    ∷ []

pub each_file_has_its_number_and_place : map (λ (c : Compared). c.gives) files ≡ map (λ (c : Compared). c.said) files
unfolding files reporting
each_file_has_its_number_and_place = refl

-- "A refusal prints one line only: refused, number, at, place; for no input at all, "refused 12 at 0"."; and a place of
-- three digits, of a file that says 32 heads and 256 rounds and ends after 300 bytes
pub refusals_print :
    (report_of []
    ∷ report_of (coins ++ (0 ∷ 1 ∷ []))
    ∷ report_of ((0 ∷ 32 ∷ []) ++ replicate 32 1 ++ (0 ∷ 1 ∷ 17 ∷ []) ++ (1 ∷ 0 ∷ []) ++ replicate 261 0)
    ∷ [])
    ≡ (word "refused 12 at 0\n" ∷ word "refused 15 at 27\n" ∷ word "refused 12 at 300\n" ∷ [])
unfolding reporting
refusals_print = refl

-- "A section reader hands back that section's body as the part of the caller's bytes it stands in, an empty part at a
-- refusal"
pub each_section_has_its_body :
    (body_of coins (proposals_of coins) ∷ body_of coins (needed_of coins 5 3) ∷ body_of coins (losses_of coins 8 3)
    ∷ body_of coins (coins_of coins 22 3) ∷ [])
    ≡ ((1 ∷ 1 ∷ 0 ∷ []) ∷ (2 ∷ []) ∷ (0 ∷ 0 ∷ 0 ∷ 7 ∷ 0 ∷ 0 ∷ 0 ∷ 7 ∷ 0 ∷ 0 ∷ 0 ∷ 7 ∷ []) ∷ (1 ∷ 0 ∷ 1 ∷ []) ∷ [])
unfolding reporting
each_section_has_its_body = refl

pub a_refused_section_has_none : (body_of need (losses_of need 8 3)
    ∷ body_of (0 ∷ 2 ∷ 1 ∷ 2 ∷ []) (proposals_of (0 ∷ 2 ∷ 1 ∷ 2 ∷ [])) ∷ []) ≡ ([] ∷ [] ∷ [])
unfolding reporting
a_refused_section_has_none = refl
