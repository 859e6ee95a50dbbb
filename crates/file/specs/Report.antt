-- What the program prints. Document 01, 'Run file and bench': "First line: n, k, the good-round bound. One line a head,
-- its last state .. Last line: rounds run, good rounds," and by W2 of document 02 "heads whose decision is written". "A
-- refusal prints one line only".
use Rattle.std.specs.Prelude.{ℕ, zero, suc, ◌^◌, ◌≡◌, List, [], ◌∷◌, ◌++◌, cond, ltb, eqb}
use Prim.Native.Char.{code}
use Prim.Native.String.{String, [] as none, ◌∷◌ as ◌then◌}
use Rattle.io.specs.Digits.{last_digits}
use Rattle.rules.specs.declared.Value.{Value}
use Rattle.rules.specs.declared.Value.TheVariants.{Zero, One, Blank}
use Rattle.rules.specs.declared.Status.{Status}
use Rattle.rules.specs.declared.Status.TheVariants.{Undecided, Decided}
use Rattle.rules.specs.declared.Decision.{Decision}
use Rattle.rules.specs.declared.Decision.TheVariants.{Zero as ForZero, One as ForOne, Unwritten}
use Rattle.rules.specs.declared.Head.{Head}
use Rattle.rules.specs.Below.{first}
use Rattle.file.specs.Figures.{Outcome}
use Rattle.file.specs.Table.{head_of}
use Rattle.file.specs.Benched.{benched_of}

-- the bytes of a word
abbrev pub word : String → List ℕ
word none = []
word (letter then letters) = code letter ∷ word letters

-- a number's decimal digits: the fewest that hold it, and no fewer than one
unfoldable pub decimal : ℕ → List ℕ
decimal n = last_digits 10 (suc (first 19 (λ k. ltb n (10 ^ suc k)))) n

-- "value prints 0, 1 or blank, status decided or undecided, decision 0, 1 or none"
abbrev pub value_word : Value → List ℕ
value_word Zero = word "0"
value_word One = word "1"
value_word Blank = word "blank"

abbrev pub status_word : Status → List ℕ
status_word Undecided = word "undecided"
status_word Decided = word "decided"

abbrev pub decision_word : Decision → List ℕ
decision_word ForZero = word "0"
decision_word ForOne = word "1"
decision_word Unwritten = word "none"

-- a word, and a number after it
abbrev pub figure : String → ℕ → List ℕ
figure name number = word name ++ decimal number

-- "First line: n, k, the good-round bound."
unfoldable pub first_line : Outcome → List ℕ
first_line o = figure "heads " o.n ++ figure " need " o.needed ++ figure " bound " o.bound ++ word "\n"

-- "One line a head, its last state"
unfoldable pub head_line : ℕ → Head → List ℕ
head_line s h =
    figure "head " s ++ figure " phase " h.phase ++ word " value " ++ value_word h.value ++ word " status "
    ++ status_word h.status ++ word " decision " ++ decision_word h.decision ++ word "\n"

unfoldable pub head_lines : ℕ → List Head → List ℕ
head_lines zero heads = []
head_lines (suc k) heads = head_lines k heads ++ head_line k (head_of heads k)

-- "its last state", as far as a line tells it, is the same
abbrev pub SameState : Head → Head → Type 0
SameState h k = (h.phase ≡ k.phase) × (h.value ≡ k.value) × (h.status ≡ k.status) × (h.decision ≡ k.decision)

-- "Last line: rounds run, good rounds," and by W2 "heads whose decision is written"
unfoldable pub last_line : Outcome → List ℕ
last_line o = figure "rounds " o.rounds ++ figure " good " o.good ++ figure " decided " o.decided ++ word "\n"

-- "A refusal prints one line only: refused, number, at, place"
unfoldable pub refusal_line : Outcome → List ℕ
refusal_line o = figure "refused " o.number ++ figure " at " o.place ++ word "\n"

-- what the program prints for a file
unfoldable pub report_of : List ℕ → List ℕ
report_of file =
    let o = (benched_of file).outcome in
    cond (eqb o.number 0) (first_line o ++ head_lines o.n (benched_of file).heads ++ last_line o) (refusal_line o)
