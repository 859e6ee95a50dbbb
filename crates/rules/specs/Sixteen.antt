-- Document 01, 'Sixteen ticks proved of the rules': "One list of these sixteen and a single statement over it."
use Rattle.std.specs.Prelude.{ℕ, List, [], ◌∷◌, cond}
use Rattle.rules.specs.declared.Value.{Value}
use Rattle.rules.specs.declared.Value.TheVariants.{Zero, One, Blank}
use Rattle.rules.specs.declared.Status.{Status}
use Rattle.rules.specs.declared.Status.TheVariants.{Undecided as u, Decided as d}
use Rattle.rules.specs.declared.Decision.{Decision}
use Rattle.rules.specs.declared.Decision.TheVariants.{One as ForOne, Unwritten as none}
use Rattle.rules.specs.declared.Ballot.{Ballot}
use Rattle.rules.specs.declared.Head.{Head}
use Rattle.rules.specs.Answer.{Ticked}
use Rattle.rules.specs.Ballot.{same_value, ballot, encode}
use Rattle.rules.specs.Head.{head_with, start_of}
use Rattle.rules.specs.Tick.{tick_of}

-- "own number 0, proposal 1"
abbrev pub start : ℕ → Head
start n = (start_of n 0 1).head

-- own number 0; the set of those "held under 1", and nobody held under 0 or blank
abbrev pub head : ℕ → ℕ → Value → Status → Decision → ℕ → Head
head n phase value status decision held = head_with n 0 phase value status decision (λ v. cond (same_value v One) held 0)

-- what a tick gives, and what the table says
pub record Said : Type 0 where
  pub gives : Ticked
  pub after : Ticked

abbrev pub ticked : ℕ → ℕ → Head → Ticked
ticked number index head = record { number = number; index = index; head = head }

abbrev pub ticks : Head → List Ballot → ℕ → Head → Said
ticks before list coin after = record { gives = tick_of before (encode list) coin; after = ticked 0 0 after }

-- "coin 0 unless said"; the number, and W1's index
abbrev pub refuses : Head → List Ballot → ℕ → ℕ → Said
refuses before list number index = record { gives = tick_of before (encode list) 0; after = ticked number index before }

unfoldable pub sixteen : List Said
sixteen =
    -- what cases 1, 2, 4 and 7 leave
    let case1 = head 3 1 One u none 0 in
    let case2 = head 3 2 One u none 0 in
    let case4 = head 4 2 Blank u none 0 in
    let case7 = head 3 3 One d ForOne 0 in
    -- 1
    record { gives = ticked (start_of 3 0 1).number 0 (start 3); after = ticked 0 0 case1 }
    -- 2
    ∷ ticks case1 (ballot 0 1 One u ∷ ballot 1 1 One u ∷ []) 0 case2
    -- 3: "0 and 1 held under 1"
    ∷ ticks (start 4) (ballot 0 1 One u ∷ ballot 1 1 One u ∷ []) 0 (head 4 1 One u none 3)
    -- 4
    ∷ ticks (start 4) (ballot 0 1 One u ∷ ballot 1 1 One u ∷ ballot 2 1 Zero u ∷ []) 0 case4
    -- 5
    ∷ ticks case4 (ballot 0 2 Blank u ∷ ballot 1 2 Blank u ∷ ballot 2 2 Blank u ∷ []) 1 (head 4 3 One u none 0)
    -- 6
    ∷ ticks case4 (ballot 0 2 Blank u ∷ ballot 1 2 One u ∷ ballot 2 2 Blank u ∷ []) 0 (head 4 3 One u none 0)
    -- 7
    ∷ ticks case2 (ballot 0 2 One u ∷ ballot 1 2 One u ∷ []) 0 case7
    -- 8
    ∷ ticks case7 (ballot 1 4 One u ∷ []) 0 (head 3 4 One u ForOne 2)
    -- 9
    ∷ refuses case7 (ballot 2 5 Zero d ∷ []) 11 0
    -- 10
    ∷ ticks (start 3) (ballot 1 2 One u ∷ ballot 2 2 Blank u ∷ []) 0 (head 3 3 One u none 0)
    -- 11
    ∷ ticks (start 3) [] 0 (start 3)
    -- 12
    ∷ refuses (start 3) (ballot 1 1 Blank u ∷ []) 6 0
    -- 13
    ∷ refuses (start 3) (ballot 1 1 Zero u ∷ ballot 1 1 One u ∷ []) 8 1
    -- 14
    ∷ refuses case2 (ballot 1 2 Zero u ∷ ballot 2 2 One u ∷ []) 9 0
    -- 15, and "with the first alone"
    ∷ refuses (start 3) (ballot 1 65535 One u ∷ ballot 2 65535 One u ∷ []) 10 0
    ∷ ticks (start 3) (ballot 1 65535 One u ∷ []) 0 (head 3 65535 One u none 2)
    -- 16
    ∷ refuses (start 3) (ballot 1 5 Zero d ∷ ballot 2 5 One u ∷ []) 11 0
    ∷ []
