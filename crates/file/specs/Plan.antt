-- A whole run file: its four sections in their order, then 15 and 16. Tests; what they mean is in Refusal, and where
-- the plan's numbers stand in Rules.
use Rattle.std.specs.Prelude.{ℕ, ◌+◌, ◌*◌, List, cond, length, get_or, ltb, Result, Ok, Err}
use Rattle.rules.specs.declared.Head.{Head}
use Rattle.file.specs.declared.Refusal.{Refusal}
use Rattle.file.specs.declared.Plan.{Plan as Said}
use Rattle.file.specs.Fault.{number_of}
use Rattle.file.specs.Section.{Section, Body, Refused, count_at, proposals_of, needed_of, losses_of, coins_of}

-- the plan of a file, with the number and the place at which it is refused; both are 0 of an accepted one
pub record Plan : Type 0 where
  pub number : ℕ
  pub place : ℕ
  pub n : ℕ
  pub needed : ℕ
  pub rounds : ℕ
  pub losses : ℕ
  pub coins : ℕ

-- a refused file: no heads, no rounds
abbrev pub refused_plan : ℕ → ℕ → Plan
refused_plan number place =
    record { number = number; place = place; n = 0; needed = 0; rounds = 0; losses = 0; coins = 0 }

-- "Each section's answer is taken apart, body or refusal with its place, before the next is read."
abbrev pub taken : Section → (ℕ → ℕ → Plan) → Plan
taken (Body start length) next = next start length
taken (Refused number place) next = refused_plan number place

-- "Four sections in this order", for a table with room for so many heads
unfoldable pub plan_of : List ℕ → ℕ → Plan
plan_of file room =
    -- "1. Count n (2 to 32), then n proposals"
    taken (proposals_of file) (λ proposals n.
    -- "2. Count 1, then k"
    taken (needed_of file (proposals + n) n) (λ need one.
    let k = get_or file need 0 in
    -- "3. Count of rounds .."
    let rounds = count_at file (need + one) in
    taken (losses_of file (need + one) n) (λ losses size.
    -- "4. Count n times rounds, then that many coins"
    taken (coins_of file (losses + size) (rounds * n)) (λ coins count.
    -- "15, the first extra byte"
    cond (ltb (coins + count) (length file)) (refused_plan 15 (coins + count))
    -- "16, place 0"; "Number 16 is tested after the whole file."
    (cond (ltb room n) (refused_plan 16 0)
    (record { number = 0; place = 0; n = n; needed = k; rounds = rounds; losses = losses; coins = coins }))))))

-- in the table that is lent
abbrev pub plan_for : List ℕ → List Head → Plan
plan_for file table = plan_of file (length table)

-- what the code's answer stands for: the plan of an accepted file
abbrev pub accepted_plan : Said → Plan
accepted_plan said =
    record {
      number = 0;
      place = 0;
      n = said.n;
      needed = said.needed;
      rounds = said.rounds;
      losses = said.losses;
      coins = said.coins;
    }

-- or a refusal
abbrev pub plan_read : Result Said Refusal → Plan
plan_read (Ok said) = accepted_plan said
plan_read (Err refusal) = refused_plan (number_of refusal.fault) refusal.place
