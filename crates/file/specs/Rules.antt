-- Where a plan's numbers stand in a file that keeps every rule; the rules themselves are the lines of Refusal.
use Rattle.std.specs.Prelude.{ℕ, ◌+◌, ◌*◌, ◌≡◌, List, get_or}
use Rattle.file.specs.Plan.{Plan}
use Rattle.file.specs.Section.{count_at}
use Rattle.file.specs.Refusal.{file_refusals}
use Rattle.rules.specs.Given.{Given}

pub record StandsIn (file : List ℕ) (plan : Plan) : Type 0 where
  -- "1. Count n (2 to 32), then n proposals"
  pub n : count_at file 0 ≡ plan.n
  -- "2. Count 1, then k, the heads needed"
  pub needed : get_or file (4 + plan.n) 0 ≡ plan.needed
  -- "3. Count of rounds .. per round n rows of 4 bytes"
  pub rounds : count_at file (5 + plan.n) ≡ plan.rounds
  pub losses : plan.losses ≡ 7 + plan.n
  -- "4. Count n times rounds, then that many coins"
  pub coins : plan.coins ≡ 9 + plan.n + plan.rounds * plan.n * 4
  -- "0 is accepted."
  pub number : plan.number ≡ 0
  pub place : plan.place ≡ 0

-- no line of the refusals applies, for a table with room for so many heads, and the plan is what the file says
abbrev pub KeepsEveryRule : List ℕ → ℕ → Plan → Type 0
KeepsEveryRule file room plan = Given 0 0 (file_refusals file room) × StandsIn file plan
