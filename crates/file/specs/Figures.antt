-- The figures of a run: the bound, the good rounds, the written decisions. Document 01, 'Run file and bench'; the last
-- figure, W2 of document 02.
use Rattle.std.specs.Prelude.{ℕ, zero, suc, ◌+◌, ◌*◌, ◌/◌, ◌-◌, ◌≡◌, List, Result, Ok, Err, leb}
use Rattle.rules.specs.declared.Head.{Head}
use Rattle.rules.specs.Below.{count}
use Rattle.rules.specs.Heard.{size}
use Rattle.rules.specs.Head.{is_written}
use Rattle.rules.specs.Record.{four_bytes_at}
use Rattle.file.specs.declared.Refusal.{Refusal}
use Rattle.file.specs.declared.Figures.{Figures}
use Rattle.file.specs.Fault.{number_of}
use Rattle.file.specs.Plan.{Plan, plan_for}
use Rattle.file.specs.Table.{head_of, rows_in, table_after}

-- the figures of a run, with the number and the place at which its file is refused; both are 0 of an accepted one
pub record Outcome : Type 0 where
  pub number : ℕ
  pub place : ℕ
  pub n : ℕ
  pub needed : ℕ
  pub bound : ℕ
  pub rounds : ℕ
  pub good : ℕ
  pub decided : ℕ

-- "its lost ballots, of n × n": those of the first k rows
unfoldable pub lost_in : List ℕ → ℕ → ℕ
lost_in rows zero = 0
lost_in rows (suc k) = lost_in rows k + size (four_bytes_at rows (k * 4))

-- "at most ceil(n/2) × (n - k) + k - 2"
unfoldable pub bound_of : ℕ → ℕ → ℕ
bound_of n k = (n + 1) / 2 * (n - k) + k - 2

-- "A round is good if its lost ballots .. are at most" the bound: how many of the first r rounds are
abbrev pub good_in : List ℕ → Plan → ℕ → ℕ
good_in file plan rounds =
    count rounds (λ r. leb (lost_in (rows_in file plan r) plan.n) (bound_of plan.n plan.needed))

-- W2: "The last figure counts heads whose decision is written."
abbrev pub decided_in : List Head → ℕ → ℕ
decided_in table n = count n (λ s. is_written (head_of table s))

-- what the bench answers
unfoldable pub outcome_of : List ℕ → List Head → Outcome
outcome_of file table =
    let plan = plan_for file table in
    record {
      number = plan.number;
      place = plan.place;
      n = plan.n;
      needed = plan.needed;
      bound = bound_of plan.n plan.needed;
      rounds = plan.rounds;
      good = good_in file plan plan.rounds;
      decided = decided_in (table_after file table) plan.n;
    }

-- "0 is accepted.": a run file in the table that is lent
abbrev pub Accepts : List ℕ → List Head → Type 0
Accepts file table = (outcome_of file table).number ≡ 0

-- what the bench's answer stands for: the figures of an accepted file
abbrev pub accepted_outcome : Figures → Outcome
accepted_outcome figures =
    record {
      number = 0;
      place = 0;
      n = figures.n;
      needed = figures.needed;
      bound = figures.bound;
      rounds = figures.rounds;
      good = figures.good;
      decided = figures.decided;
    }

-- or a refusal, with the figures of no heads and no rounds
abbrev pub refused_outcome : ℕ → ℕ → Outcome
refused_outcome number place =
    record { number = number; place = place; n = 0; needed = 0; bound = 0; rounds = 0; good = 0; decided = 0 }

abbrev pub outcome_read : Result Figures Refusal → Outcome
outcome_read (Ok figures) = accepted_outcome figures
outcome_read (Err refusal) = refused_outcome (number_of refusal.fault) refusal.place
