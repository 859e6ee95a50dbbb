-- A whole vote by value, in a table of 32 heads of zeros.
use Rattle.std.specs.Prelude.{ℕ, List, replicate}
use Rattle.rules.specs.declared.Head.{Head}
use Rattle.rules.specs.Head.{zero_head}
use Rattle.file.specs.declared.Benched.{Benched as Answered}
use Rattle.file.specs.Table.{table_after}
use Rattle.file.specs.Figures.{Outcome, outcome_of, outcome_read}

pub record Benched : Type 0 where
  pub outcome : Outcome
  pub heads : List Head

abbrev pub empty_table : List Head
empty_table = replicate 32 zero_head

abbrev pub benched_of : List ℕ → Benched
benched_of file = record { outcome = outcome_of file empty_table; heads = table_after file empty_table }

-- what the code's answer stands for
abbrev pub benched_read : Answered → Benched
benched_read answered = record { outcome = outcome_read answered.outcome; heads = answered.heads }
