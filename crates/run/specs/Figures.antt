-- The answer with its figures, as the bench makes it when the written decisions are counted.
use Rattle.std.specs.Prelude.{ℕ, List}
use Rattle.rules.specs.declared.Decision.{Decision}
use Rattle.rules.specs.declared.Decision.TheVariants.{Zero, One, Unwritten}
use Rattle.file.specs.Plan.{Plan}
use Rattle.file.specs.Figures.{Outcome, bound_of, good_in}

abbrev pub outcome_in : List ℕ → Plan → ℕ → Outcome
outcome_in file plan decided =
    record {
      number = plan.number;
      place = plan.place;
      n = plan.n;
      needed = plan.needed;
      bound = bound_of plan.n plan.needed;
      rounds = plan.rounds;
      good = good_in file plan plan.rounds;
      decided = decided;
    }

-- what a head adds to the last figure, by W2 the count of those "whose decision is written"
abbrev pub one_if_written : Decision → ℕ
one_if_written Zero = 1
one_if_written One = 1
one_if_written Unwritten = 0
