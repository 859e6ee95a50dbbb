-- The vote of any plan. That of a file, in the table that is lent, is the vote of its plan.
use Prim.Native.Nat.{ℕ, ◌+◌, ◌*◌}
use mathlib.Core.List.{List}
use lib.ListN.{get_or}
use Rattle.rules.specs.Heard.{member}
use Rattle.rules.specs.Record.{four_bytes_at}
use Rattle.rules.specs.Run.{Vote, Event}
use Rattle.rules.specs.Round.{Channel}
use Rattle.file.specs.Plan.{Plan}
use Rattle.file.specs.Table.{rows_in, coins_in}
use Rattle.file.specs.Vote.{ticks_up_to}

abbrev pub vote_in : List ℕ → Plan → Vote
vote_in file plan = record { n = plan.n; proposal = λ s. get_or file (2 + s) 0 }

abbrev pub channel_in : List ℕ → Plan → ℕ → Channel
channel_in file plan r =
    record {
      lost = λ receiver sender. member sender (four_bytes_at (rows_in file plan r) (receiver * 4));
      coin = λ s. get_or (coins_in file plan r) s 0;
    }

abbrev pub events_in : List ℕ → Plan → ℕ → List Event
events_in file plan r = ticks_up_to (vote_in file plan) (channel_in file plan) r
