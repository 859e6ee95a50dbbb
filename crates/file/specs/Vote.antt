-- A run file in the table that is lent as a vote of demand 3: n heads that start with its proposals, and its rounds as
-- rounds of document 01.
use Rattle.std.specs.Prelude.{ℕ, zero, suc, ◌+◌, ◌*◌, List, [], get_or}
use Rattle.rules.specs.declared.Head.{Head}
use Rattle.rules.specs.Below.{count}
use Rattle.rules.specs.Heard.{member}
use Rattle.rules.specs.Record.{four_bytes_at}
use Rattle.rules.specs.Run.{Vote, Event}
use Rattle.rules.specs.Round.{Channel, round}
use Rattle.file.specs.Plan.{plan_for}
use Rattle.file.specs.Table.{rows_in, coins_in}

-- "Count n .., then n proposals"
abbrev pub vote_for : List ℕ → List Head → Vote
vote_for file table = record { n = (plan_for file table).n; proposal = λ s. get_or file (2 + s) 0 }

-- round r: "Bit s set: the ballot of head s is lost to it."; "coins .. round by round, head by head"
abbrev pub channel_for : List ℕ → List Head → ℕ → Channel
channel_for file table r =
    let plan = plan_for file table in
    record {
      lost = λ receiver sender. member sender (four_bytes_at (rows_in file plan r) (receiver * 4));
      coin = λ s. get_or (coins_in file plan r) s 0;
    }

-- the ticks of the first r rounds, the last first
abbrev pub ticks_up_to : Vote → (ℕ → Channel) → ℕ → List Event
ticks_up_to vote channel zero = []
ticks_up_to vote channel (suc r) = round vote (ticks_up_to vote channel r) (channel r)

-- the ticks of all rounds
abbrev pub events_for : List ℕ → List Head → List Event
events_for file table = ticks_up_to (vote_for file table) (channel_for file table) (plan_for file table).rounds

-- "its lost ballots, of n × n": those that a channel loses to the receivers below k, of n senders
abbrev pub lost_to : ℕ → Channel → ℕ → ℕ
lost_to n channel zero = 0
lost_to n channel (suc k) = lost_to n channel k + count n (channel.lost k)
