-- The bench in a lent table of heads: the starts, the rounds, and what the table holds after a run. Document 01, 'Run
-- file and bench'.
use Rattle.std.specs.Prelude.{ℕ, zero, suc, ◌+◌, ◌*◌, List, get_or, set, take, drop}
use Rattle.rules.specs.declared.Head.{Head}
use Rattle.rules.specs.Heard.{member}
use Rattle.rules.specs.Head.{zero_head, start_of}
use Rattle.rules.specs.Tick.{tick_of}
use Rattle.rules.specs.Record.{four_bytes_at}
use Rattle.file.specs.Plan.{Plan, plan_for}
use Rattle.rules.specs.Round.{received}

-- the head at a place of the table
abbrev pub head_of : List Head → ℕ → Head
head_of table s = get_or table s zero_head

-- the table with the heads that f gives at the places below k; "the others are untouched"
unfoldable pub placed : ℕ → (ℕ → Head) → List Head → List Head
placed zero f table = table
placed (suc k) f table = set (placed k f table) k (f k)

-- the start of head s: "Count n .., then n proposals"
abbrev pub start_in : List ℕ → ℕ → ℕ → Head
start_in file n s = (start_of n s (get_or file (2 + s) 0)).head

-- "the loss rows of one round are a part from the middle of the file"
abbrev pub rows_in : List ℕ → Plan → ℕ → List ℕ
rows_in file plan r = take (plan.n * 4) (drop (plan.losses + r * plan.n * 4) file)

-- the coins of one round: "round by round, head by head"
abbrev pub coins_in : List ℕ → Plan → ℕ → List ℕ
coins_in file plan r = take plan.n (drop (plan.coins + r * plan.n) file)

-- "each head .. is ticked with those not lost to it .. and its coin of that round"; "one per receiver in number
-- order"
abbrev pub ticked_in : ℕ → List ℕ → List ℕ → List Head → ℕ → Head
ticked_in n rows coins table s =
    (tick_of (head_of table s) (received (head_of table) (λ k. member k (four_bytes_at rows (s * 4))) n) (get_or coins s 0)).head

-- "A round: all n ballots are formed first", from the table as it was before the round
unfoldable pub round_in : ℕ → List ℕ → List ℕ → List Head → List Head
round_in n rows coins table = placed n (ticked_in n rows coins table) table

-- the table after so many rounds
unfoldable pub rounds_in : List ℕ → Plan → ℕ → List Head → List Head
rounds_in file plan zero table = table
rounds_in file plan (suc r) table =
    round_in plan.n (rows_in file plan r) (coins_in file plan r) (rounds_in file plan r table)

-- the table with the n heads as they start
abbrev pub starts_in : List ℕ → ℕ → List Head → List Head
starts_in file n table = placed n (start_in file n) table

-- "after a run the first n are the heads and the others are untouched. Refused: nothing in the table changes", for then
-- the plan has no heads and no rounds.
unfoldable pub table_after : List ℕ → List Head → List Head
table_after file table =
    let plan = plan_for file table in
    rounds_in file plan plan.rounds (starts_in file plan.n table)
