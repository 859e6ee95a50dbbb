-- How many rounds a run file has at most.
use Rattle.std.specs.Prelude.{ℕ}

-- "Count of rounds, 0 to 256"
abbrev pub rounds_most : ℕ
rounds_most = 256
