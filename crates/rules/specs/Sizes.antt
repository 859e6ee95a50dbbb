-- How many bytes and heads there are at most. Document 01, 'Heads and ballots', 'One tick' and 'Numbers given back'.
use Rattle.std.specs.Prelude.{ℕ, ◌*◌}

-- "n is 2 to 32"
abbrev pub heads_least : ℕ
heads_least = 2

abbrev pub heads_most : ℕ
heads_most = 32

-- a ballot: "Five bytes"
abbrev pub ballot_bytes : ℕ
ballot_bytes = 5

-- "a list of 0 to 64 ballots"
abbrev pub ballots_most : ℕ
ballots_most = 64

-- "over 320 bytes"
abbrev pub list_bytes_most : ℕ
list_bytes_most = ballots_most * ballot_bytes

-- "a record of 20 bytes"
abbrev pub record_bytes : ℕ
record_bytes = 20
