-- What a head receives in a round.
use Rattle.std.specs.Prelude.{ℕ, zero, suc, List, [], ◌++◌, cond, get_or}
use Rattle.rules.specs.Heard.{member}

-- those of the first k ballots that are not lost, one after the other in sender order
abbrev pub received_from : List (List ℕ) → ℕ → ℕ → List ℕ
received_from ballots lost zero = []
received_from ballots lost (suc k) = received_from ballots lost k ++ cond (member k lost) [] (get_or ballots k [])
