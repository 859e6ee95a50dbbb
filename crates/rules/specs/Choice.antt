-- Document 01's choices, where Algorithm 1 leaves one: which ballot of a higher phase is taken, and which value. The
-- tick and the algorithm both make them.
use Rattle.std.specs.Prelude.{Bool, cond, ◌&&◌, ◌||◌, ltb, eqb}
use Rattle.rules.specs.declared.Value.{Value}
use Rattle.rules.specs.declared.Value.TheVariants.{Zero, One}
use Rattle.rules.specs.declared.Ballot.{Ballot}

-- "a ballot of the highest phase; among several senders the lowest number gives it": a is of a higher phase than b, or
-- of the same and a lower sender
unfoldable pub ahead : Ballot → Ballot → Bool
ahead a b = ltb b.phase a.phase || (eqb a.phase b.phase && ltb a.sender b.sender)

-- the value 0 or 1 of which p holds, else other. Both never are where an accepted tick asks
-- (both_bits_are_never_there).
unfoldable pub bit_with : (Value → Bool) → Value → Value
bit_with p other = cond (p Zero) (cond (p One) other Zero) (cond (p One) One other)
