-- `cases::hex::unhex` is safe: there are no more digits than characters passed.
use Rattle.std.specs.Prelude.{◌≤◌}
use Rattle.cases.proofs.hex.unhex.Given as goal

abbrev pub invariant-loop-character : goal.invariant-loop-character
invariant-loop-character l = l.count ≤ l.character-index
