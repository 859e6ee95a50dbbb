use Rattle.std.proofs.Common.{◌≡◌, length}
use Rattle.rules.proofs.Counting.Below.{NoneBefore}
use Rattle.engine.specs.Look.{refused}
use Rattle.engine.proofs.Looking.{Sees}
use Rattle.engine.proofs.look.Look.with_present.Given as goal

abbrev pub invariant-loop-i : goal.invariant-loop-i
invariant-loop-i l = (length l.said ≡ 5) × NoneBefore l.i (refused l.head l.ballots) × Sees l.head l.ballots l.i l.self.phase l.listed l.self.elsewhere l.said
