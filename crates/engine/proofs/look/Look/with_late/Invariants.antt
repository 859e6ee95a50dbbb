use Rattle.rules.proofs.Counting.Below.{NoneBefore}
use Rattle.engine.specs.Look.{refused}
use Rattle.engine.proofs.Looking.{Sees, said_of}
use Rattle.engine.proofs.look.Look.with_late.Given as goal

abbrev pub invariant-loop-i : goal.invariant-loop-i
invariant-loop-i l = NoneBefore l.i (refused l.head l.ballots) × Sees l.head l.ballots l.i l.self.phase l.self.listed l.elsewhere (said_of l.self)
