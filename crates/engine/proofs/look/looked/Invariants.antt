use Prim.Native.Nat.{◌-◌}
use Rattle.engine.specs.Look.{Looks}
use Rattle.engine.proofs.look.looked.Given as goal

abbrev pub invariant-loop-look : goal.invariant-loop-look
invariant-loop-look l = Looks l.head l.ballots l.look

abbrev pub decreases-loop-look : goal.decreases-loop-look
decreases-loop-look l = l.count - l.look.next
