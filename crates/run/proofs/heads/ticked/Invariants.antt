use Rattle.std.proofs.Common.{length, ◌-◌}
use Rattle.run.proofs.Received.{Kept}
use Rattle.run.proofs.heads.ticked.Given as goal

abbrev pub invariant-loop-sender : goal.invariant-loop-sender
invariant-loop-sender l = Kept l.sent l.lost l.received l.left l.sender l.count

abbrev pub decreases-loop-sender : goal.decreases-loop-sender
decreases-loop-sender l = length l.sent - l.sender
