use Rattle.std.proofs.Common.{◌≡◌, length, get_or}
use Rattle.rules.specs.Head.{start_of}
use Rattle.file.specs.Table.{placed}
use Rattle.run.proofs.table.start_all.Given as goal

abbrev pub invariant-loop-i : goal.invariant-loop-i
invariant-loop-i l =
    l.heads ≡ placed l.i (λ i. (start_of (length l.fn.heads) i (get_or l.proposals i 0)).head) l.fn.heads
