use Rattle.std.proofs.Common.{◌≡◌, length}
use Rattle.file.specs.Table.{placed}
use Rattle.run.proofs.FirstHeads.{ticked_from}
use Rattle.run.proofs.table.round.Given as goal

abbrev pub invariant-loop-i : goal.invariant-loop-i
invariant-loop-i l =
    l.heads ≡ placed l.i (ticked_from (length l.fn.heads) l.rows l.coins l.fn.heads l.fn.heads) l.fn.heads
