use Rattle.std.proofs.Common.{◌*◌, ◌≡◌, ◌≤◌}
use Rattle.file.specs.Figures.{lost_in}
use Rattle.run.proofs.figures.lost_in.Given as goal

abbrev pub invariant-loop-i : goal.invariant-loop-i
invariant-loop-i l = (l.lost ≤ l.i * 32) × (l.lost ≡ lost_in l.rows l.i)
