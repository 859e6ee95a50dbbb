use Rattle.std.proofs.Common.{◌≡◌, ◌≤◌}
use Rattle.file.specs.Plan.{accepted_plan}
use Rattle.file.specs.Figures.{good_in}
use Rattle.run.proofs.figures.good.Given as goal

abbrev pub invariant-loop-r : goal.invariant-loop-r
invariant-loop-r l = (l.good ≤ l.r) × (l.good ≡ good_in l.file (accepted_plan l.plan) l.r)
