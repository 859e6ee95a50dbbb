use Rattle.std.proofs.Common.{◌≡◌}
use Rattle.file.specs.Plan.{accepted_plan}
use Rattle.file.specs.Table.{rounds_in}
use Rattle.run.proofs.table.bench.Given as goal

abbrev pub invariant-loop-r : goal.invariant-loop-r
invariant-loop-r l = l.heads ≡ rounds_in l.file (accepted_plan l.plan) l.r l.initial.heads
