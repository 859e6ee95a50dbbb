use Rattle.std.proofs.Common.{◌∙◌, arith}
use Rattle.run.proofs.FirstHeads.{one_ticked, all_ticked}
use Rattle.run.proofs.table.round.Goals as goal

pub loop-i-preserved : goal.loop-i-preserved
loop-i-preserved c =
    one_ticked _ _ _ _ _ _ _ _ _ c.loop-i.invariant c.ballots_of-ballots.ensures c.row_at.ensures c.byte_at.ensures
    c.ticked.ensures

pub returns : goal.returns
returns c = c.loop-i.invariant ∙ all_ticked _ _ _ _ (omega (arith, c.loop-i-test.false, c.loop-i.auto.i-end))
