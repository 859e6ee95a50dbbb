use Rattle.engine.proofs.Looking.{looks_start, turn_ends, list_ends}
use Rattle.engine.proofs.look.looked.Goals as goal

pub loop-look-init : goal.loop-look-init
loop-look-init c = looks_start _ _ _ c.unlooked-look.ensures

pub returns-then-look-from : goal.returns-then-look-from
returns-then-look-from c = turn_ends _ _ c.loop-look.look _ _ _ c.loop-look-test.true c.with_present.ensures c.with_late.ensures c.with_ahead-look.ensures c.if-look-from.true

pub returns : goal.returns
returns c = list_ends _ _ _ c.loop-look.invariant c.loop-look-test.false
