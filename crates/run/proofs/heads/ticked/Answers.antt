use Rattle.std.proofs.Common.{refl, sym, ◌∙◌, length-take-le, arith}
use Rattle.run.proofs.Received.{none_kept, one_kept, next_present, next_later, within, all_received}
use Rattle.run.proofs.heads.ticked.Goals as goal

pub returns-then-lost-eq0 : goal.returns-then-lost-eq0
returns-then-lost-eq0 c =
    c.ticked_with.ensures ∙ rw (c.if-lost-eq0.true, all_received c.args.sent.now) refl

pub loop-sender-init : goal.loop-sender-init
loop-sender-init c = none_kept _ _ _ _ (omega arith) c.others-left.ensures c.lowest-sender.ensures

pub without-left-requires-clause-set_value : goal.without-left-requires-clause-set_value
without-left-requires-clause-set_value c =
    next_present _ _ _ _ _ _ (omega arith) c.loop-sender.invariant c.loop-sender-test.true

pub loop-sender-smaller : goal.loop-sender-smaller
loop-sender-smaller c =
    let later = next_later _ _ _ _ c.without-left.ensures c.lowest-sender-in-loop-sender.ensures c.loop-sender.invariant.4 (omega (arith, c.loop-sender-test.true)) in
    omega (arith, later)

pub loop-sender-preserved : goal.loop-sender-preserved
loop-sender-preserved c =
    one_kept _ _ _ _ _ _ _ _ (omega arith) c.loop-sender.invariant c.loop-sender-test.true c.without-left.ensures
    c.lowest-sender-in-loop-sender.ensures

pub slice_bounds-received-end : goal.slice_bounds-received-end
slice_bounds-received-end c = within _ _ _ _ _ _ c.loop-sender.invariant

pub slice_bounds-ticked_with-end : goal.slice_bounds-ticked_with-end
slice_bounds-ticked_with-end c = sym (length-take-le _ _ (within _ _ _ _ _ _ c.loop-sender.invariant))
