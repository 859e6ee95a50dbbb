use Rattle.std.proofs.Common.{◌≤◌, sym, subst, ◌∙◌, arith}
use native.Mathlib.Nat.{mul-le-mul}
use Rattle.file.proofs.Reading.Sections.{proposals_body}
use Rattle.run.proofs.Planned.{Fits, planned_fits}
use Rattle.run.proofs.Planning.{refused_read, refused_1, refused_2, refused_3, refused_4, refused_15, refused_16, accepts}
use Rattle.run.proofs.plans.plan_of.Goals as goal

pub returns-in_err-proposals : goal.returns-in_err-proposals
returns-in_err-proposals c =
    refused_read _ c.in_err-proposals.field-0.0 c.from_residual.ensures.1
    ∙ refused_1 c.args.file.now c.args.room _ _ c.in_err-proposals.ensures

pub returns-in_err-need : goal.returns-in_err-need
returns-in_err-need c =
    refused_read _ c.in_err-need.field-0.0 c.from_residual-in_err-need.ensures.1
    ∙ refused_2 c.args.file.now c.args.room c.in_ok-proposals.ensures c.end.ensures _ _ c.in_err-need.ensures

pub losses-requires : goal.losses-requires
losses-requires c =
    let a = proposals_body c.args.file.now _ _ (sym c.in_ok-proposals.ensures) in
    omega (arith, a.heads)

pub returns-in_err-losses : goal.returns-in_err-losses
returns-in_err-losses c =
    refused_read _ c.in_err-losses.field-0.0 c.from_residual-in_err-losses.ensures.1
    ∙ refused_3 c.args.file.now c.args.room c.in_ok-proposals.ensures c.end.ensures c.in_ok-need.ensures c.end-at.ensures _ _
    c.in_err-losses.ensures

pub overflow_mul-rounds : goal.overflow_mul-rounds
overflow_mul-rounds c =
    let a = proposals_body c.args.file.now _ _ (sym c.in_ok-proposals.ensures) in
    let many : c.from-rounds.result ≤ 65535 = omega (arith, c.from-rounds.ensures) in
    let few : c.in_ok-proposals.proposals.length ≤ 32 = omega (arith, a.heads) in
    record { fits = omega (arith, mul-le-mul many few) }

pub returns-in_err-coins : goal.returns-in_err-coins
returns-in_err-coins c =
    refused_read _ c.in_err-coins.field-0.0 c.from_residual-in_err-coins.ensures.1
    ∙ refused_4 c.args.file.now c.args.room c.in_ok-proposals.ensures c.end.ensures c.in_ok-need.ensures c.end-at.ensures
    c.in_ok-losses.ensures c.end-2.ensures (c.from-rounds.ensures ∙ c.count_at.ensures) _ _ c.in_err-coins.ensures

pub returns-then-end-file : goal.returns-then-end-file
returns-then-end-file c =
    refused_15 c.args.file.now c.args.room c.in_ok-proposals.ensures c.end.ensures c.in_ok-need.ensures c.end-at.ensures
    c.in_ok-losses.ensures c.end-2.ensures (c.from-rounds.ensures ∙ c.count_at.ensures) c.in_ok-coins.ensures c.end-end.ensures (c.from-needed.ensures ∙ c.byte_at.ensures) c.if-end-file.true

pub returns-then-room-n : goal.returns-then-room-n
returns-then-room-n c =
    refused_16 c.args.file.now c.args.room c.in_ok-proposals.ensures c.end.ensures c.in_ok-need.ensures c.end-at.ensures
    c.in_ok-losses.ensures c.end-2.ensures (c.from-rounds.ensures ∙ c.count_at.ensures) c.in_ok-coins.ensures c.end-end.ensures (c.from-needed.ensures ∙ c.byte_at.ensures) c.if-end-file.false
    c.if-room-n.true

pub invariant_of-result : goal.invariant_of-result
invariant_of-result c =
    let is = accepts c.args.file.now c.args.room c.in_ok-proposals.ensures c.end.ensures c.in_ok-need.ensures c.end-at.ensures
    c.in_ok-losses.ensures c.end-2.ensures (c.from-rounds.ensures ∙ c.count_at.ensures) c.in_ok-coins.ensures c.end-end.ensures (c.from-needed.ensures ∙ c.byte_at.ensures) c.if-end-file.false
    c.if-room-n.false in
    let small = subst (Fits c.args.room) (sym is) (planned_fits c.args.file.now c.args.room) in
    record { few_heads = small.few_heads; need_among_them = small.need_among_them; few_rounds = small.few_rounds }

pub returns : goal.returns
returns c =
    accepts c.args.file.now c.args.room c.in_ok-proposals.ensures c.end.ensures c.in_ok-need.ensures c.end-at.ensures
    c.in_ok-losses.ensures c.end-2.ensures (c.from-rounds.ensures ∙ c.count_at.ensures) c.in_ok-coins.ensures c.end-end.ensures (c.from-needed.ensures ∙ c.byte_at.ensures) c.if-end-file.false
    c.if-room-n.false
