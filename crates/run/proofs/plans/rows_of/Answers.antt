use Rattle.std.proofs.Common.{ℕ, ◌+◌, ◌*◌, take, drop, sym, ap, ◌∙◌}
use Rattle.std.proofs.Math.Nat.{mul_assoc}
use Rattle.run.proofs.plans.rows_of.Goals as goal

pub returns : goal.returns
returns c =
    let plan = c.args.plan in
    c.of_round.ensures
    ∙ ap (λ (k : ℕ). take (plan.n * 4) (drop (plan.losses + k) c.args.file.now)) (sym (mul_assoc c.args.r plan.n 4))
