use Rattle.std.proofs.Common.{◌∙◌, sym, arith}
use Rattle.file.proofs.Reading.FirstBytes.{outcome_refused, refused_table}
use Rattle.run.proofs.Planning.{refused_answer}
use Rattle.run.proofs.FirstHeads.{table_is, answer_is}
use Rattle.run.proofs.table.bench.Goals as goal

pub returns-in_err-plan-clause-value : goal.returns-in_err-plan-clause-value
returns-in_err-plan-clause-value c =
    refused_answer _ c.in_err-plan.field-0.0 c.from_residual.ensures.1
    ∙ sym (outcome_refused _ _ _ _ (sym c.in_err-plan.ensures))

pub returns-in_err-plan-clause-table_after : goal.returns-in_err-plan-clause-table_after
returns-in_err-plan-clause-table_after c = sym (refused_table _ _ _ _ (sym c.in_err-plan.ensures))

pub returns-clause-value : goal.returns-clause-value
returns-clause-value c =
    c.figures.ensures
    ∙ answer_is _ _ _ _ _ _ _ c.in_ok-plan.ensures c.part.ensures c.start_all.ensures c.loop-r.invariant (omega arith)

pub returns-clause-table_after : goal.returns-clause-table_after
returns-clause-table_after c =
    table_is _ _ _ _ _ _ _ c.in_ok-plan.ensures c.part.ensures c.start_all.ensures c.loop-r.invariant (omega arith)
