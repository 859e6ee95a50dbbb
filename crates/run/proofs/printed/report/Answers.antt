use Rattle.std.proofs.Common.{arith, ◌∙◌}
use Rattle.run.proofs.Reports.{refusal_report, few_heads, figures_report}
use Rattle.run.proofs.printed.report.Goals as goal

pub returns-in-Err : goal.returns-in-Err
returns-in-Err c =
    c.push_refusal_line.ensures ∙ rw c.new-text.ensures (refusal_report _ _ c.run_file-done.ensures _ c.in-Err.is)

pub returns-in-Ok : goal.returns-in-Ok
returns-in-Ok c =
    c.push_last_line.ensures
    ∙ rw (c.push_head_lines.ensures, c.push_first_line.ensures, c.new-text.ensures)
    (figures_report _ _ c.run_file-done.ensures _ c.in-Ok.is (omega arith))

pub shared_ref_as_front-push_head_lines : goal.shared_ref_as_front-push_head_lines
shared_ref_as_front-push_head_lines c = few_heads _ _ c.run_file-done.ensures _ c.in-Ok.is
