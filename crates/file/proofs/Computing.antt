-- What the computed examples share: the run file, the bench and the report opened.
use Rattle.rules.proofs.Computed.Computing.{computing}
use Rattle.file.specs.Section.{section_at, proposals_of, needed_of, losses_of, coins_of}
use Rattle.file.specs.Plan.{plan_of}
use Rattle.file.specs.Table.{placed, round_in, rounds_in, table_after}
use Rattle.file.specs.Figures.{lost_in, bound_of, outcome_of}
use Rattle.file.specs.Report.{decimal, first_line, head_line, head_lines, last_line, refusal_line, report_of}

-- under `unfolding reporting` a file's plan, its run and its report compute
unfoldable pub reporting : Unit {0}
unfolding computing section_at proposals_of needed_of losses_of coins_of plan_of placed round_in
    rounds_in table_after lost_in bound_of outcome_of decimal first_line head_line head_lines last_line refusal_line report_of
reporting = tt
