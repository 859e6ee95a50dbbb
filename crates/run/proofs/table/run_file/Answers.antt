use Rattle.run.proofs.table.run_file.Goals as goal

pub returns : goal.returns
returns c = simp (c.bench-outcome.ensures.value, c.bench-outcome.ensures.table_after, c.zero_head-heads.ensures)
