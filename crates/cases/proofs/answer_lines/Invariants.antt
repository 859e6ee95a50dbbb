-- `cases::answer_lines` ends: each line is taken off what is left of the text.
use Rattle.std.specs.Prelude.{length}
use Rattle.cases.proofs.answer_lines.Given as goal

abbrev pub decreases-loop-rest : goal.decreases-loop-rest
decreases-loop-rest g l = length l.rest
