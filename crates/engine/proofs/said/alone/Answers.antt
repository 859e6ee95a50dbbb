use mathlib.Core.Path.{◌∙◌}
use Rattle.rules.proofs.Counting.Sets.{shifted}
use Rattle.engine.proofs.Growing.{one_alone}
use Rattle.engine.proofs.said.alone.Goals as goal

pub returns : goal.returns
returns c = shifted 32 _ c.requires ∙ one_alone _ c.requires
