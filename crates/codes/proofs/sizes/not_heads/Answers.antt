use mathlib.Core.Path.{refl}
use Rattle.rules.specs.Ballot.{not_heads}
use Rattle.codes.proofs.sizes.not_heads.Goals as goal

pub returns : goal.returns
unfolding not_heads
returns c = refl
