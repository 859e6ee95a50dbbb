use Rattle.rules.specs.Tick.{majority}
use Rattle.rules.proofs.Counting.Sets.{size_le}
use native.Mathlib.Omega.{arith}
use Rattle.engine.proofs.step.majority.Goals as goal

pub overflow_mul-result : goal.overflow_mul-result
overflow_mul-result c = omega (arith, c.size.ensures, size_le c.heard.result)

pub returns : goal.returns
unfolding majority
returns c = simp (c.size.ensures, c.heard.ensures)
