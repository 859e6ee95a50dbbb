use Rattle.rules.specs.Tick.{quorum}
use Rattle.rules.proofs.Counting.Sets.{size_le}
use native.Mathlib.Omega.{arith}
use Rattle.engine.proofs.step.quorum.Goals as goal

pub overflow_add-result : goal.overflow_add-result
overflow_add-result c = omega (arith, c.size.ensures, size_le c.args.head.zeros, c.size-2.ensures, size_le c.args.head.ones)

pub overflow_add-result-2 : goal.overflow_add-result-2
overflow_add-result-2 c = omega (arith, c.size.ensures, size_le c.args.head.zeros, c.size-2.ensures, size_le c.args.head.ones, c.size-3.ensures, size_le c.args.head.blanks)

pub overflow_mul-result : goal.overflow_mul-result
overflow_mul-result c = omega (arith, c.size.ensures, size_le c.args.head.zeros, c.size-2.ensures, size_le c.args.head.ones, c.size-3.ensures, size_le c.args.head.blanks)

pub returns : goal.returns
unfolding quorum
returns c = simp (c.size.ensures, c.size-2.ensures, c.size-3.ensures)
