use Prim.Native.Nat.{◌^◌}
use mathlib.Core.Path.{sym}
use native.Mathlib.Nat.{lt_of_lt_of_le}
use native.Mathlib.Omega.{arith}
use lib.Pow.{pow_mono}
use borrow.Author.Tests.{lt-ltb}
use Rattle.codes.proofs.sets.within.Goals as goal

pub returns-else-n-lt64 : goal.returns-else-n-lt64
returns-else-n-lt64 c = sym (lt-ltb c.args.set (2 ^ c.args.n) (lt_of_lt_of_le c.ranges.set.fits (pow_mono {i = 32} {j = c.args.n} (omega arith))))
