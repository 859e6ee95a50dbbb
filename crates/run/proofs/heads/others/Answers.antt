use Rattle.std.proofs.Common.{arith}
use Rattle.rules.proofs.Counting.Sets.{set_of_is, member_rest}
use Rattle.run.proofs.heads.others.Goals as goal

pub returns : goal.returns
returns c = set_of_is 32 _ _ (omega arith) (λ s l. member_rest 32 s _ c.ranges.set.fits l)
