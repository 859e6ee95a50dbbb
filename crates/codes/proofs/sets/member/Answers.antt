use Rattle.rules.proofs.Counting.Sets.{member_high}
use mathlib.Core.Path.{sym}
use Rattle.codes.proofs.sets.member.Goals as goal

pub returns-else-s-lt32 : goal.returns-else-s-lt32
returns-else-s-lt32 c = sym (member_high 32 c.args.s c.args.set c.ranges.set.fits c.if-s-lt32.false)
