use Rattle.rules.proofs.Counting.Sets.{size_ones}
use Rattle.codes.proofs.sets.size.Goals as goal

pub returns : goal.returns
returns c = size_ones _ c.ranges.set.fits
