use Rattle.rules.proofs.Counting.Sets.{apart_and}
use Rattle.engine.proofs.heard.apart.Goals as goal

pub returns : goal.returns
returns c = apart_and _ _ c.ranges.a.fits c.ranges.b.fits
