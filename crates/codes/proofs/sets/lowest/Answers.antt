use Rattle.rules.proofs.Counting.Lowest.{lowest_is}
use Rattle.codes.proofs.sets.lowest.Goals as goal

pub returns : goal.returns
returns c = lowest_is 32 _
