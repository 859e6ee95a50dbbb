use Rattle.rules.specs.Head.{sets_fit}
use Rattle.engine.proofs.head.sets_fit.Goals as goal

pub returns : goal.returns
unfolding sets_fit
returns c = simp (c.apart.ensures, c.apart-2.ensures, c.apart-3.ensures, c.within.ensures, c.within-2.ensures, c.within-3.ensures)
