use Rattle.rules.specs.Head.{sound}
use borrow.Author.Tests.{lt-ltb, le-ltb}
use Rattle.engine.proofs.head.sound.Goals as goal

pub returns-then-not_heads : goal.returns-then-not_heads
unfolding sound
returns-then-not_heads c = simp (← c.not_heads.ensures, c.if-not_heads.true)

pub returns-then-head : goal.returns-then-head
unfolding sound
returns-then-head c = simp (← c.not_heads.ensures, c.if-not_heads.false, le-ltb _ _ c.if-head.true)

pub returns : goal.returns
unfolding sound
returns c = simp (← c.not_heads.ensures, c.if-not_heads.false, lt-ltb _ _ c.if-head.false, c.code.ensures, c.code-2.ensures, c.obeys.ensures, c.decision_fits.ensures, c.sets_fit.ensures, c.phase_fits.ensures, c.stands_under.ensures)
