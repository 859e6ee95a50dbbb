use Rattle.rules.specs.Head.{send_of}
use Rattle.engine.proofs.head.send.Goals as goal

pub returns-then-not-sound : goal.returns-then-not-sound
unfolding send_of
returns-then-not-sound c = simp (← c.sound.ensures, c.if-not-sound.true)

pub returns : goal.returns
unfolding send_of
returns c = simp (← c.sound.ensures, c.if-not-sound.false, c.ballot_bytes.ensures, c.own_ballot.ensures)
