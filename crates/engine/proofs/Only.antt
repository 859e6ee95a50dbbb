-- No second answer fits: two answers that both meet a public function's promise are equal. Stated over the promises
-- themselves, as the functions carry them. What is lent here is lent by `&`, through which nothing can be written. In
-- `Post κs a r s`, `κs` are lifetimes, `a` is what the function is handed, `r` its answer and `s` what it leaves in
-- what it was lent.
use mathlib.Core.Path.{◌≡◌}
use Rattle.rules.proofs.Meaning.Answers.{only}
use Rattle.rules.proofs.Meaning.OneAnswer.{one_start, one_tick, one_sending}
use Rattle.rules.proofs.Layouts.Ballots.{one_answer}
use Rattle.engine.proofs.ballot.read.Reads as read
use Rattle.engine.proofs.head.own_ballot.Reads as own_ballot
use Rattle.engine.proofs.head.send.Reads as send
use Rattle.engine.proofs.head.sound.Reads as sound
use Rattle.engine.proofs.head.start.Reads as start
use Rattle.engine.proofs.ticks.tick.Reads as tick

pub read_only : (κs : _) (a : _) (r r' : _) (s s' : _) → read.Post κs a r s → read.Post κs a r' s' → r ≡ r'
read_only κs a r r' s s' p q = one_answer _ _ r r' p.0 p.1.0 p.1.1 q.0 q.1.0 q.1.1

pub start_only : (κs : _) (a : _) (r r' : _) (s s' : _) → start.Post κs a r s → start.Post κs a r' s' → r ≡ r'
start_only κs a r r' s s' p q = one_start _ _ _ r r' p q

pub tick_only : (κs : _) (a : _) (r r' : _) (s s' : _) → tick.Post κs a r s → tick.Post κs a r' s' → r ≡ r'
tick_only κs a r r' s s' p q = one_tick _ r r' p q

pub send_only : (κs : _) (a : _) (r r' : _) (s s' : _) → send.Post κs a r s → send.Post κs a r' s' → r ≡ r'
send_only κs a r r' s s' p q = one_sending _ r r' p q

pub sound_only : (κs : _) (a : _) (r r' : _) (s s' : _) → sound.Post κs a r s → sound.Post κs a r' s' → r ≡ r'
sound_only κs a r r' s s' p q = only p q

pub own_ballot_only : (κs : _) (a : _) (r r' : _) (s s' : _) → own_ballot.Post κs a r s → own_ballot.Post κs a r' s' → r ≡ r'
own_ballot_only κs a r r' s s' p q = only p q
