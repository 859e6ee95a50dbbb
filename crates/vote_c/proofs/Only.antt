-- No second answer fits: two answers, and two later contents of what was lent, that both meet a public function's
-- promise are equal. Stated over the promises themselves, as the functions carry them. In `Post κs a r s`, `κs` are
-- lifetimes, `a` is what the function is handed, `r` its answer and `s` what it leaves in what it was lent.
use mathlib.Core.Path.{◌≡◌}
use Rattle.rules.proofs.Meaning.Answers.{only}
use Rattle.vote_c.proofs.vote_ballot.Reads as vote-ballot
use Rattle.vote_c.proofs.vote_start.Reads as vote-start
use Rattle.vote_c.proofs.vote_tick.Reads as vote-tick

-- the number, and the lent record's later contents
pub vote_start_only : (κs : _) (a : _) (r r' : _) (s s' : _) → vote-start.Post κs a r s → vote-start.Post κs a r' s' → (r ≡ r') × (s.0.now ≡ s'.0.now)
vote_start_only κs a r r' s s' p q = (only p.0 q.0, only p.1 q.1)

-- and the lent index's
pub vote_tick_only : (κs : _) (a : _) (r r' : _) (s s' : _) → vote-tick.Post κs a r s → vote-tick.Post κs a r' s'
    → (r ≡ r') × (s.0.now ≡ s'.0.now) × (s.1.1.1.0.now ≡ s'.1.1.1.0.now)
vote_tick_only κs a r r' s s' p q = (only p.0 q.0, only p.1.0 q.1.0, only p.1.1 q.1.1)

-- the number, and the lent buffer's later contents
pub vote_ballot_only : (κs : _) (a : _) (r r' : _) (s s' : _) → vote-ballot.Post κs a r s → vote-ballot.Post κs a r' s' → (r ≡ r') × (s.1.0.now ≡ s'.1.0.now)
vote_ballot_only κs a r r' s s' p q = (only p.0 q.0, only p.1 q.1)
