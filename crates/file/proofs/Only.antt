-- No second answer fits: two answers that both meet a public function's promise are equal. Stated over the promises
-- themselves, as the functions carry them. In `Post κs a r s`, `κs` are lifetimes, `a` is what the function is handed,
-- `r` its answer and `s` what it leaves in what it was lent.
use mathlib.Core.Path.{◌≡◌}
use Rattle.rules.proofs.Meaning.Answers.{only}
use Rattle.file.proofs.Refusal.number.Reads as number
use Rattle.file.proofs.Body.end.Reads as end

pub number_only : (κs : _) (a : _) (r r' : _) (s s' : _) → number.Post κs a r s → number.Post κs a r' s' → r ≡ r'
number_only κs a r r' s s' p q = only p q

pub end_only : (κs : _) (a : _) (r r' : _) (s s' : _) → end.Post κs a r s → end.Post κs a r' s' → r ≡ r'
end_only κs a r r' s s' p q = only p q
