-- No second answer fits: two answers that both meet a public function's promise are equal. Stated over the promises
-- themselves, as the functions carry them. In `Post κs a r s`, `κs` are lifetimes, `a` is what the function is handed,
-- `r` its answer and `s` what it leaves in what it was lent.
use mathlib.Core.Path.{◌≡◌}
use Rattle.rules.proofs.Meaning.Answers.{only}
use Rattle.codes.proofs.code.DecisionCoded.code.Reads as decision_code
use Rattle.codes.proofs.code.DecisionCoded.from_code.Reads as decision_of
use Rattle.codes.proofs.numbers.phase_of.Reads as phase_of
use Rattle.codes.proofs.code.StatusCoded.code.Reads as status_code
use Rattle.codes.proofs.code.StatusCoded.from_code.Reads as status_of
use Rattle.codes.proofs.code.ValueCoded.code.Reads as value_code
use Rattle.codes.proofs.code.ValueCoded.from_code.Reads as value_of
use Rattle.codes.proofs.numbers.four_bytes_of.Reads as four_bytes_of
use Rattle.codes.proofs.sets.member.Reads as member
use Rattle.codes.proofs.sets.size.Reads as size
use Rattle.codes.proofs.sets.lowest.Reads as lowest
use Rattle.codes.proofs.sets.within.Reads as within
use Rattle.codes.proofs.sizes.not_heads.Reads as not_heads
use Rattle.codes.proofs.ballots.ballot_at.Reads as ballot_at
use Rattle.codes.proofs.ballots.ballot_bytes.Reads as ballot_bytes
use Rattle.codes.proofs.records.is_record.Reads as is_record
use Rattle.codes.proofs.records.head_at.Reads as head_at
use Rattle.codes.proofs.records.record_of.Reads as record_of
use Rattle.codes.proofs.records.zero_head.Reads as zero_head

pub value_code_only : (κs : _) (a : _) (r r' : _) (s s' : _) → value_code.Post κs a r s → value_code.Post κs a r' s' → r ≡ r'
value_code_only κs a r r' s s' p q = only p q

pub value_of_only : (κs : _) (a : _) (r r' : _) (s s' : _) → value_of.Post κs a r s → value_of.Post κs a r' s' → r ≡ r'
value_of_only κs a r r' s s' p q = only p q

pub status_code_only : (κs : _) (a : _) (r r' : _) (s s' : _) → status_code.Post κs a r s → status_code.Post κs a r' s' → r ≡ r'
status_code_only κs a r r' s s' p q = only p q

pub status_of_only : (κs : _) (a : _) (r r' : _) (s s' : _) → status_of.Post κs a r s → status_of.Post κs a r' s' → r ≡ r'
status_of_only κs a r r' s s' p q = only p q

pub decision_code_only : (κs : _) (a : _) (r r' : _) (s s' : _) → decision_code.Post κs a r s → decision_code.Post κs a r' s' → r ≡ r'
decision_code_only κs a r r' s s' p q = only p q

pub decision_of_only : (κs : _) (a : _) (r r' : _) (s s' : _) → decision_of.Post κs a r s → decision_of.Post κs a r' s' → r ≡ r'
decision_of_only κs a r r' s s' p q = only p q

pub phase_of_only : (κs : _) (a : _) (r r' : _) (s s' : _) → phase_of.Post κs a r s → phase_of.Post κs a r' s' → r ≡ r'
phase_of_only κs a r r' s s' p q = only p q

pub four_bytes_of_only : (κs : _) (a : _) (r r' : _) (s s' : _) → four_bytes_of.Post κs a r s → four_bytes_of.Post κs a r' s' → r ≡ r'
four_bytes_of_only κs a r r' s s' p q = only p q

pub member_only : (κs : _) (a : _) (r r' : _) (s s' : _) → member.Post κs a r s → member.Post κs a r' s' → r ≡ r'
member_only κs a r r' s s' p q = only p q

pub size_only : (κs : _) (a : _) (r r' : _) (s s' : _) → size.Post κs a r s → size.Post κs a r' s' → r ≡ r'
size_only κs a r r' s s' p q = only p q

pub lowest_only : (κs : _) (a : _) (r r' : _) (s s' : _) → lowest.Post κs a r s → lowest.Post κs a r' s' → r ≡ r'
lowest_only κs a r r' s s' p q = only p q

pub within_only : (κs : _) (a : _) (r r' : _) (s s' : _) → within.Post κs a r s → within.Post κs a r' s' → r ≡ r'
within_only κs a r r' s s' p q = only p q

pub not_heads_only : (κs : _) (a : _) (r r' : _) (s s' : _) → not_heads.Post κs a r s → not_heads.Post κs a r' s' → r ≡ r'
not_heads_only κs a r r' s s' p q = only p q

pub ballot_at_only : (κs : _) (a : _) (r r' : _) (s s' : _) → ballot_at.Post κs a r s → ballot_at.Post κs a r' s' → r ≡ r'
ballot_at_only κs a r r' s s' p q = only p q

pub ballot_bytes_only : (κs : _) (a : _) (r r' : _) (s s' : _) → ballot_bytes.Post κs a r s → ballot_bytes.Post κs a r' s' → r ≡ r'
ballot_bytes_only κs a r r' s s' p q = only p q

pub is_record_only : (κs : _) (a : _) (r r' : _) (s s' : _) → is_record.Post κs a r s → is_record.Post κs a r' s' → r ≡ r'
is_record_only κs a r r' s s' p q = only p q

pub head_at_only : (κs : _) (a : _) (r r' : _) (s s' : _) → head_at.Post κs a r s → head_at.Post κs a r' s' → r ≡ r'
head_at_only κs a r r' s s' p q = only p q

pub record_of_only : (κs : _) (a : _) (r r' : _) (s s' : _) → record_of.Post κs a r s → record_of.Post κs a r' s' → r ≡ r'
record_of_only κs a r r' s s' p q = only p q

pub zero_head_only : (κs : _) (a : _) (r r' : _) (s s' : _) → zero_head.Post κs a r s → zero_head.Post κs a r' s' → r ≡ r'
zero_head_only κs a r r' s s' p q = only p q
