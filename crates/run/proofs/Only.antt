-- No second answer fits: two answers, and two later contents of what was lent, that both meet a public function's
-- promise are equal. Stated over the promises themselves, as the functions carry them; for `bench` and `run_file` also
-- over what `bench_says` and `run_file_says` read off their promises. In `Post κs a r s`, `κs` are lifetimes, `a` is what
-- the function is handed, `r` its answer and `s` what it leaves in what it was lent.
use mathlib.Core.Path.{◌≡◌, refl}
use Prim.Native.Nat.{ℕ}
use mathlib.Core.List.{List}
use seplogic.Ra.Ura.{Ura}
use base.Logic.{SProp, sep}
use prog.Memory.{Memory}
use prog.Routine.{Routine}
use types.Logic.{Logic}
use contract.Monad.{Fun, fact}
use Rattle.rules.specs.declared.Head.{Head}
use Rattle.rules.proofs.Meaning.Answers.{only}
use Rattle.std.specs.Prelude.{Result}
use Rattle.file.specs.declared.Refusal.{Refusal}
use Rattle.file.specs.declared.Figures.{Figures}
use Rattle.file.specs.declared.Benched.{Benched}
use Rattle.file.specs.Table.{table_after}
use Rattle.file.specs.Figures.{outcome_of, outcome_read}
use Rattle.file.specs.Benched.{benched_of, benched_read}
use Rattle.file.proofs.OneAnswer.{one_outcome, one_vote}
use Rattle.run.proofs.printed.report.Reads as report
use Rattle.run.proofs.table.bench.Reads as bench_reads
use Rattle.run.proofs.table.run_file.Reads as run_file_reads
use Rattle.run.proofs.text.Text.as_bytes.Reads as as_bytes
use Rattle.run.specs.contracts.table.bench as bench
use Rattle.run.specs.contracts.table.run_file as run_file

pub report_only : (κs : _) (a : _) (r r' : _) (s s' : _) → report.Post κs a r s → report.Post κs a r' s' → r ≡ r'
report_only κs a r r' s s' p q = only p q

pub as_bytes_only : (κs : _) (a : _) (r r' : _) (s s' : _) → as_bytes.Post κs a r s → as_bytes.Post κs a r' s' → r.now ≡ r'.now
as_bytes_only κs a r r' s s' p q = only p q

-- what `bench` says of its answer and of the table's later contents, and what `run_file` says of its answer
abbrev pub BenchSays : List ℕ → List Head → Result Figures Refusal → List Head → Type 0
BenchSays file table answer after = (outcome_read answer ≡ outcome_of file table) × (after ≡ table_after file table)

abbrev pub RunFileSays : List ℕ → Benched → Type 0
RunFileSays file answer = benched_read answer ≡ benched_of file

-- their promises are read off here: they say just that
module _ {M : Type 1} {𝓤 : Ura M} (𝓛 : Logic 𝓤) (mem : Memory → SProp 𝓤) (run : Routine → Fun 𝓤) where
  pub bench_says : (κs : _) (a : _) (r : _) (s : _) → (bench.clauses 𝓛 mem run κs a).ensures tt r s
      ≡ sep 𝓤 (fact 𝓤 (outcome_read r ≡ outcome_of a.0.now a.1.0.now)) (fact 𝓤 (s.1.0.now ≡ table_after a.0.now a.1.0.now))
  bench_says κs a r s = refl

  pub run_file_says : (κs : _) (a : _) (r : _) (s : _) → (run_file.clauses 𝓛 mem run κs a).ensures tt r s ≡ fact 𝓤 (RunFileSays a.0.now r)
  run_file_says κs a r s = refl

pub bench_only : (file : List ℕ) (table : List Head) (r r' : Result Figures Refusal) (t t' : List Head) → BenchSays file table r t → BenchSays file table r' t' → (r ≡ r') × (t ≡ t')
bench_only file table r r' t t' p q = (one_outcome r r' (only p.0 q.0), only p.1 q.1)

pub bench_post_only : (κs : _) (a : _) (r r' : _) (s s' : _) → bench_reads.Post κs a r s → bench_reads.Post κs a r' s'
    → (r ≡ r') × (s.1.0.now ≡ s'.1.0.now)
bench_post_only κs a r r' s s' p q = bench_only a.0.now a.1.0.now r r' s.1.0.now s'.1.0.now p q

pub run_file_only : (file : List ℕ) (r r' : Benched) → RunFileSays file r → RunFileSays file r' → r ≡ r'
run_file_only file r r' p q = one_vote r r' (only p q)

pub run_file_post_only : (κs : _) (a : _) (r r' : _) (s s' : _) → run_file_reads.Post κs a r s → run_file_reads.Post κs a r' s' → r ≡ r'
run_file_post_only κs a r r' s s' p q = run_file_only a.0.now r r' p q
