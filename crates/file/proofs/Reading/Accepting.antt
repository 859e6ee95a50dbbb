-- Which files are accepted, in the table that is lent: the plan's number is the bench's.
use Prim.Native.Nat.{ℕ, ◌*◌, ◌≤◌}
use mathlib.Core.Path.{◌≡◌, refl, sym, ap, ◌∙◌}
use mathlib.Core.List.{List}
use mathlib.Core.Logic.{◌↔◌}
use native.Mathlib.Nat.{mul-le-mul}
use native.Mathlib.Omega.{arith}
use lib.ListN.{length}
use Rattle.rules.specs.declared.Head.{Head}
use Rattle.file.specs.Plan.{Plan, plan_for}
use Rattle.file.specs.Figures.{Outcome, outcome_of, Accepts}
use Rattle.file.specs.Rules.{KeepsEveryRule}
use Rattle.file.specs.Refusal.{file_refusals}
use Rattle.file.specs.Table.{table_after}
use Rattle.file.specs.Benched.{empty_table, benched_of}
use Rattle.file.proofs.Reading.Plans.{RuleByRule, RefusedFile, plan_given, accepted_file, refused_file}
use Rattle.file.proofs.Reading.Plans.{accepted_exactly}
use Rattle.file.proofs.Reading.Plans.{no_line_applies}
use Rattle.file.proofs.Reading.NeverSixteen.{never_sixteen}
use Rattle.file.proofs.Reading.LargestFile.{padded, padded_length, largest_keeps}
use Rattle.file.proofs.Reading.FirstBytes.{outcome_refused, refused_table}
use Rattle.rules.specs.Given.{Given}

same_number : (file : List ℕ) (table : List Head) → (outcome_of file table).number ≡ (plan_for file table).number
unfolding outcome_of
same_number file table = refl

pub accepted : (file : List ℕ) (table : List Head) → Accepts file table
    → RuleByRule file (length table) (plan_for file table)
accepted file table zero = accepted_file file (length table) (sym (same_number file table) ∙ zero)

refused : (file : List ℕ) (table : List Head) → (Accepts file table → ⊥) → RefusedFile file (plan_for file table)
refused file table not_zero = refused_file file (length table) (λ zero. not_zero (same_number file table ∙ zero))

pub refused_by_first : (file : List ℕ) (table : List Head) (number place : ℕ)
    → (((outcome_of file table).number ≡ number) × ((outcome_of file table).place ≡ place))
    ↔ Given number place (file_refusals file (length table))
unfolding outcome_of
refused_by_first file table = plan_given file (length table)

pub accepted_exactly_when : (file : List ℕ) (table : List Head) (plan : Plan)
    → (Accepts file table × (plan_for file table ≡ plan)) ↔ KeepsEveryRule file (length table) plan
unfolding outcome_of
accepted_exactly_when file table = accepted_exactly file (length table)

pub refused_by_12_to_16 : (file : List ℕ) (table : List Head)
    → (Accepts file table → ⊥)
    → (12 ≤ (outcome_of file table).number) × ((outcome_of file table).number ≤ 16)
refused_by_12_to_16 file table not_zero =
    let R = refused file table not_zero in
    let number = same_number file table ∙ ap (λ (p : Plan). p.number) R.is in
    (omega (arith, number, R.low), omega (arith, number, R.high))

pub never_16 : (file : List ℕ) → (benched_of file).outcome.number ≡ 16 → ⊥
never_16 file sixteen = never_sixteen file (sym (same_number file empty_table) ∙ sixteen)

pub at_most_41001 : (file : List ℕ) (table : List Head) → Accepts file table → length file ≤ 41001
at_most_41001 file table zero =
    let keeps = accepted file table zero in
    let rows : (plan_for file table).rounds * (plan_for file table).n ≤ 256 * 32 =
    mul-le-mul keeps.rounds keeps.heads.1 in
    omega (arith, keeps.whole, keeps.coins, keeps.heads.1, rows)

pub largest_accepted : (file : List ℕ) × (length file ≡ 41001) × Accepts file empty_table
largest_accepted = accepting 32768 8192 refl refl
  where
    accepting : (rows coins : ℕ) → rows ≡ 32768 → coins ≡ 8192
        → (file : List ℕ) × (length file ≡ 41001) × Accepts file empty_table
    accepting rows coins many more = (
      padded rows coins,
      omega (arith, padded_length rows coins, many, more),
      same_number (padded rows coins) empty_table
          ∙ no_line_applies (padded rows coins) 32 _ (largest_keeps rows coins many more),
    )

pub refused_changes_nothing : (file : List ℕ) (table : List Head) → (Accepts file table → ⊥)
    → table_after file table ≡ table
refused_changes_nothing file table not_zero =
    let R = refused file table not_zero in
    refused_table file table R.number R.place R.is

pub refused_counts_nobody : (file : List ℕ) (table : List Head) → (Accepts file table → ⊥)
    → (outcome_of file table).decided ≡ 0
refused_counts_nobody file table not_zero =
    let R = refused file table not_zero in
    ap (λ (o : Outcome). o.decided) (outcome_refused file table R.number R.place R.is)
