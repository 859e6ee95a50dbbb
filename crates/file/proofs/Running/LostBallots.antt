-- "its lost ballots, of n × n": a round's rows count what its channel loses.
use Prim.Native.Nat.{ℕ, zero, suc, ◌+◌, ◌*◌, ◌≤◌, ◌<◌}
use mathlib.Core.Path.{◌≡◌, refl, sym, ap, ap₂, ◌∙◌}
use mathlib.Core.List.{List}
use mathlib.Core.Bool.{true}
use native.Mathlib.Nat.{mul-le-mul_right, suc-mul}
use native.Mathlib.Omega.{arith}
use lib.Dec.{leb}
use Rattle.rules.specs.Below.{count}
use Rattle.rules.specs.Heard.{member, size}
use Rattle.rules.specs.Record.{four_bytes_at}
use Rattle.rules.proofs.Counting.Below.{count_same}
use Rattle.rules.proofs.Counting.Counting.{count_within}
use Rattle.file.specs.Plan.{Plan}
use Rattle.file.specs.Table.{rows_in}
use Rattle.file.specs.Figures.{lost_in, bound_of, good_in}
use Rattle.file.specs.Vote.{lost_to}
use Rattle.file.proofs.Reading.Sections.{four_bytes_at_lem}
use Rattle.file.proofs.Reading.Plans.{RuleByRule}
use Rattle.file.proofs.Running.Voting.{channel_in}

module _ (file : List ℕ) (plan : Plan) (room : ℕ) (keeps : RuleByRule file room plan) where
  -- a row of a round is a row of the file
  row_of : (r k : ℕ) → k < plan.n
      → four_bytes_at (rows_in file plan r) (k * 4) ≡ four_bytes_at file (plan.losses + (r * plan.n + k) * 4)
  row_of r k h =
      let same : plan.losses + r * plan.n * 4 + k * 4 ≡ plan.losses + (r * plan.n + k) * 4 = omega arith in
      four_bytes_at_lem file (plan.losses + r * plan.n * 4) (plan.n * 4) (k * 4) (omega arith)
      ∙ ap (four_bytes_at file) same

  -- "Bits from n up are zero."
  below_n : (r : ℕ) → r < plan.rounds → (k : ℕ) → k < plan.n
      → (s : ℕ) → member s (four_bytes_at (rows_in file plan r) (k * 4)) ≡ true → s < plan.n
  below_n r early k h s m =
      let row : r * plan.n + k < plan.rounds * plan.n =
      omega (arith, h, mul-le-mul_right plan.n early, suc-mul r plan.n) in
      keeps.row (r * plan.n + k) row s (sym (ap (member s) (row_of r k h)) ∙ m)

  lost_is : (r : ℕ) → r < plan.rounds → (k : ℕ) → k ≤ plan.n
      → lost_in (rows_in file plan r) k ≡ lost_to plan.n (channel_in file plan r) k
  unfolding lost_in size
  lost_is r early zero h = refl
  lost_is r early (suc k) h =
      ap₂ (λ (a b : ℕ). a + b) (lost_is r early k (omega arith))
      (count_within 32 (λ s. member s (four_bytes_at (rows_in file plan r) (k * 4))) keeps.heads.1
      (below_n r early k h))

  pub rows_count_what_is_lost : (r : ℕ)
      → r < plan.rounds
      → lost_in (rows_in file plan r) plan.n ≡ lost_to plan.n (channel_in file plan r) plan.n
  rows_count_what_is_lost r early = lost_is r early plan.n (omega arith)

  -- so the good rounds are those whose channel loses no more than the bound
  pub good_is : good_in file plan plan.rounds
      ≡ count plan.rounds (λ r. leb (lost_to plan.n (channel_in file plan r) plan.n)
      (bound_of plan.n plan.needed))
  good_is =
      count_same plan.rounds _ _
      (λ r early. ap (λ (lost : ℕ). leb lost (bound_of plan.n plan.needed)) (rows_count_what_is_lost r early))
