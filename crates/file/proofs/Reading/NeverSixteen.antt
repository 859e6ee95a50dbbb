-- A report's table has room for every vote, so 16 is never given there.
use Prim.Native.Nat.{ℕ, ◌<◌}
use mathlib.Core.Path.{◌≡◌, refl}
use mathlib.Core.List.{List}
use mathlib.Core.Logic.{inl, inr}
use native.Mathlib.Omega.{arith}
use Rattle.file.specs.Section.{count_at}
use Rattle.file.specs.Refusal.{file_refusals}
use Rattle.file.specs.Plan.{plan_of}
use Rattle.file.proofs.Reading.Plans.{plan_given}
use Rattle.rules.specs.Given.{Given}
use Rattle.rules.proofs.Meaning.Given.{given_applies}

module _ (file : List ℕ) (place : ℕ) where
  -- with more than 32 heads, 13 applies before
  too_many : 32 < count_at file 0 → Given 16 place (file_refusals file 32) → ⊥
  too_many many (inl x) = omega (arith, x.1)
  too_many many (inr (whole, inl x)) = omega (arith, x.1)
  too_many many (inr (whole, inr x)) = x.0 0 (λ heads. omega (arith, heads.1, many), refl)

  no_sixteen : Given 16 place (file_refusals file 32) → ⊥
  no_sixteen g =
      elim (given_applies 16 place (file_refusals file 32) (λ e. omega (arith, e)) g)
      [ inl x ↦ too_many x.0 g | inr none ↦ none ]

pub never_sixteen : (file : List ℕ) → (plan_of file 32).number ≡ 16 → ⊥
never_sixteen file number =
    no_sixteen file (plan_of file 32).place ((plan_given file 32 16 (plan_of file 32).place).0 (number, refl))
