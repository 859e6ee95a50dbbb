-- How large a plan's fields are, and that it has no more heads than there is room for.
use Prim.Native.Nat.{ℕ, ◌≤◌}
use mathlib.Core.Path.{sym, subst}
use mathlib.Core.List.{List}
use mathlib.Core.Logic.{◌⊎◌, inl, inr}
use native.Mathlib.Omega.{arith}
use Rattle.file.specs.Plan.{Plan, plan_of}
use Rattle.file.proofs.Reading.Plans.{RuleByRule, RefusedFile, planned}

-- what the code wants of a plan
pub record Fits (room : ℕ) (plan : Plan) : Type 0 where
  pub among_room : plan.n ≤ room
  pub few_heads : plan.n ≤ 32
  pub need_among_them : plan.needed ≤ plan.n
  pub few_rounds : plan.rounds ≤ 256

fits : (file : List ℕ) (room : ℕ) (plan : Plan) → RuleByRule file room plan ⊎ RefusedFile file plan → Fits room plan
fits file room plan (inl a) =
    record { among_room = a.enough; few_heads = a.heads.1; need_among_them = a.at_most; few_rounds = a.rounds }
fits file room plan (inr r) =
    subst (Fits room) (sym r.is)
    (record {
      among_room = omega arith;
      few_heads = omega arith;
      need_among_them = omega arith;
      few_rounds = omega arith;
    })

pub planned_fits : (file : List ℕ) (room : ℕ) → Fits room (plan_of file room)
planned_fits file room = fits file room (plan_of file room) (planned file room)
