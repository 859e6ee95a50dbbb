-- The lowest member of a set is the number of its digits' trailing zeros, as the machine counts them.
use Prim.Native.Nat.{ℕ, zero, suc, ◌/◌, ◌%◌}
use mathlib.Core.Path.{◌≡◌, refl, ap, fun_ext, ◌∙◌}
use mathlib.Core.Bool.{Bool, cond}
use native.Mathlib.Decide.{ℕ_discrete}
use native.Mathlib.Omega.{arith}
use lib.Dec.{eqb}
use lib.Count.{count_trailing_zeros, under}
use Rattle.rules.specs.Below.{first}
use Rattle.rules.specs.Heard.{member}
use Rattle.rules.proofs.Counting.Sets.{member_low, member_suc}

pub lowest_is : (k x : ℕ) → count_trailing_zeros k x ≡ first k (λ s. member s x)
unfolding first count_trailing_zeros
lowest_is zero x = refl
lowest_is (suc k) x = go (ℕ_discrete (x % 2) 1) ∙ rest (lowest_is k (x / 2))
    ∙ ap (λ (t : Bool). cond t 0 (suc (first k (λ s. member (suc s) x)))) (low x)
  where
    low : (x : ℕ) → eqb (x % 2) 1 ≡ member 0 x
    low x = rw (member_low x) refl

    rest : count_trailing_zeros k (x / 2) ≡ first k (λ s. member s (x / 2))
        → cond (eqb (x % 2) 1) 0 (suc (count_trailing_zeros k (x / 2))) ≡ cond (eqb (x % 2) 1) 0 (suc (first k (λ s. member (suc s) x)))
    rest i = rw (i, fun_ext (λ s. member_suc s x)) refl

    go : Dec (x % 2 ≡ 1)
        → under (x % 2) (count_trailing_zeros k (x / 2)) ≡ cond (eqb (x % 2) 1) 0 (suc (count_trailing_zeros k (x / 2)))
    go (yes o) = rw o
    go (no o) = let z : x % 2 ≡ 0 = omega (arith, o) in rw z
