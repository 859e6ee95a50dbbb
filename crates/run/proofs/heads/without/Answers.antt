use Rattle.std.proofs.Common.{◌≡◌, ℕ, ◌-◌, ◌*◌, ◌%◌, ◌^◌, ◌<◌, true, ◌&&◌, not, ap, ◌∙◌, arith}
use lib.Dec.{eqb}
use Rattle.rules.specs.Heard.{member, set_of}
use Rattle.rules.proofs.Counting.Sets.{set_of_is, shifted, member_less}
use Rattle.run.proofs.heads.without.Goals as goal

taken_out : (set s : ℕ) → set < 2 ^ 32 → s < 32 → member s set ≡ true
    → set - (1 * 2 ^ s) % 2 ^ 32 ≡ set_of 32 (λ t. member t set && not (eqb s t))
taken_out set s small l m =
    ap (λ (x : ℕ). set - x) (shifted 32 s l)
    ∙ set_of_is 32 _ _ (omega (arith, small)) (λ t b. member_less s t set m)

pub returns : goal.returns
returns c = taken_out _ _ c.ranges.set.fits c.requires.s_lt_heads_most c.requires.set_value
