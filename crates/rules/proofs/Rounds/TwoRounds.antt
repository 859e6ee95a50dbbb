-- "If over half propose one bit and the first ticks are two of document 01's rounds that lose nothing, every head
-- decides that bit in them." (Demand 3)
use Prim.Native.Nat.{ℕ, ◌*◌, ◌≤◌, ◌<◌}
use mathlib.Core.Path.{◌≡◌, refl, sym, ap, ap₂, ◌∙◌}
use mathlib.Core.List.{[]}
use mathlib.Core.Bool.{Bool, true, ◌||◌}
use mathlib.Core.Logic.{inl, inr}
use native.Mathlib.Omega.{arith}
use lib.Dec.{eqb, lit<}
use borrow.Author.Tests.{lt-ltb, ltb-true}
use Rattle.rules.specs.declared.Value.{Value}
use Rattle.rules.specs.declared.Value.TheVariants.{Zero, One, Blank}
use Rattle.rules.specs.declared.Status.TheVariants.{Decided}
use Rattle.rules.specs.declared.Head.{Head}
use Rattle.rules.specs.Below.{count}
use Rattle.rules.specs.Ballot.{value_code, value_of, same_value}
use Rattle.rules.specs.Head.{decision_for, any_heard}
use Rattle.rules.specs.Tick.{majority, step_value, step_status, risen, settled}
use Rattle.rules.specs.Given.{phase_1, phase_2}
use Rattle.rules.specs.Run.{Vote, Proper, EveryHeadDecides}
use Rattle.rules.specs.Round.{Channel, round, LosesNothing, CoinsAreBits}
use Rattle.rules.proofs.Counting.Truth.{means_self, means_or, not_not}
use Rattle.rules.proofs.Counting.Below.{count_same}
use Rattle.rules.proofs.Meaning.Meanings.{means_value}
use Rattle.rules.proofs.OneTick.Starts.{start_head}
use Rattle.rules.proofs.Undivided.TheBit.{Bit, coin_bit, bit_with_lem}
use Rattle.rules.proofs.Meaning.Accepted.{value_code_back}
use Rattle.rules.proofs.Counting.Counting.{count_all}
use Rattle.rules.proofs.Rounds.HearingAll.{holders, hearing, one_value, majority_is, means_heard_at_all}
use Rattle.rules.proofs.Rounds.LosslessRound.{level, AllAt, lossless_round}

-- ---- the two steps

-- a test that holds of a bit holds of one of the two
either_bit : (p : Value → Bool) (v : Value) → Bit v → p v ≡ true → p Zero || p One ≡ true
either_bit p Zero bit here = (means_or (means_self (p Zero)) (means_self (p One))).1 (inl here)
either_bit p One bit here = (means_or (means_self (p Zero)) (means_self (p One))).1 (inr here)
either_bit p Blank bit here = absurd (bit refl)

-- from phase 1, where over half have a bit, every head goes to phase 2 with it
first_step : (n s : ℕ) (value : ℕ → Value) (v : Value) (coin : ℕ) → n ≤ 32 → Bit v → n < holders n value v * 2 → settled (risen (hearing n 1 value s) coin) ≡ level n 2 (λ t. v) s
unfolding settled step_status
first_step n s value v coin few bit most = rw taken
  where
    taken : step_value (hearing n 1 value s) coin ≡ v
    taken =
        unfold step_value in
        bit_with_lem (majority (hearing n 1 value s)) Blank v bit (majority_is n 1 value s few v ∙ lt-ltb n _ most)
        (λ w b m. not_not (means_value w v) (λ other. omega (arith, one_value n value w v other, ltb-true n (holders n value w * 2) (sym (majority_is n 1 value s few w) ∙ m))))

-- from phase 2, where all have one bit, every head decides it
second_step : (n s : ℕ) (v : Value) (coin : ℕ) → 2 ≤ n → n ≤ 32 → Bit v → (settled (risen (hearing n 2 (λ t. v) s) coin)).decision ≡ decision_for v
unfolding settled
second_step n s v coin many few bit = rw (decided, taken)
  where
    all : ℕ → Value
    all t = v

    over_half_lem : n < holders n all v * 2
    over_half_lem = omega (arith, count_all n (λ t. same_value v v) (λ t l. (means_value v v).1 refl))

    taken : step_value (hearing n 2 (λ t. v) s) coin ≡ v
    taken =
        unfold step_value in
        bit_with_lem (any_heard (hearing n 2 all s)) (value_of coin) v bit ((means_heard_at_all n 2 all s few v).1 (0, omega arith, refl))
        (λ w b m. sym ((means_heard_at_all n 2 all s few w).0 m).2)

    decided : step_status (hearing n 2 (λ t. v) s) ≡ Decided
    decided = unfold step_status in rw (either_bit (majority (hearing n 2 all s)) v bit (majority_is n 2 all s few v ∙ lt-ltb n _ over_half_lem))

-- ---- the two rounds

-- "If over half propose one bit and the first ticks are two of document 01's rounds that lose nothing, every head
-- decides that bit in them."
pub two_rounds_decide : (vote : Vote) → Proper vote
    → (bit : ℕ) → bit < 2 → vote.n < count vote.n (λ s. eqb (vote.proposal s) bit) * 2
    → (first second : Channel) → LosesNothing vote first → LosesNothing vote second → CoinsAreBits vote first → CoinsAreBits vote second
    → EveryHeadDecides vote (round vote (round vote [] first) second) bit
two_rounds_decide vote proper bit low most one two lossless_one lossless_two ones twos s h =
    ap (λ (k : Head). k.decision) (lossless_round after two lossless_two twos s h).1
    ∙ second_step vote.n s v (two.coin s) proper.heads.0 proper.heads.1 bit_value
  where
    v : Value
    v = value_of bit

    proposed : ℕ → Value
    proposed t = value_of (vote.proposal t)

    bit_value : Bit v
    bit_value = coin_bit bit low

    proposed_code : (t : ℕ) → t < vote.n → value_code (proposed t) ≡ vote.proposal t
    proposed_code t b = value_code_back (vote.proposal t) (omega (arith, proper.bits t b))

    over_half_lem : vote.n < holders vote.n proposed v * 2
    over_half_lem =
        omega (arith, count_same vote.n (λ t. eqb (vote.proposal t) bit) _ (λ t b. sym (ap₂ eqb (proposed_code t b) (value_code_back bit (omega arith)))))

    -- before the rounds
    start : AllAt vote [] 1 proposed
    start =
        record {
          at =
              record {
                heads = proper.heads;
                early = lit< tt;
                rules = λ t b. phase_1 refl (omega (arith, proposed_code t b, proper.bits t b)) refl;
                even = λ o. absurd (omega arith);
              };
          states = start_head vote proper;
        }

    -- between them
    after : AllAt vote (round vote [] one) 2 (λ t. v)
    after =
        record {
          at =
              record {
                heads = proper.heads;
                early = lit< tt;
                rules = λ t b. phase_2 refl (omega (arith, value_code_back bit (omega arith))) refl;
                even = λ o t u b c p q. let z : ◌≡◌ {A = ℕ} 0 1 = cc in omega arith;
              };
          states = λ t b. (lossless_round start one lossless_one ones t b).1 ∙ first_step vote.n t proposed v (one.coin t) proper.heads.1 bit_value over_half_lem;
        }
