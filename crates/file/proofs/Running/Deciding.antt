-- Demand 3's last sentence, of a run file: two rounds that lose nothing decide, and what is written stays.
use Prim.Native.Nat.{ℕ, zero, suc, ◌+◌, ◌*◌, ◌≤◌, ◌<◌}
use mathlib.Core.Path.{◌≡◌, refl, sym, ap, ◌∙◌}
use mathlib.Core.List.{List}
use native.Mathlib.Omega.{arith}
use lib.ListN.{length, get_or}
use lib.Dec.{eqb}
use Rattle.rules.specs.declared.Decision.TheVariants.{Unwritten}
use Rattle.rules.specs.declared.Head.{Head}
use Rattle.rules.specs.Below.{count}
use Rattle.rules.specs.Ballot.{value_of}
use Rattle.rules.specs.Head.{decision_for}
use Rattle.rules.specs.Run.{Event, head_in, EveryHeadDecides}
use Rattle.rules.specs.Round.{received, LosesNothing}
use Rattle.rules.proofs.Rounds.Rounds.{ticked_once}
use Rattle.rules.proofs.Undivided.Decisions.{tick_keeps_decision}
use Rattle.file.specs.Plan.{Plan}
use Rattle.file.proofs.Reading.Plans.{RuleByRule}
use Rattle.file.proofs.Running.Voting.{vote_in, channel_in, events_in}
use Rattle.file.proofs.Running.BenchIsRun.{coin_bit}
use Rattle.rules.proofs.Demands.{two_lossless_rounds_decide}

bit_written : (bit : ℕ) → bit < 2 → decision_for (value_of bit) ≡ Unwritten → ⊥
unfolding value_of
bit_written zero h e = let z : ◌≡◌ {A = ℕ} 0 1 = cc in omega arith
bit_written (suc zero) h e = let z : ◌≡◌ {A = ℕ} 0 1 = cc in omega arith
bit_written (suc (suc b)) h e = omega arith

module _ (file : List ℕ) (plan : Plan) (table : List Head) (keeps : RuleByRule file (length table) plan)
    (bit : ℕ) (low : bit < 2) (most : plan.n < count plan.n (λ s. eqb (get_or file (2 + s) 0) bit) * 2)
    (two : 2 ≤ plan.rounds)
    (first : LosesNothing (vote_in file plan) (channel_in file plan 0))
    (second : LosesNothing (vote_in file plan) (channel_in file plan 1)) where
  -- after the first two rounds, and any more
  decides : (r s : ℕ) → s < plan.n
      → (head_in (vote_in file plan) (events_in file plan (suc (suc r))) s).decision ≡ decision_for (value_of bit)
  decides zero s h =
      two_lossless_rounds_decide (vote_in file plan)
      (record { heads = keeps.heads; bits = keeps.proposal }) bit low most
      (channel_in file plan 0) (channel_in file plan 1) first second
      (coin_bit file plan table keeps 0 (omega arith)) (coin_bit file plan table keeps 1 (omega arith)) s h
  decides (suc r) s h =
      ap (λ (k : Head). k.decision) (ticked_once (vote_in file plan) before (channel_in file plan (suc (suc r)))
      plan.n s h)
      ∙ tick_keeps_decision (head_in (vote_in file plan) before s)
      (received (head_in (vote_in file plan) before) ((channel_in file plan (suc (suc r))).lost s) plan.n)
      ((channel_in file plan (suc (suc r))).coin s)
      (λ none. bit_written bit low (sym (decides r s h) ∙ none))
      ∙ decides r s h
    where
      before : List Event
      before = events_in file plan (suc (suc r))

  pub rounds_decide : EveryHeadDecides (vote_in file plan) (events_in file plan plan.rounds) bit
  rounds_decide = go plan.rounds refl
    where
      go : (r : ℕ) → plan.rounds ≡ r → EveryHeadDecides (vote_in file plan) (events_in file plan r) bit
      go zero e = absurd (omega arith)
      go (suc zero) e = absurd (omega arith)
      go (suc (suc r)) e = decides r
