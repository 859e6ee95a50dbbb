-- The table after an accepted file: its heads are those of the vote, and so is what demand 3 says of them.
use Prim.Native.Nat.{ℕ, ◌+◌, ◌*◌, ◌≤◌, ◌<◌}
use mathlib.Core.Path.{◌≡◌, refl, sym, ap, ◌∙◌}
use mathlib.Core.List.{List}
use mathlib.Core.Bool.{Bool, true}
use mathlib.Core.Logic.{◌↔◌}
use native.Mathlib.Omega.{arith}
use lib.ListN.{length, get_or}
use lib.Dec.{leb, eqb}
use Rattle.rules.specs.declared.Status.TheVariants.{Decided}
use Rattle.rules.specs.declared.Head.{Head}
use Rattle.rules.specs.Below.{count}
use Rattle.rules.specs.Ballot.{value_of}
use Rattle.rules.specs.Head.{decision_for, is_written}
use Rattle.rules.specs.Tick.{tick_number}
use Rattle.rules.specs.Record.{four_bytes_at}
use Rattle.rules.specs.Given.{WrittenDecision}
use Rattle.rules.specs.Run.{head_in, Run}
use Rattle.rules.proofs.Demands.{no_two_decisions_differ, each_was_proposed, heads_stay_sound}
use Rattle.rules.proofs.Meaning.Meanings.{means_written}
use Rattle.file.specs.Plan.{Plan, plan_for}
use Rattle.file.specs.Table.{head_of, starts_in, rows_in, coins_in, rounds_in, table_after}
use Rattle.file.specs.Vote.{vote_for, channel_for, events_for, lost_to}
use Rattle.file.specs.Figures.{lost_in, bound_of, outcome_of, Accepts}
use Rattle.file.proofs.Reading.Plans.{RuleByRule}
use Rattle.file.proofs.Reading.Accepting.{accepted}
use Rattle.file.proofs.Running.BenchIsRun.{heads_are, rounds_are_run, bench_tick_accepted}
use Rattle.file.proofs.Running.Deciding.{rounds_decide}
use Rattle.file.proofs.Running.LostBallots.{rows_count_what_is_lost, good_is}
use Rattle.rules.specs.Round.{LosesNothing, received}
use Rattle.rules.specs.Heard.{member}

module _ (file : List ℕ) (table : List Head) (accepts : Accepts file table) where
  abbrev plan : Plan
  plan = plan_for file table

  keeps : RuleByRule file (length table) (plan_for file table)
  keeps = accepted file table accepts

  pub table_run : Run (vote_for file table) (events_for file table)
  table_run = rounds_are_run file plan table keeps plan.rounds (omega arith)

  pub table_heads : (s : ℕ) → s < plan.n
      → head_of (table_after file table) s ≡ head_in (vote_for file table) (events_for file table) s
  unfolding table_after
  table_heads s h = heads_are file plan table keeps plan.rounds s h

  pub table_ticks : (r s : ℕ)
      → r < plan.rounds
      → s < plan.n
      → let before = rounds_in file plan r (starts_in file plan.n table) in
      let ballots = received (head_of before) (λ k. member k (four_bytes_at (rows_in file plan r) (s * 4))) plan.n in
      tick_number (head_of before s) ballots (get_or (coins_in file plan r) s 0) ≡ 0
  table_ticks r s early h = bench_tick_accepted file plan table keeps r s early h

  pub table_agrees : (s t : ℕ)
      → s < plan.n
      → t < plan.n
      → WrittenDecision (head_of (table_after file table) s)
      → WrittenDecision (head_of (table_after file table) t)
      → (head_of (table_after file table) s).decision ≡ (head_of (table_after file table) t).decision
  table_agrees s t hs ht ws wt =
      let a = table_heads s hs in
      let b = table_heads t ht in
      ap (λ (h : Head). h.decision) a
      ∙ no_two_decisions_differ (vote_for file table) (events_for file table) table_run s t hs ht (rw a at ws)
      (rw b at wt)
      ∙ sym (ap (λ (h : Head). h.decision) b)

  pub table_proposed : (s : ℕ) → s < plan.n → WrittenDecision (head_of (table_after file table) s)
      → (t : ℕ) × (t < plan.n) × ((head_of (table_after file table) s).decision
      ≡ decision_for (value_of (get_or file (2 + t) 0)))
  table_proposed s hs ws =
      let a = table_heads s hs in
      let r = each_was_proposed (vote_for file table) (events_for file table) table_run s hs (rw a at ws) in
      (r.0, r.1, ap (λ (h : Head). h.decision) a ∙ r.2)

  pub table_decides : (bit : ℕ)
      → bit < 2
      → plan.n < count plan.n (λ s. eqb (get_or file (2 + s) 0) bit) * 2
      → 2 ≤ plan.rounds
      → LosesNothing (vote_for file table) (channel_for file table 0)
      → LosesNothing (vote_for file table) (channel_for file table 1)
      → (s : ℕ) → s < plan.n
      → (head_of (table_after file table) s).decision ≡ decision_for (value_of bit)
  table_decides bit low most two first second s h =
      ap (λ (k : Head). k.decision) (table_heads s h)
      ∙ rounds_decide file plan table keeps bit low most two first second s h

  pub figure_counts : (r : ℕ)
      → r < plan.rounds
      → lost_in (rows_in file plan r) plan.n ≡ lost_to plan.n (channel_for file table r) plan.n
  figure_counts = rows_count_what_is_lost file plan (length table) keeps

  pub good_counts : (outcome_of file table).good
      ≡ count plan.rounds (λ r. leb (lost_to plan.n (channel_for file table r) plan.n)
      (bound_of plan.n plan.needed))
  unfolding outcome_of
  good_counts = good_is file plan (length table) keeps

  pub decided_counts : (written : ℕ → Bool)
      × ((s : ℕ) → s < plan.n → (written s ≡ true) ↔ WrittenDecision (head_of (table_after file table) s))
      × ((outcome_of file table).decided ≡ count plan.n written)
  unfolding outcome_of
  decided_counts =
      (λ s. is_written (head_of (table_after file table) s), λ s h. means_written (head_of (table_after file table) s), refl)

  pub decided_wrote : (s : ℕ) → s < plan.n → (head_of (table_after file table) s).status ≡ Decided
      → WrittenDecision (head_of (table_after file table) s)
  decided_wrote s h decided =
      let a = table_heads s h in
      rw a ((heads_stay_sound (vote_for file table) (events_for file table) table_run s h).decided (rw a at decided)).1
