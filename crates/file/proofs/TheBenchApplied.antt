-- Every theorem of TheBench, applied by its name to a case that needs all of it, its hypotheses met. So a statement
-- that says less than its sentence is refused here.
use Prim.Native.Nat.{ℕ, zero, suc, ◌+◌, ◌*◌, ◌≤◌, ◌<◌, ◌^◌}
use mathlib.Core.Path.{◌≡◌, refl, sym, ap, subst, ◌∙◌}
use mathlib.Core.List.{List, [], ◌∷◌, ◌++◌}
use mathlib.Core.Bool.{Bool, true, false, cond}
use mathlib.Core.Logic.{inl, inr}
use native.Mathlib.Decide.{ℕ_discrete}
use native.Mathlib.Omega.{arith}
use lib.ListN.{length, get_or, take, drop, replicate}
use lib.Dec.{leb, eqb, lit<, lit≤}
use Rattle.rules.specs.declared.Status.TheVariants.{Undecided}
use Rattle.rules.specs.declared.Decision.TheVariants.{One as ForOne, Unwritten}
use Rattle.rules.specs.declared.Head.{Head}
use Rattle.rules.specs.Below.{count}
use Rattle.rules.specs.Heard.{member}
use Rattle.rules.specs.Ballot.{value_of}
use Rattle.rules.specs.Head.{decision_for, is_decided}
use Rattle.rules.specs.Tick.{tick_number}
use Rattle.rules.specs.Record.{four_bytes_at}
use Rattle.rules.specs.Given.{WrittenDecision}
use Rattle.rules.specs.Run.{head_in, Run}
use Rattle.rules.proofs.Counting.Below.{count_le}
use Rattle.rules.proofs.Counting.Counting.{count_more}
use Rattle.rules.proofs.Counting.Sets.{member_none}
use Rattle.rules.proofs.Meaning.Meanings.{means_decided}
use Rattle.file.specs.Plan.{Plan, plan_for}
use Rattle.file.specs.Figures.{Outcome, lost_in, bound_of, good_in, outcome_of, Accepts}
use Rattle.file.specs.Section.{count_at}
use Rattle.file.specs.Rules.{KeepsEveryRule}
use Rattle.file.specs.Refusal.{file_refusals}
use Rattle.file.specs.Table.{head_of, starts_in, rows_in, coins_in, rounds_in, table_after}
use Rattle.file.specs.Vote.{vote_for, channel_for, events_for, lost_to}
use Rattle.file.specs.Benched.{empty_table, benched_of}
use Rattle.file.specs.Report.{report_of}
use Rattle.file.specs.PrintedCase.{printed_case}
use Rattle.file.proofs.Computing.{reporting}
use Rattle.file.proofs.AFewReports.{status_put_back, two_heads, others, lent}
use Rattle.file.proofs.TheBench.{a_file_is_refused_by_the_first_number_that_applies}
use Rattle.file.proofs.TheBench.{a_file_is_accepted_exactly_when_its_plan_keeps_every_rule}
use Rattle.file.proofs.TheBench.{a_file_is_refused_by_12_to_16, a_report_never_gives_16}
use Rattle.file.proofs.TheBench.{an_accepted_file_has_at_most_41001_bytes}
use Rattle.file.proofs.TheBench.{the_largest_file_is_accepted, a_refused_file_changes_nothing}
use Rattle.file.proofs.TheBench.{the_others_are_untouched}
use Rattle.file.proofs.TheBench.{the_table_keeps_its_length, a_bench_run_is_a_run, the_table_holds_the_heads}
use Rattle.file.proofs.TheBench.{no_tick_of_the_bench_is_refused, no_two_decisions_in_the_table_differ}
use Rattle.file.proofs.TheBench.{each_decision_in_the_table_was_proposed}
use Rattle.file.proofs.TheBench.{a_file_whose_first_two_rounds_lose_nothing_decides}
use Rattle.file.proofs.TheBench.{the_figure_counts_what_the_channel_loses}
use Rattle.file.proofs.TheBench.{the_good_rounds_lose_at_most_the_bound}
use Rattle.file.proofs.TheBench.{the_last_figure_counts_written_decisions, a_decided_head_is_counted}
use Rattle.file.proofs.TheBench.{a_refused_file_counts_nobody}
use Rattle.file.proofs.TheBench.{equal_reports_come_from_equal_figures, the_first_41002_bytes_decide}
use Rattle.file.proofs.TheBench.{the_printed_case_prints}
use Rattle.rules.specs.Round.{LosesNothing, received}
use Rattle.rules.proofs.Meaning.Given.{given_applies}

-- ---- Demand 1

-- "An empty file: 12 at 0.", whatever table is lent
pub an_empty_file : (table : List Head) → ((outcome_of [] table).number ≡ 12) × ((outcome_of [] table).place ≡ 0)
an_empty_file table = (a_file_is_refused_by_the_first_number_that_applies [] table 12 0).1 (inl ((lit< tt, refl), refl))

-- 16 is given only where "table shorter than n", at "place 0"
pub sixteen_says_too_short : (file : List ℕ) (table : List Head)
    → (outcome_of file table).number ≡ 16
    → (length table < count_at file 0) × ((outcome_of file table).place ≡ 0)
sixteen_says_too_short file table sixteen =
    let place = (outcome_of file table).place in
    let given = (a_file_is_refused_by_the_first_number_that_applies file table 16 place).0 (sixteen, refl) in
    elim (given_applies 16 place (file_refusals file (length table)) (λ e. omega (arith, e)) given)
    [ inl x ↦ x | inr none ↦ absurd none ]

-- a file has one plan that keeps every rule, and the bench runs it
pub one_plan_keeps_every_rule : (file : List ℕ) (table : List Head) (plan other : Plan)
    → KeepsEveryRule file (length table) plan
    → KeepsEveryRule file (length table) other
    → Accepts file table × (plan ≡ other)
one_plan_keeps_every_rule file table plan other a b =
    let x = (a_file_is_accepted_exactly_when_its_plan_keeps_every_rule file table plan).1 a in
    let y = (a_file_is_accepted_exactly_when_its_plan_keeps_every_rule file table other).1 b in
    (x.0, sym x.1 ∙ y.1)

-- and an accepted file's plan is it: its coins start where they stand
pub the_coins_start_there : (file : List ℕ) (table : List Head)
    → Accepts file table
    → let plan = plan_for file table in plan.coins ≡ 9 + plan.n + plan.rounds * plan.n * 4
the_coins_start_there file table accepts =
    ((a_file_is_accepted_exactly_when_its_plan_keeps_every_rule file table (plan_for file table)).0
    (accepts, refl)).1.coins

-- what a report refuses, it refuses by 12 to 15
pub a_report_refuses_by_12_to_15 : (file : List ℕ)
    → (Accepts file empty_table → ⊥)
    → (12 ≤ (benched_of file).outcome.number) × ((benched_of file).outcome.number ≤ 15)
a_report_refuses_by_12_to_15 file refused =
    let between = a_file_is_refused_by_12_to_16 file empty_table refused in
    (between.0, omega (arith, between.1, a_report_never_gives_16 file))

-- the empty file is refused so
an_empty_file_is_refused : (table : List Head) → Accepts [] table → ⊥
an_empty_file_is_refused table accepts = omega (arith, (an_empty_file table).0, accepts)

pub an_empty_file_is_refused_by_12_to_15 : 12 ≤ (benched_of []).outcome.number
an_empty_file_is_refused_by_12_to_15 = (a_report_refuses_by_12_to_15 [] (an_empty_file_is_refused empty_table)).0

-- 41,001 bytes, and not one more
pub just_41001_bytes : ((file : List ℕ) × (41001 ≤ length file) × Accepts file empty_table)
    × ((file : List ℕ) (table : List Head) → length file ≡ 41002 → Accepts file table → ⊥)
just_41001_bytes =
    let largest = the_largest_file_is_accepted in (
      (largest.0, omega (arith, largest.1), largest.2),
      λ file table long accepts. omega (arith, long, an_accepted_file_has_at_most_41001_bytes file table accepts),
    )

pub an_empty_file_changes_nothing : (table : List Head) → table_after [] table ≡ table
an_empty_file_changes_nothing table = a_refused_file_changes_nothing [] table (an_empty_file_is_refused table)

-- nor does a file of two heads in a table of one, whatever it holds: it is refused by 16, after all else
pub a_table_of_one_is_left : (h : Head) → table_after two_heads (h ∷ []) ≡ h ∷ []
a_table_of_one_is_left h = a_refused_file_changes_nothing two_heads (h ∷ []) too_short
  where
    sixteen : (outcome_of two_heads (h ∷ [])).number ≡ 16
    sixteen = unfold reporting in refl

    too_short : Accepts two_heads (h ∷ []) → ⊥
    too_short zero_given = omega (arith, sixteen, zero_given)

-- two heads in a table of four
pub the_third_and_fourth_are_untouched : drop 2 (table_after two_heads lent) ≡ others
the_third_and_fourth_are_untouched =
    subst (λ (n : ℕ). drop n (table_after two_heads lent) ≡ drop n lent) two (the_others_are_untouched two_heads lent)
  where
    two : (plan_for two_heads lent).n ≡ 2
    two = unfold reporting in refl

pub the_table_still_has_four : length (table_after two_heads lent) ≡ 4
the_table_still_has_four = the_table_keeps_its_length two_heads lent

-- ---- Demand 3, at three heads, two of them for 1; two rounds that lose nothing, and a third that loses everything

abbrev then_all_is_lost : List ℕ
then_all_is_lost =
    (0 ∷ 3 ∷ 1 ∷ 1 ∷ 0 ∷ [])
    ++ (0 ∷ 1 ∷ 2 ∷ [])
    ++ (0 ∷ 3 ∷ [])
    ++ replicate 24 0
    ++ (0 ∷ 0 ∷ 0 ∷ 7 ∷ 0 ∷ 0 ∷ 0 ∷ 7 ∷ 0 ∷ 0 ∷ 0 ∷ 7 ∷ [])
    ++ (0 ∷ 9 ∷ [])
    ++ replicate 9 0

abbrev its_plan : Plan
its_plan = record { number = 0; place = 0; n = 3; needed = 2; rounds = 3; losses = 10; coins = 48 }

plan_is : plan_for then_all_is_lost empty_table ≡ its_plan
unfolding reporting
plan_is = refl

accepts : Accepts then_all_is_lost empty_table
unfolding outcome_of
accepts = ap (λ (p : Plan). p.number) plan_is

three_heads : (plan_for then_all_is_lost empty_table).n ≡ 3
three_heads = ap (λ (p : Plan). p.n) plan_is

three_rounds : (plan_for then_all_is_lost empty_table).rounds ≡ 3
three_rounds = ap (λ (p : Plan). p.rounds) plan_is

pub these_rounds_are_a_run : Run (vote_for then_all_is_lost empty_table) (events_for then_all_is_lost empty_table)
these_rounds_are_a_run = a_bench_run_is_a_run then_all_is_lost empty_table accepts

-- its last head
pub head_2_is_the_votes : head_of (table_after then_all_is_lost empty_table) 2
    ≡ head_in (vote_for then_all_is_lost empty_table) (events_for then_all_is_lost empty_table) 2
head_2_is_the_votes = the_table_holds_the_heads then_all_is_lost empty_table accepts 2 (omega (arith, three_heads))

-- its last tick
pub the_last_tick_is_accepted : let plan = plan_for then_all_is_lost empty_table in
    let before = rounds_in then_all_is_lost plan 2 (starts_in then_all_is_lost plan.n empty_table) in
    let ballots = received (head_of before) (λ k. member k (four_bytes_at (rows_in then_all_is_lost plan 2) (2 * 4))) plan.n in
    tick_number (head_of before 2) ballots (get_or (coins_in then_all_is_lost plan 2) 2 0) ≡ 0
the_last_tick_is_accepted =
    no_tick_of_the_bench_is_refused then_all_is_lost empty_table accepts 2 2
    (omega (arith, three_rounds)) (omega (arith, three_heads))

-- rows of zeros lose nothing
nothing_lost : (rows : List ℕ) → rows ≡ replicate 12 0 → (receiver sender : ℕ) → receiver < 3
    → member sender (four_bytes_at rows (receiver * 4)) ≡ false
nothing_lost rows zeros zero sender h = ap (λ (l : List ℕ). member sender (four_bytes_at l 0)) zeros ∙ member_none sender
nothing_lost rows zeros (suc zero) sender h =
    ap (λ (l : List ℕ). member sender (four_bytes_at l 4)) zeros ∙ member_none sender
nothing_lost rows zeros (suc (suc zero)) sender h =
    ap (λ (l : List ℕ). member sender (four_bytes_at l 8)) zeros ∙ member_none sender
nothing_lost rows zeros (suc (suc (suc k))) sender h = absurd (omega arith)

first_loses_nothing : LosesNothing (vote_for then_all_is_lost empty_table) (channel_for then_all_is_lost empty_table 0)
first_loses_nothing receiver sender r h =
    nothing_lost (rows_in then_all_is_lost (plan_for then_all_is_lost empty_table) 0)
    (ap (λ (p : Plan). rows_in then_all_is_lost p 0) plan_is) receiver sender (omega (arith, r, three_heads))

second_loses_nothing : LosesNothing (vote_for then_all_is_lost empty_table) (channel_for then_all_is_lost empty_table 1)
second_loses_nothing receiver sender r h =
    nothing_lost (rows_in then_all_is_lost (plan_for then_all_is_lost empty_table) 1)
    (ap (λ (p : Plan). rows_in then_all_is_lost p 1) plan_is) receiver sender (omega (arith, r, three_heads))

over_half_lem : let n = (plan_for then_all_is_lost empty_table).n in n < count n (λ s. eqb (get_or then_all_is_lost (2 + s) 0) 1) * 2
unfolding count
over_half_lem =
    subst (λ (n : ℕ). n < count n (λ s. eqb (get_or then_all_is_lost (2 + s) 0) 1) * 2) (sym three_heads) (lit< tt)

-- head 2, who proposed 0, decides 1 as the others do, and has it after the third round
pub all_decide_1 : (s : ℕ) → s < 3 → (head_of (table_after then_all_is_lost empty_table) s).decision ≡ decision_for (value_of 1)
all_decide_1 s h =
    a_file_whose_first_two_rounds_lose_nothing_decides then_all_is_lost empty_table accepts 1 (lit< tt) over_half_lem
    (omega (arith, three_rounds)) first_loses_nothing second_loses_nothing s (omega (arith, h, three_heads))

written : (s : ℕ) → s < 3 → WrittenDecision (head_of (table_after then_all_is_lost empty_table) s)
unfolding value_of
written s h none = let e : ForOne ≡ Unwritten = sym (all_decide_1 s h) ∙ none in let z : ◌≡◌ {A = ℕ} 0 1 = cc in omega arith

pub heads_0_and_2_agree : (head_of (table_after then_all_is_lost empty_table) 0).decision
    ≡ (head_of (table_after then_all_is_lost empty_table) 2).decision
heads_0_and_2_agree =
    no_two_decisions_in_the_table_differ then_all_is_lost empty_table accepts 0 2 (omega (arith, three_heads))
    (omega (arith, three_heads)) (written 0 (lit< tt)) (written 2 (lit< tt))

-- what head 2 decides some head proposed
pub somebody_proposed_it : (t : ℕ) × (t < (plan_for then_all_is_lost empty_table).n)
    × ((head_of (table_after then_all_is_lost empty_table) 2).decision ≡ decision_for (value_of (get_or then_all_is_lost (2 + t) 0)))
somebody_proposed_it =
    each_decision_in_the_table_was_proposed then_all_is_lost empty_table accepts 2 (omega (arith, three_heads))
    (written 2 (lit< tt))

-- ---- What is printed

-- the third round loses nine of nine
pub nine_are_lost : let n = (plan_for then_all_is_lost empty_table).n in lost_to n (channel_for then_all_is_lost empty_table 2) n ≡ 9
nine_are_lost =
    sym (the_figure_counts_what_the_channel_loses then_all_is_lost empty_table accepts 2 (omega (arith, three_rounds)))
    ∙ ap (λ (p : Plan). lost_in (rows_in then_all_is_lost p 2) p.n) plan_is
    ∙ nine
  where
    nine : lost_in (rows_in then_all_is_lost its_plan 2) 3 ≡ 9
    nine = unfold reporting in refl

-- so two of its rounds are good
pub two_rounds_are_good : let plan = plan_for then_all_is_lost empty_table in
    count plan.rounds (λ r. leb (lost_to plan.n (channel_for then_all_is_lost empty_table r) plan.n)
    (bound_of plan.n plan.needed))
    ≡ 2
two_rounds_are_good = sym (the_good_rounds_lose_at_most_the_bound then_all_is_lost empty_table accepts) ∙ printed_good
  where
    good : good_in then_all_is_lost its_plan 3 ≡ 2
    good = unfold reporting in refl

    printed_good : (outcome_of then_all_is_lost empty_table).good ≡ 2
    printed_good = unfold outcome_of in (ap (λ (p : Plan). good_in then_all_is_lost p p.rounds) plan_is ∙ good)

-- the last figure is never below the number of heads whose status is decided
pub never_below_the_decided : (file : List ℕ) (table : List Head)
    → Accepts file table
    → count (plan_for file table).n (λ s. is_decided (head_of (table_after file table) s)) ≤ (outcome_of file table).decided
never_below_the_decided file table accepts =
    let figure = the_last_figure_counts_written_decisions file table accepts in
    omega (
      arith,
      figure.2,
      count_more (plan_for file table).n (λ s. is_decided (head_of (table_after file table) s)) figure.0 (λ s h decided.
          (figure.1 s h).1 (a_decided_head_is_counted file table accepts s h
          ((means_decided (head_of (table_after file table) s)).0 decided))),
    )

-- a test that is counted k times below k holds there throughout
all_counted : (k : ℕ) (p : ℕ → Bool) → count k p ≡ k → (s : ℕ) → s < k → p s ≡ true
unfolding count
all_counted zero p e s h = absurd (omega arith)
all_counted (suc k) p e s h = go (ℕ_discrete s k) (p k) refl e (count_le k p) (all_counted k p)
  where
    go : Dec (s ≡ k) → (t : Bool) → p k ≡ t → count k p + cond t 1 0 ≡ suc k → count k p ≤ k
        → (count k p ≡ k → (t : ℕ) → t < k → p t ≡ true) → p s ≡ true
    go d false last all few below = absurd (omega arith)
    go (yes same) true last all few below = rw same last
    go (no other) true last all few below = below (omega arith) s (omega (arith, h, other))

-- so where the figure is n, every head has written the same bit
pub where_all_are_counted_they_agree : (file : List ℕ) (table : List Head)
    → Accepts file table
    → (outcome_of file table).decided ≡ (plan_for file table).n
    → (s t : ℕ) → s < (plan_for file table).n
    → t < (plan_for file table).n
    → WrittenDecision (head_of (table_after file table) s)
    × ((head_of (table_after file table) s).decision ≡ (head_of (table_after file table) t).decision)
where_all_are_counted_they_agree file table accepts all s t hs ht =
    let figure = the_last_figure_counts_written_decisions file table accepts in
    let every = all_counted (plan_for file table).n figure.0 (sym figure.2 ∙ all) in
    let wrote_s = (figure.1 s hs).0 (every s hs) in
    let wrote_t = (figure.1 t ht).0 (every t ht) in
    (wrote_s, no_two_decisions_in_the_table_differ file table accepts s t hs ht wrote_s wrote_t)

-- "Five wrote it": in W2's vote head 0, whose status went back, has written what head 4 has
pub five_wrote_it : let after = table_after status_put_back empty_table in
    ((head_of after 0).status ≡ Undecided) × WrittenDecision (head_of after 0)
    × ((head_of after 0).decision ≡ (head_of after 4).decision)
five_wrote_it =
    let both = where_all_are_counted_they_agree status_put_back empty_table accepted five 0 4 (omega (arith, heads))
    (omega (arith, heads)) in
    (put_back, both.0, both.1)
  where
    accepted : Accepts status_put_back empty_table
    accepted = unfold reporting in refl

    heads : (plan_for status_put_back empty_table).n ≡ 5
    heads = unfold reporting in refl

    five : (outcome_of status_put_back empty_table).decided ≡ (plan_for status_put_back empty_table).n
    five = unfold reporting in refl

    put_back : (head_of (table_after status_put_back empty_table) 0).status ≡ Undecided
    put_back = unfold reporting in refl

-- a refused file counts nobody, whatever the lent table holds
pub an_empty_file_counts_nobody : (table : List Head) → (outcome_of [] table).decided ≡ 0
an_empty_file_counts_nobody table = a_refused_file_counts_nobody [] table (an_empty_file_is_refused table)

-- two refusals that differ in their place only print differently
pub places_are_told : report_of [] ≡ report_of (0 ∷ []) → ⊥
unfolding reporting
places_are_told e =
    let same = equal_reports_come_from_equal_figures [] (0 ∷ []) (lit< tt) (lit< tt) e in
    omega (arith, ap (λ (o : Outcome). o.place) same.0)

-- equal reports tell every head's last state
pub heads_are_told : (file other : List ℕ)
    → length file < 2 ^ 64
    → length other < 2 ^ 64
    → report_of file ≡ report_of other
    → (s : ℕ) → s < (benched_of file).outcome.n
    → let h = head_of (benched_of file).heads s in
    let k = head_of (benched_of other).heads s in
    (h.phase ≡ k.phase) × (h.value ≡ k.value) × (h.status ≡ k.status) × (h.decision ≡ k.decision)
heads_are_told file other short brief e = (equal_reports_come_from_equal_figures file other short brief e).1

-- 41,002 bytes are enough
pub reading_41002_bytes_is_enough : (file : List ℕ) → report_of (take 41002 file) ≡ report_of file
reading_41002_bytes_is_enough file = the_first_41002_bytes_decide file 41002 (lit≤ tt)

-- the first letter of what is printed for the 42 bytes is an h
pub it_begins_with_heads : get_or (report_of printed_case) 0 0 ≡ 104
it_begins_with_heads = ap (λ (l : List ℕ). get_or l 0 0) the_printed_case_prints
