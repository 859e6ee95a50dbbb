-- The bench. Read this page first: each theorem below answers the sentence above it, over the definitions that the
-- promises of crate `run` cite. Specs: Refusal and Rules for what a file must be, Section and Plan for how it is read,
-- Table and Vote for the run, Figures and Report for what is printed. TheBenchApplied applies each of them.
use Prim.Native.Nat.{ℕ, ◌+◌, ◌*◌, ◌≤◌, ◌<◌, ◌^◌}
use mathlib.Core.Path.{◌≡◌}
use mathlib.Core.List.{List}
use mathlib.Core.Bool.{Bool, true}
use mathlib.Core.Logic.{◌↔◌}
use lib.ListN.{length, get_or, take, drop}
use lib.Dec.{leb, eqb}
use Rattle.rules.specs.declared.Status.TheVariants.{Decided}
use Rattle.rules.specs.declared.Head.{Head}
use Rattle.rules.specs.Below.{count}
use Rattle.rules.specs.Ballot.{value_of}
use Rattle.rules.specs.Head.{decision_for}
use Rattle.rules.specs.Tick.{tick_number}
use Rattle.rules.specs.Record.{four_bytes_at}
use Rattle.rules.specs.Given.{WrittenDecision, Given}
use Rattle.rules.specs.Run.{head_in, Run}
use Rattle.file.specs.Plan.{Plan, plan_for}
use Rattle.file.specs.Rules.{KeepsEveryRule}
use Rattle.file.specs.Refusal.{file_refusals}
use Rattle.file.specs.Table.{head_of, starts_in, rows_in, coins_in, rounds_in, table_after}
use Rattle.file.specs.Vote.{vote_for, channel_for, events_for, lost_to}
use Rattle.file.specs.Figures.{lost_in, bound_of, outcome_of, Accepts}
use Rattle.file.specs.Benched.{empty_table, benched_of}
use Rattle.file.specs.Report.{report_of, SameState}
use Rattle.file.specs.PrintedCase.{printed_case, printed}
use Rattle.file.proofs.Reading.Accepting.{refused_by_first, accepted_exactly_when, refused_by_12_to_16, never_16}
use Rattle.file.proofs.Reading.Accepting.{at_most_41001, largest_accepted, refused_changes_nothing}
use Rattle.file.proofs.Reading.Accepting.{refused_counts_nobody}
use Rattle.file.proofs.Running.Placing.{after_length, after_drop}
use Rattle.file.proofs.Running.TheTable.{table_run, table_heads, table_ticks, table_agrees, table_proposed}
use Rattle.file.proofs.Running.TheTable.{table_decides, figure_counts, good_counts}
use Rattle.file.proofs.Running.TheTable.{decided_counts, decided_wrote}
use Rattle.file.proofs.Reading.FirstBytes.{the_first_bytes_decide}
use Rattle.file.proofs.Printing.EqualReports.{equal_reports}
use Rattle.file.proofs.PrintedCase.{it_prints}
use Rattle.rules.specs.Round.{LosesNothing, received}
use Rattle.rules.specs.Heard.{member}

-- ---- Demand 1

-- "Bad input is refused by the first number that applies": document 01's numbers 12 to 16 and their places, line by
-- line (specs/Refusal)
pub a_file_is_refused_by_the_first_number_that_applies : (file : List ℕ) (table : List Head) (number place : ℕ)
    → (((outcome_of file table).number ≡ number) × ((outcome_of file table).place ≡ place))
    ↔ Given number place (file_refusals file (length table))
a_file_is_refused_by_the_first_number_that_applies = refused_by_first

-- a file is accepted exactly when it keeps every rule of document 01, and its plan is the one that does (specs/Rules)
pub a_file_is_accepted_exactly_when_its_plan_keeps_every_rule : (file : List ℕ) (table : List Head) (plan : Plan)
    → (Accepts file table × (plan_for file table ≡ plan)) ↔ KeepsEveryRule file (length table) plan
a_file_is_accepted_exactly_when_its_plan_keeps_every_rule = accepted_exactly_when

-- and a refused one is refused by a number from 12 to 16
pub a_file_is_refused_by_12_to_16 : (file : List ℕ) (table : List Head)
    → (Accepts file table → ⊥)
    → (12 ≤ (outcome_of file table).number) × ((outcome_of file table).number ≤ 16)
a_file_is_refused_by_12_to_16 = refused_by_12_to_16

-- a report's table has room for every vote: "16 .. table shorter than n" is never printed
pub a_report_never_gives_16 : (file : List ℕ) → (benched_of file).outcome.number ≡ 16 → ⊥
a_report_never_gives_16 = never_16

-- "The largest file is 41,001 bytes."
pub an_accepted_file_has_at_most_41001_bytes : (file : List ℕ) (table : List Head)
    → Accepts file table
    → length file ≤ 41001
an_accepted_file_has_at_most_41001_bytes = at_most_41001

pub the_largest_file_is_accepted : (file : List ℕ) × (length file ≡ 41001) × Accepts file empty_table
the_largest_file_is_accepted = largest_accepted

-- "Refused: nothing in the table changes."
pub a_refused_file_changes_nothing : (file : List ℕ) (table : List Head)
    → (Accepts file table → ⊥)
    → table_after file table ≡ table
a_refused_file_changes_nothing = refused_changes_nothing

-- "after a run the first n are the heads and the others are untouched"
pub the_others_are_untouched : (file : List ℕ) (table : List Head)
    → drop (plan_for file table).n (table_after file table) ≡ drop (plan_for file table).n table
the_others_are_untouched = after_drop

pub the_table_keeps_its_length : (file : List ℕ) (table : List Head) → length (table_after file table) ≡ length table
the_table_keeps_its_length = after_length

-- ---- Demand 3

-- the rounds of an accepted file are a run of demand 3
pub a_bench_run_is_a_run : (file : List ℕ) (table : List Head)
    → Accepts file table
    → Run (vote_for file table) (events_for file table)
a_bench_run_is_a_run = table_run

-- and the first n heads of the table are its heads
pub the_table_holds_the_heads : (file : List ℕ) (table : List Head)
    → Accepts file table
    → (s : ℕ) → s < (plan_for file table).n
    → head_of (table_after file table) s ≡ head_in (vote_for file table) (events_for file table) s
the_table_holds_the_heads = table_heads

-- so no tick of it is refused: head s in round r, with the ballots not lost to it and its coin
pub no_tick_of_the_bench_is_refused : (file : List ℕ) (table : List Head)
    → Accepts file table
    → (r s : ℕ) → r < (plan_for file table).rounds
    → s < (plan_for file table).n
    → let plan = plan_for file table in
    let before = rounds_in file plan r (starts_in file plan.n table) in
    let ballots = received (head_of before) (λ k. member k (four_bytes_at (rows_in file plan r) (s * 4))) plan.n in
    tick_number (head_of before s) ballots (get_or (coins_in file plan r) s 0) ≡ 0
no_tick_of_the_bench_is_refused = table_ticks

-- "No two decisions differ"
pub no_two_decisions_in_the_table_differ : (file : List ℕ) (table : List Head)
    → Accepts file table
    → (s t : ℕ) → s < (plan_for file table).n
    → t < (plan_for file table).n
    → WrittenDecision (head_of (table_after file table) s)
    → WrittenDecision (head_of (table_after file table) t)
    → (head_of (table_after file table) s).decision ≡ (head_of (table_after file table) t).decision
no_two_decisions_in_the_table_differ = table_agrees

-- "each was proposed by some head"
pub each_decision_in_the_table_was_proposed : (file : List ℕ) (table : List Head)
    → Accepts file table
    → (s : ℕ) → s < (plan_for file table).n
    → WrittenDecision (head_of (table_after file table) s)
    → (t : ℕ) × (t < (plan_for file table).n)
    × ((head_of (table_after file table) s).decision ≡ decision_for (value_of (get_or file (2 + t) 0)))
each_decision_in_the_table_was_proposed = table_proposed

-- "If over half propose one bit and the first ticks are two of document 01's rounds that lose nothing, every head
-- decides that bit in them": what they decide is there after the whole file
pub a_file_whose_first_two_rounds_lose_nothing_decides : (file : List ℕ) (table : List Head)
    → Accepts file table
    → (bit : ℕ) → bit < 2
    → (plan_for file table).n < count (plan_for file table).n (λ s. eqb (get_or file (2 + s) 0) bit) * 2
    → 2 ≤ (plan_for file table).rounds
    → LosesNothing (vote_for file table) (channel_for file table 0)
    → LosesNothing (vote_for file table) (channel_for file table 1)
    → (s : ℕ) → s < (plan_for file table).n
    → (head_of (table_after file table) s).decision ≡ decision_for (value_of bit)
a_file_whose_first_two_rounds_lose_nothing_decides = table_decides

-- ---- What is printed

-- "its lost ballots, of n × n": of the very channel that the run uses
pub the_figure_counts_what_the_channel_loses : (file : List ℕ) (table : List Head)
    → Accepts file table
    → (r : ℕ) → r < (plan_for file table).rounds
    → let n = (plan_for file table).n in
    lost_in (rows_in file (plan_for file table) r) n ≡ lost_to n (channel_for file table r) n
the_figure_counts_what_the_channel_loses = figure_counts

-- "A round is good if its lost ballots .. are at most" the bound
pub the_good_rounds_lose_at_most_the_bound : (file : List ℕ) (table : List Head)
    → Accepts file table
    → let plan = plan_for file table in
    (outcome_of file table).good
    ≡ count plan.rounds (λ r. leb (lost_to plan.n (channel_for file table r) plan.n)
    (bound_of plan.n plan.needed))
the_good_rounds_lose_at_most_the_bound = good_counts

-- W2: "The last figure counts heads whose decision is written.": it is the count of a test that is true of a head below
-- n exactly when the decision of that head, as the table holds it, is written
pub the_last_figure_counts_written_decisions : (file : List ℕ) (table : List Head)
    → Accepts file table
    → (written : ℕ → Bool)
    × ((s : ℕ) → s < (plan_for file table).n → (written s ≡ true) ↔ WrittenDecision (head_of (table_after file table) s))
    × ((outcome_of file table).decided ≡ count (plan_for file table).n written)
the_last_figure_counts_written_decisions = decided_counts

-- a head whose status is decided is among them
pub a_decided_head_is_counted : (file : List ℕ) (table : List Head)
    → Accepts file table
    → (s : ℕ) → s < (plan_for file table).n
    → (head_of (table_after file table) s).status ≡ Decided
    → WrittenDecision (head_of (table_after file table) s)
a_decided_head_is_counted = decided_wrote

-- of a refused file nobody is
pub a_refused_file_counts_nobody : (file : List ℕ) (table : List Head)
    → (Accepts file table → ⊥)
    → (outcome_of file table).decided ≡ 0
a_refused_file_counts_nobody = refused_counts_nobody

-- the printed bytes determine what is printed: number and place, n, need, bound, rounds, good, decided, and each head's
-- phase, value, status and decision. A slice of bytes is shorter than 2 ^ 64.
pub equal_reports_come_from_equal_figures : (file other : List ℕ)
    → length file < 2 ^ 64
    → length other < 2 ^ 64
    → report_of file ≡ report_of other
    → ((benched_of file).outcome ≡ (benched_of other).outcome)
    × ((s : ℕ) → s < (benched_of file).outcome.n
    → SameState (head_of (benched_of file).heads s) (head_of (benched_of other).heads s))
equal_reports_come_from_equal_figures = equal_reports

-- "reads standard input": the first 41,002 bytes decide
pub the_first_41002_bytes_decide : (file : List ℕ) (m : ℕ)
    → 41002 ≤ m
    → report_of (take m file) ≡ report_of file
the_first_41002_bytes_decide = the_first_bytes_decide

-- "For the 42 bytes .. it prints"
pub the_printed_case_prints : report_of printed_case ≡ printed
the_printed_case_prints = it_prints
