-- Every theorem of Demands, applied by its name to a case that needs all of it, and every hypothesis met by what its
-- sentence allows. A statement of that page that was hollowed, in what it asks for or in what it says, no longer fits
-- here.
use Prim.Native.Nat.{ℕ, zero, suc, ◌*◌, ◌/◌, ◌%◌, ◌≤◌, ◌<◌}
use mathlib.Core.Path.{◌≡◌, refl, sym, ap, ◌∙◌}
use mathlib.Core.List.{List, [], ◌∷◌}
use mathlib.Core.Bool.{true}
use mathlib.Core.Logic.{◌⊎◌, inl, inr, ◌↔◌}
use native.Mathlib.Omega.{arith}
use lib.ListN.{length, get_or, replicate}
use lib.Dec.{leb, lit<, lit≤}
use borrow.Author.Tests.{lt-leb}
use Rattle.rules.specs.declared.Value.{Value}
use Rattle.rules.specs.declared.Value.TheVariants.{Zero, One, Blank}
use Rattle.rules.specs.declared.Status.TheVariants.{Undecided as u, Decided as d}
use Rattle.rules.specs.declared.Decision.{Decision}
use Rattle.rules.specs.declared.Decision.TheVariants.{One as ForOne, Unwritten}
use Rattle.rules.specs.declared.Ballot.{Ballot}
use Rattle.rules.specs.declared.Head.{Head}
use Rattle.rules.specs.Answer.{Ticked}
use Rattle.rules.specs.Below.{count}
use Rattle.rules.specs.Ballot.{ballot, bytes_of, encode, five_at, ballot_at, read_number, read_ballot}
use Rattle.rules.specs.Head.{decision_code, zero_head, start_number, start_of, ballot_of, send_of}
use Rattle.rules.specs.Tick.{ballots, gathered, tick_number, tick_of}
use Rattle.rules.specs.Record.{record_of, head_at, start_number_from_c, record_after_start, tick_number_from_c, record_after_tick, buffer_after_send}
use Rattle.rules.specs.Given.{Sound, SoundRecord, Hears, WrittenDecision, Differ, HeldOtherwise, SomeBallot, TwoBallots, send_table, tick_table, tick_table_from_c, send_table_from_c}
use Rattle.rules.specs.Algorithm.{Process, line8, lines9to13, at_phase_with}
use Rattle.rules.specs.History.{Handed, head_after, ballots_in, process_after, Shows}
use Rattle.rules.specs.Run.{Vote, Event, head_in, record_in, Sent, Run, NotRefusedBeforeTheLastPhase, EveryHeadDecides}
use Rattle.rules.specs.Round.{Channel, round, LosesNothing}
use Rattle.rules.specs.Sixteen.{start, sixteen}
use Rattle.rules.proofs.Counting.Truth.{never}
use Rattle.rules.proofs.Computed.Computing.{computing}
use Rattle.rules.proofs.Meaning.Given.{passed_over, applies, given_applies}
use Rattle.rules.proofs.Computed.AWorkedRun.{two_of_three}
use Rattle.rules.proofs.Computed.WorkedRunsAreRuns.{two_of_three_lem}
use Rattle.rules.proofs.Rounds.Rounds.{run_proper}
use Rattle.rules.proofs.Computed.LateRun.{three, one_steps, late_and_repeated, late_and_repeated_is_a_run}
use Rattle.rules.proofs.Demands as D

-- ---- Demand 1: from the number to its sentence, and from the sentence to its number

pub thirty_three_heads_do_not_start : start_number 33 0 1 ≡ 1
thirty_three_heads_do_not_start =
    (D.a_start_is_refused_by_the_first_number_that_applies 33 0 1 1).1 (applies (inl (λ heads. omega (arith, heads.1))))

pub four_bytes_are_no_ballot : read_number 3 (1 ∷ 1 ∷ 1 ∷ 1 ∷ []) ≡ 5
four_bytes_are_no_ballot =
    (D.a_reading_is_refused_by_the_first_number_that_applies 3 (1 ∷ 1 ∷ 1 ∷ 1 ∷ []) 5).1
    (passed_over (λ f. f (lit≤ tt, lit≤ tt)) (applies (λ five. omega (arith, five))))

pub nineteen_bytes_do_not_start : start_number_from_c (replicate 19 0) 3 0 1 ≡ 3
nineteen_bytes_do_not_start =
    (D.a_start_from_c_is_refused_by_the_first_number_that_applies (replicate 19 0) 3 0 1 3).1
    (passed_over (λ x. elim x [ inl f ↦ f (lit≤ tt, lit≤ tt) | inr f ↦ f (lit< tt) ])
    (passed_over (λ x. omega (arith, x)) (applies (λ twenty. omega (arith, twenty)))))

-- a line that is the only one of its number
only_line : {A B : Type 0} → A ⊎ B → (B → ⊥) → A
only_line (inl a) none = a
only_line (inr b) none = absurd (none b)

not_zero : (k : ℕ) → suc k ≡ 0 → ⊥
not_zero k e = omega (arith, e)

pub the_zero_head_is_not_sound : Sound zero_head → ⊥
unfolding computing
the_zero_head_is_not_sound =
    let given = (D.a_sending_is_refused_by_the_first_number_that_applies zero_head 3).0 refl in
    (only_line (given_applies 3 0 (send_table zero_head) (not_zero 2) given) (λ none. none)).0

pub nothing_is_no_record : SoundRecord [] → ⊥
unfolding computing
nothing_is_no_record =
    let given = (D.a_ballot_from_c_is_refused_by_the_first_number_that_applies [] (replicate 5 0) 3).0 refl in
    (only_line (given_applies 3 0 (send_table_from_c [] (replicate 5 0)) (not_zero 2) given) (λ none. none)).0

-- case 13 of the sixteen, by value and from C
abbrev differing : List ℕ
differing = encode (ballot 1 1 Zero u ∷ ballot 1 1 One u ∷ [])

abbrev Eight : Head → List ℕ → Type 0
Eight h l = TwoBallots l Differ ⊎ SomeBallot l (λ i. HeldOtherwise h (ballot_at l i))

pub two_ballots_of_case_13_differ : Eight (start 3) differing
unfolding computing
two_ballots_of_case_13_differ =
    let given = (D.a_tick_is_refused_by_the_first_number_that_applies (start 3) differing 0 8).0 refl in
    (only_line (given_applies 8 0 (tick_table (start 3) differing 0) (not_zero 7) given) (λ none. none)).0

pub the_same_from_c : Eight (head_at (record_of (start 3))) differing
unfolding computing
the_same_from_c =
    let r = record_of (start 3) in
    let given = (D.a_tick_from_c_is_refused_by_the_first_number_that_applies r differing 0 8).0 refl in
    (only_line (given_applies 8 0 (tick_table_from_c (record_of (start 3)) differing 0) (not_zero 7) given) (λ none. none)).0

-- what a refusal leaves
is_eight : tick_number (start 3) differing 0 ≡ 8
unfolding computing
is_eight = refl

pub the_head_as_it_came : (tick_of (start 3) differing 0).head ≡ start 3
the_head_as_it_came =
    D.a_refused_tick_returns_the_head_as_it_came (start 3) differing 0 (λ e. omega (arith, e, is_eight))

pub the_record_as_it_came : record_after_tick (record_of (start 3)) differing 0 ≡ record_of (start 3)
the_record_as_it_came =
    D.a_refused_tick_changes_no_byte (record_of (start 3)) differing 0
    (λ e. omega (arith, e, D.tick_number_on_a_record (start 3) differing 0, is_eight))

pub nineteen_bytes_stay : record_after_start (replicate 19 0) 3 0 1 ≡ replicate 19 0
nineteen_bytes_stay =
    D.a_refused_start_changes_no_byte (replicate 19 0) 3 0 1 (λ e. omega (arith, e, nineteen_bytes_do_not_start))

pub four_bytes_become_zeros : buffer_after_send [] (replicate 4 255) ≡ replicate 4 0
unfolding computing
four_bytes_become_zeros = D.a_refused_ballot_leaves_zeros [] (replicate 4 255) (λ e. not_zero 2 e)

-- head 1 sends 1 at phase 1 to one of three: it is heard, after the tick too, since one of three is no quorum; head 2
-- is not
abbrev from_one : List ℕ
from_one = encode (ballot 1 1 One u ∷ [])

pub head_1_is_heard : Hears (gathered (start 3) from_one) One 1
unfolding computing
head_1_is_heard =
    (D.whom_a_head_hears_after_step_2 (start 3) from_one 0 refl One 1).1 (inr (0, lit< tt, (refl, refl, refl)))

pub head_1_is_still_heard : Hears (tick_of (start 3) from_one 0).head One 1
unfolding computing
head_1_is_still_heard =
    (D.whom_a_head_hears_after_a_tick (start 3) from_one 0 refl One 1).1 (refl, inr (0, lit< tt, (refl, refl, refl)))

pub head_2_is_not_heard : Hears (tick_of (start 3) from_one 0).head One 2 → ⊥
unfolding computing
head_2_is_not_heard m =
    elim ((D.whom_a_head_hears_after_a_tick (start 3) from_one 0 refl One 2).0 m).1 [
      | inl x ↦ never x.1
      | inr x ↦ none x.0 x.1 x.2.1
    ]
  where
    none : (i : ℕ) → i < 1 → (ballot_at from_one i).sender ≡ 2 → ⊥
    none zero h e = omega (arith, e)
    none (suc i) h e = omega arith

-- ---- Demand 2

abbrev tick : List Ballot → Handed
tick list = record { bytes = encode list; coin = 0 }

-- cases 2 and 7
abbrev first : Handed
first = tick (ballot 0 1 One u ∷ ballot 1 1 One u ∷ [])

abbrev second : Handed
second = tick (ballot 0 2 One u ∷ ballot 1 2 One u ∷ [])

-- a tick that is refused between them is passed over
abbrev with_one_refused : List Handed
with_one_refused = second ∷ tick (ballot 0 9 One u ∷ []) ∷ first ∷ []

pub a_refused_tick_is_passed_over : Shows (head_after 3 0 1 with_one_refused) (process_after 3 0 1 (second ∷ first ∷ []))
unfolding computing
a_refused_tick_is_passed_over = D.each_accepted_tick_does_what_algorithm_1_does 3 0 1 refl with_one_refused

-- what `Shows` says: two heads that show one process are alike, hear the same heads, and send the same ballot
pub shown_alike : {h k : Head} {i : Process} → Shows h i → Shows k i
    → (h.n ≡ k.n) × (h.own ≡ k.own) × (h.phase ≡ k.phase) × (h.value ≡ k.value) × (h.status ≡ k.status)
    × (h.decision ≡ k.decision) × ((v : Value) (s : ℕ) → Hears h v s ↔ Hears k v s)
shown_alike a b = (
  a.n ∙ sym b.n,
  a.own ∙ sym b.own,
  a.phase ∙ sym b.phase,
  a.value ∙ sym b.value,
  a.status ∙ sym b.status,
  a.decision ∙ sym b.decision,
  λ v s. (λ m. (b.heard v s).1 ((a.heard v s).0 m), λ m. (a.heard v s).1 ((b.heard v s).0 m)),
)

pub shown_alike_sends_alike : (h k : Head) (i : Process) → Shows h i → Shows k i → ballot_of h ≡ ballot_of k
shown_alike_sends_alike h k i a b =
    D.a_head_sends_what_line_6_sends h i a ∙ sym (D.a_head_sends_what_line_6_sends k i b)

-- case 6: line 25 finds 1 and not 0; case 7: line 22 finds a majority of 1 and none of 0
abbrev split : Handed
split = tick (ballot 0 1 One u ∷ ballot 1 1 One u ∷ ballot 2 1 Zero u ∷ [])

abbrev one_of_three : Handed
one_of_three = tick (ballot 0 2 Blank u ∷ ballot 1 2 One u ∷ ballot 2 2 Blank u ∷ [])

abbrev at_line14 : ℕ → Handed → Handed → Process
at_line14 n before now = lines9to13 (line8 (process_after n 0 1 (before ∷ [])) (ballots_in now.bytes))

pub line_25_finds_one_bit : 1 ≤ at_phase_with (at_line14 4 split one_of_three) Zero → ⊥
unfolding computing
line_25_finds_one_bit z = (D.both_bits_are_never_there 4 0 1 refl (split ∷ []) one_of_three refl).heard refl z (lit≤ tt)

pub line_22_finds_one_majority : 3 < at_phase_with (at_line14 3 first second) Zero * 2 → ⊥
unfolding computing
line_22_finds_one_majority z = (D.both_bits_are_never_there 3 0 1 refl (first ∷ []) second refl).majority z (lit< tt)

-- a record that is ticked twice, whatever with: the head's record
pub ticked_twice : (h : Head) (l m : List ℕ) (coin other : ℕ)
    → record_after_tick (record_after_tick (record_of h) l coin) m other
    ≡ record_of (tick_of (tick_of h l coin).head m other).head
ticked_twice h l m coin other =
    ap (λ (r : List ℕ). record_after_tick r m other) (D.tick_on_a_record h l coin)
    ∙ D.tick_on_a_record (tick_of h l coin).head m other

-- bytes that are started and then ticked
pub started_then_ticked : (r l : List ℕ) (n own proposal coin : ℕ)
    → start_number_from_c r n own proposal ≡ 0
    → tick_number_from_c (record_after_start r n own proposal) l coin ≡ 0
    → head_at (record_after_tick (record_after_start r n own proposal) l coin)
    ≡ (tick_of (start_of n own proposal).head l coin).head
started_then_ticked r l n own proposal coin started ticked =
    D.a_tick_from_c_is_the_tick (record_after_start r n own proposal) l coin ticked
    ∙ ap (λ (h : Head). (tick_of h l coin).head) (D.a_start_from_c_is_the_start r n own proposal started)

-- what any head of any run sends is read as its ballot
pub what_a_run_sends_reads_back : (vote : Vote) (events : List Event) → Run vote events → (s : ℕ) → s < vote.n
    → read_ballot (head_in vote events s).n (send_of (head_in vote events s)).bytes ≡ ballot_of (head_in vote events s)
what_a_run_sends_reads_back vote events run s h =
    (D.every_ballot_written_reads_back (head_in vote events s) (D.heads_stay_sound vote events run s h)).2

pub a_start_s_ballot_from_c : read_ballot 3 (buffer_after_send (record_of (start 3)) (replicate 5 255)) ≡ ballot 0 1 One u
unfolding computing
a_start_s_ballot_from_c = (D.every_ballot_written_from_c_reads_back (record_of (start 3)) (replicate 5 255) refl).1

-- all bytes are meant, up to 255
pub one_writing : (k l : List ℕ) → ((i : ℕ) → get_or k i 0 < 256) → ((i : ℕ) → get_or l i 0 < 256)
    → read_number 32 k ≡ 0 → read_number 2 l ≡ 0 → read_ballot 32 k ≡ read_ballot 2 l → k ≡ l
one_writing k l small few = D.accepted_bytes_are_the_only_ones 32 2 k l small few

-- two lists that any heads accept and that hold one ballot at an index have the same bytes there
pub one_writing_in_lists : (h g : Head) (k l : List ℕ) (coin other : ℕ)
    → ((i : ℕ) → get_or k i 0 < 256) → ((i : ℕ) → get_or l i 0 < 256)
    → tick_number h k coin ≡ 0 → tick_number g l other ≡ 0 → (i j : ℕ) → i < ballots k → j < ballots l
    → ballot_at k i ≡ ballot_at l j → five_at k i ≡ five_at l j
one_writing_in_lists h g k l coin other small few a b i j p q same =
    D.a_tick_takes_ballots_by_their_only_bytes h k coin small a i p
    ∙ ap bytes_of same
    ∙ sym (D.a_tick_takes_ballots_by_their_only_bytes g l other few b j q)

-- ---- Demand 3

-- "in any order, with lists of at most 64 ballots that these heads sent earlier in the vote .. and any coin bits": each
-- such tick goes on with a run
pub any_such_tick_goes_on : (vote : Vote) (events : List Event) (e : Event) → Run vote events → e.head < vote.n
    → length e.bytes % 5 ≡ 0 → length e.bytes ≤ 320
    → ((i : ℕ) → i < length e.bytes / 5 → (b : Ballot) × Sent vote events b × (five_at e.bytes i ≡ bytes_of b))
    → e.coin < 2 → Run vote (e ∷ events)
any_such_tick_goes_on vote events e run low whole few sent bit =
    (run, record { head = low; whole = whole; few = omega (arith, few); sent = sent; bit = bit })

-- and every proper vote begins one
pub any_proper_vote_begins : (n : ℕ) (proposal : ℕ → ℕ) → 2 ≤ n → n ≤ 32 → ((s : ℕ) → s < n → proposal s < 2)
    → Run (record { n = n; proposal = proposal }) []
any_proper_vote_begins n proposal many few bits = record { heads = (many, few); bits = bits }

-- the run of 64 late and repeated ballots: its tick is not refused, its heads do what Algorithm 1 does
pub a_late_tick_is_not_refused : NotRefusedBeforeTheLastPhase three (one_steps ∷ []) late_and_repeated
a_late_tick_is_not_refused =
    D.no_tick_is_refused_before_the_last_phase three (one_steps ∷ []) late_and_repeated late_and_repeated_is_a_run

pub head_1_of_it : Shows (head_in three (one_steps ∷ []) 1)
    (process_after 3 1 1 (record { bytes = one_steps.bytes; coin = 0 } ∷ []))
unfolding computing
head_1_of_it =
    D.each_head_of_a_run_does_what_algorithm_1_does three (one_steps ∷ []) late_and_repeated_is_a_run.0 1 (lit< tt)

-- a round in which every ballot is lost goes on with it
abbrev silence : Channel
silence = record { lost = λ receiver sender. true; coin = λ s. 1 }

pub silence_goes_on : Run three (round three (late_and_repeated ∷ one_steps ∷ []) silence)
silence_goes_on =
    D.rounds_are_runs three (late_and_repeated ∷ one_steps ∷ []) silence late_and_repeated_is_a_run (λ s h. lit< tt)

-- the decisions that the firmware's records hold never differ: of any vote, at any point, in any bytes
pub records_never_differ : (vote : Vote) (events : List Event) → Run vote events → (lent : ℕ → List ℕ)
    → ((s : ℕ) → s < vote.n → length (lent s) ≡ 20)
    → (s t : ℕ) → s < vote.n → t < vote.n
    → get_or (record_in vote lent events s) 6 0 < 2 → get_or (record_in vote lent events t) 6 0 < 2
    → get_or (record_in vote lent events s) 6 0 ≡ get_or (record_in vote lent events t) 6 0
records_never_differ vote events run lent twenty s t hs ht ws wt =
    let a = byte s hs in
    let b = byte t ht in
    let sa = written (head_in vote events s).decision (omega (arith, a, ws)) in
    let sb = written (head_in vote events t).decision (omega (arith, b, wt)) in
    a ∙ ap decision_code (D.no_two_decisions_differ vote events run s t hs ht sa sb) ∙ sym b
  where
    byte : (s : ℕ) → s < vote.n
        → get_or (record_in vote lent events s) 6 0 ≡ decision_code (head_in vote events s).decision
    byte s h =
        let proper = run_proper vote events run in
        ap (λ (r : List ℕ). get_or r 6 0) (D.records_hold_the_heads vote proper lent twenty events s h)

    written : (decision : Decision) → decision_code decision < 2 → decision ≡ Unwritten → ⊥
    written decision low e = omega (arith, low, ap decision_code e)

-- where all propose 1, no decision is for 0
pub nobody_proposed_0 : (events : List Event) → Run three events → (s : ℕ) → s < 3
    → WrittenDecision (head_in three events s)
    → (head_in three events s).decision ≡ ForOne
unfolding computing
nobody_proposed_0 events run s h w = (D.each_was_proposed three events run s h w).2

-- forged ballots do not change a written decision either
pub forged_ballots_change_no_decision : (vote : Vote) (events : List Event) (forged : List ℕ) (coin s : ℕ) → s < vote.n
    → WrittenDecision (head_in vote events s)
    → (head_in vote (record { head = s; bytes = forged; coin = coin } ∷ events) s).decision
    ≡ (head_in vote events s).decision
forged_ballots_change_no_decision vote events forged coin s h w =
    D.a_written_one_stays vote events (record { head = s; bytes = forged; coin = coin } ∷ []) s h w

-- two of three propose 0, and the channel loses what nobody sends
abbrev beyond : Channel
beyond = record { lost = λ receiver sender. leb 3 sender; coin = λ s. 1 }

loses_nothing : LosesNothing (two_of_three 0 1) beyond
loses_nothing receiver sender r s = lt-leb 3 sender s

pub two_of_three_by_the_theorem : let vote = two_of_three 0 1 in
    EveryHeadDecides vote (round vote (round vote [] beyond) beyond) 0
unfolding count
two_of_three_by_the_theorem =
    let proper = two_of_three_lem 0 1 (lit< tt) (lit< tt) in
    D.two_lossless_rounds_decide (two_of_three 0 1) proper 0 (lit< tt) (lit< tt) beyond beyond loses_nothing loses_nothing
    (λ s h. lit< tt) (λ s h. lit< tt)

-- ---- the sixteen: the last of them

pub case_16 : tick_of (start 3) (encode (ballot 1 5 Zero d ∷ ballot 2 5 One u ∷ [])) 0
    ≡ record { number = 11; index = 0; head = start 3 }
unfolding sixteen
case_16 = ap (λ (list : List Ticked). get_or list 16 (record { number = 0; index = 0; head = zero_head })) D.sixteen_ticks
