-- The demands. Read this page first: each theorem below answers the sentence above it, over the definitions that the
-- engine's promises cite. Specs: Given and Record for demand 1, Algorithm and History for demand 2, Run and Round for
-- demand 3. How each theorem is used stands in DemandsApplied.
use Prim.Native.Nat.{ℕ, ◌*◌, ◌<◌}
use mathlib.Core.Path.{◌≡◌}
use mathlib.Core.List.{List, [], ◌∷◌, map}
use mathlib.Core.Bool.{false}
use mathlib.Core.Logic.{◌↔◌}
use lib.ListN.{length, replicate}
use lib.Dec.{eqb}
use Rattle.rules.specs.declared.Value.{Value}
use Rattle.rules.specs.declared.Head.{Head}
use Rattle.rules.specs.Below.{count}
use Rattle.rules.specs.Ballot.{bytes_of, five_at, Bytes, ballot_at, read_number, read_ballot}
use Rattle.rules.specs.Head.{start_number, start_of, ballot_of, send_of}
use Rattle.rules.specs.Tick.{ballots, gathered, quorum, tick_number, tick_of}
use Rattle.rules.specs.Record.{record_of, head_at, start_number_from_c, record_after_start, tick_number_from_c, record_after_tick, send_number_from_c, buffer_after_send}
use Rattle.rules.specs.Given.{Given, Sound, Hears, HeldOrSent, start_table, read_table, send_table, tick_table, start_table_from_c, tick_table_from_c, send_table_from_c}
use Rattle.rules.specs.Algorithm.{Process, line6, line8, lines9to13}
use Rattle.rules.specs.History.{Handed, head_after, accepted_of, ballots_in, process_after, Shows, OneBitIsThere}
use Rattle.rules.specs.Run.{Vote, Proper, Event, head_in, ticks_of, record_in, Run, NoTwoDecisionsDiffer, EachWasProposed, AWrittenOneStays, NotRefusedBeforeTheLastPhase, EveryHeadDecides}
use Rattle.rules.specs.Round.{Channel, round, LosesNothing, CoinsAreBits}
use Rattle.rules.proofs.Meaning.Given.{start_given, read_given, send_given, tick_given}
use Rattle.rules.proofs.OneTick.Senders.{hears_exactly, tick_hears}
use Rattle.rules.proofs.Layouts.FromC.{starts_given, ticks_given, sends_given, started_record_holds, ticked_record_holds, ballot_from_c_reads_back}
use Rattle.rules.proofs.Meaning.Answers.{refused_tick, refused_tick_from_c, refused_start_from_c, refused_send_from_c}
use Rattle.rules.proofs.Layouts.Ballots.{sent_reads_back, one_ballot_one_writing}
use Rattle.rules.proofs.Layouts.Encoding.{tick_takes_its_bytes}
use Rattle.rules.proofs.Layouts.RecordsOfAVote as R
use Rattle.rules.proofs.Paper.AsAlgorithm.{as_algorithm_1, sends_line_6, one_bit_is_there}
use Rattle.rules.proofs.Paper.HistoryInARun.{as_algorithm_1_in_a_run}
use Rattle.rules.proofs.Rounds.Rounds.{round_is_run}
use Rattle.rules.proofs.Rounds.TwoRounds.{two_rounds_decide}
use Rattle.rules.proofs.Undivided.OneEvent.{event_number}
use Rattle.rules.proofs.Undivided.Runs.{kept_run}
use Rattle.rules.proofs.Undivided.Decisions.{decision_stays}
use Rattle.rules.proofs.Undivided.Proposed.{decisions_agree, decision_proposed}
use Rattle.rules.specs.Sixteen.{Said, sixteen}
use Rattle.rules.proofs.Computed.Sixteen.{each_tick_gives_what_is_said}

-- ---- Demand 1

-- "Bad input is refused by the first number that applies": document 01's table, line by line (specs/Given)
pub a_start_is_refused_by_the_first_number_that_applies : (n own proposal number : ℕ)
    → (start_number n own proposal ≡ number) ↔ Given number 0 (start_table n own proposal)
a_start_is_refused_by_the_first_number_that_applies = start_given

pub a_reading_is_refused_by_the_first_number_that_applies : (n : ℕ) (bytes : List ℕ) (number : ℕ)
    → (read_number n bytes ≡ number) ↔ Given number 0 (read_table n bytes)
a_reading_is_refused_by_the_first_number_that_applies = read_given

pub a_sending_is_refused_by_the_first_number_that_applies : (h : Head) (number : ℕ)
    → ((send_of h).number ≡ number) ↔ Given number 0 (send_table h)
a_sending_is_refused_by_the_first_number_that_applies = send_given

pub a_tick_is_refused_by_the_first_number_that_applies : (h : Head) (l : List ℕ) (coin number : ℕ)
    → (tick_number h l coin ≡ number) ↔ Given number 0 (tick_table h l coin)
a_tick_is_refused_by_the_first_number_that_applies = tick_given

-- what rows 9 to 11 of a tick's table say they find "after step 2": whom the head hears then, and after the whole tick
pub whom_a_head_hears_after_step_2 : (h : Head) (l : List ℕ) (coin : ℕ)
    → tick_number h l coin ≡ 0
    → (v : Value) (s : ℕ) → Hears (gathered h l) v s ↔ HeldOrSent h l v s
whom_a_head_hears_after_step_2 = hears_exactly

pub whom_a_head_hears_after_a_tick : (h : Head) (l : List ℕ) (coin : ℕ)
    → tick_number h l coin ≡ 0
    → (v : Value) (s : ℕ) → Hears (tick_of h l coin).head v s ↔ ((quorum (gathered h l) ≡ false) × HeldOrSent h l v s)
whom_a_head_hears_after_a_tick = tick_hears

-- the same from C
pub a_start_from_c_is_refused_by_the_first_number_that_applies : (r : List ℕ) (n own proposal number : ℕ)
    → (start_number_from_c r n own proposal ≡ number) ↔ Given number 0 (start_table_from_c r n own proposal)
a_start_from_c_is_refused_by_the_first_number_that_applies = starts_given

pub a_tick_from_c_is_refused_by_the_first_number_that_applies : (r l : List ℕ) (coin number : ℕ)
    → (tick_number_from_c r l coin ≡ number) ↔ Given number 0 (tick_table_from_c r l coin)
a_tick_from_c_is_refused_by_the_first_number_that_applies = ticks_given

pub a_ballot_from_c_is_refused_by_the_first_number_that_applies : (r buffer : List ℕ) (number : ℕ)
    → (send_number_from_c r buffer ≡ number) ↔ Given number 0 (send_table_from_c r buffer)
a_ballot_from_c_is_refused_by_the_first_number_that_applies = sends_given

-- "A refused tick returns the head as it came"
pub a_refused_tick_returns_the_head_as_it_came : (h : Head) (l : List ℕ) (coin : ℕ)
    → (tick_number h l coin ≡ 0 → ⊥)
    → (tick_of h l coin).head ≡ h
a_refused_tick_returns_the_head_as_it_came = refused_tick

-- "no byte of a lent record .. changes"
pub a_refused_tick_changes_no_byte : (r l : List ℕ) (coin : ℕ)
    → (tick_number_from_c r l coin ≡ 0 → ⊥)
    → record_after_tick r l coin ≡ r
a_refused_tick_changes_no_byte = refused_tick_from_c

pub a_refused_start_changes_no_byte : (r : List ℕ) (n own proposal : ℕ)
    → (start_number_from_c r n own proposal ≡ 0 → ⊥)
    → record_after_start r n own proposal ≡ r
a_refused_start_changes_no_byte = refused_start_from_c

-- "either refusal leaves every byte of that buffer zero", document 01
pub a_refused_ballot_leaves_zeros : (r buffer : List ℕ)
    → (send_number_from_c r buffer ≡ 0 → ⊥)
    → buffer_after_send r buffer ≡ replicate (length buffer) 0
a_refused_ballot_leaves_zeros = refused_send_from_c

-- ---- Demand 2

-- "Each accepted tick does what Algorithm 1 .. does with all ballots heard so far": for every sequence of ticks from a
-- start, those that were refused passed over
pub each_accepted_tick_does_what_algorithm_1_does : (n own proposal : ℕ)
    → start_number n own proposal ≡ 0
    → (ticks : List Handed)
    → Shows (head_after n own proposal ticks) (process_after n own proposal (accepted_of n own proposal ticks))
each_accepted_tick_does_what_algorithm_1_does = as_algorithm_1

-- line 6 of the paper: "A head sends its present phase, value and status", document 01
pub a_head_sends_what_line_6_sends : (h : Head) (i : Process) → Shows h i → ballot_of h ≡ line6 i
a_head_sends_what_line_6_sends = sends_line_6

-- "choices fixed as in document 01": where the paper takes or draws a bit in an accepted tick, 0 and 1 are never both
-- there
pub both_bits_are_never_there : (n own proposal : ℕ)
    → start_number n own proposal ≡ 0
    → (ticks : List Handed) (t : Handed)
    → tick_number (head_after n own proposal ticks) t.bytes t.coin ≡ 0
    → let i = process_after n own proposal (accepted_of n own proposal ticks) in
    OneBitIsThere (lines9to13 (line8 i (ballots_in t.bytes)))
both_bits_are_never_there = one_bit_is_there

-- "Start, tick and ballot are called from C on such records", document 01: an entry does on a head's record what the
-- engine does on the head, and gives the same number, accepted or refused
pub tick_number_on_a_record : (h : Head) (l : List ℕ) (coin : ℕ)
    → tick_number_from_c (record_of h) l coin ≡ tick_number h l coin
tick_number_on_a_record = R.tick_number_on_a_record

pub tick_on_a_record : (h : Head) (l : List ℕ) (coin : ℕ)
    → record_after_tick (record_of h) l coin ≡ record_of (tick_of h l coin).head
tick_on_a_record = R.tick_on_a_record

-- and whatever an accepted entry was lent, what it leaves holds the head that the engine gives
pub a_start_from_c_is_the_start : (r : List ℕ) (n own proposal : ℕ)
    → start_number_from_c r n own proposal ≡ 0
    → head_at (record_after_start r n own proposal) ≡ (start_of n own proposal).head
a_start_from_c_is_the_start = started_record_holds

pub a_tick_from_c_is_the_tick : (r l : List ℕ) (coin : ℕ)
    → tick_number_from_c r l coin ≡ 0
    → head_at (record_after_tick r l coin) ≡ (tick_of (head_at r) l coin).head
a_tick_from_c_is_the_tick = ticked_record_holds

-- "Every ballot written reads back as written"
pub every_ballot_written_reads_back : (h : Head)
    → Sound h
    → ((send_of h).number ≡ 0)
    × (read_number h.n (send_of h).bytes ≡ 0)
    × (read_ballot h.n (send_of h).bytes ≡ ballot_of h)
every_ballot_written_reads_back = sent_reads_back

pub every_ballot_written_from_c_reads_back : (r buffer : List ℕ)
    → send_number_from_c r buffer ≡ 0
    → (read_number (head_at r).n (buffer_after_send r buffer) ≡ 0)
    × (read_ballot (head_at r).n (buffer_after_send r buffer) ≡ ballot_of (head_at r))
every_ballot_written_from_c_reads_back = ballot_from_c_reads_back

-- "every accepted ballot's bytes are the only ones for it": of one ballot read, and of the ballots that a tick takes
pub accepted_bytes_are_the_only_ones : (n m : ℕ) (k l : List ℕ)
    → Bytes k
    → Bytes l
    → read_number n k ≡ 0
    → read_number m l ≡ 0
    → read_ballot n k ≡ read_ballot m l
    → k ≡ l
accepted_bytes_are_the_only_ones = one_ballot_one_writing

pub a_tick_takes_ballots_by_their_only_bytes : (h : Head) (l : List ℕ) (coin : ℕ)
    → Bytes l
    → tick_number h l coin ≡ 0
    → (i : ℕ)
    → i < ballots l
    → five_at l i ≡ bytes_of (ballot_at l i)
a_tick_takes_ballots_by_their_only_bytes = tick_takes_its_bytes

-- ---- Demand 3

-- "under demand 2"
pub each_head_of_a_run_does_what_algorithm_1_does : (vote : Vote) (events : List Event)
    → Run vote events
    → (s : ℕ)
    → s < vote.n
    → let ticks = accepted_of vote.n s (vote.proposal s) (ticks_of s events) in
    Shows (head_in vote events s) (process_after vote.n s (vote.proposal s) ticks)
each_head_of_a_run_does_what_algorithm_1_does = as_algorithm_1_in_a_run

-- what the firmware holds: n records of 20 bytes, started and ticked from C, hold the heads of the run at every point
pub records_hold_the_heads : (vote : Vote)
    → Proper vote
    → (lent : ℕ → List ℕ)
    → ((s : ℕ) → s < vote.n → length (lent s) ≡ 20)
    → (events : List Event) (s : ℕ)
    → s < vote.n
    → record_in vote lent events s ≡ record_of (head_in vote events s)
records_hold_the_heads = R.records_hold_the_heads

-- "No two decisions differ"
pub no_two_decisions_differ : (vote : Vote) (events : List Event)
    → Run vote events
    → NoTwoDecisionsDiffer vote events
no_two_decisions_differ = decisions_agree

-- "each was proposed by some head"
pub each_was_proposed : (vote : Vote) (events : List Event)
    → Run vote events
    → EachWasProposed vote events
each_was_proposed = decision_proposed

-- "a written one stays", whatever comes later
pub a_written_one_stays : (vote : Vote) (events later : List Event) → AWrittenOneStays vote events later
a_written_one_stays = decision_stays

-- "no tick is refused unless its step needs phase 65,536"
pub no_tick_is_refused_before_the_last_phase : (vote : Vote) (events : List Event) (e : Event)
    → Run vote (e ∷ events)
    → NotRefusedBeforeTheLastPhase vote events e
no_tick_is_refused_before_the_last_phase vote events e run =
    event_number vote events e (kept_run vote events run.0) run.1

-- every head of every run is sound
pub heads_stay_sound : (vote : Vote) (events : List Event)
    → Run vote events
    → (s : ℕ)
    → s < vote.n
    → Sound (head_in vote events s)
heads_stay_sound vote events run = (kept_run vote events run).sound

-- "If over half propose one bit and the first ticks are two of document 01's rounds that lose nothing, every head
-- decides that bit in them."
pub two_lossless_rounds_decide : (vote : Vote)
    → Proper vote
    → (bit : ℕ)
    → bit < 2
    → vote.n < count vote.n (λ s. eqb (vote.proposal s) bit) * 2
    → (first second : Channel)
    → LosesNothing vote first
    → LosesNothing vote second
    → CoinsAreBits vote first
    → CoinsAreBits vote second
    → EveryHeadDecides vote (round vote (round vote [] first) second) bit
two_lossless_rounds_decide = two_rounds_decide

-- document 01's rounds, whatever they lose, are such runs
pub rounds_are_runs : (vote : Vote) (events : List Event) (channel : Channel)
    → Run vote events
    → CoinsAreBits vote channel
    → Run vote (round vote events channel)
rounds_are_runs = round_is_run

-- ---- Document 01, 'Sixteen ticks proved of the rules'

pub sixteen_ticks : map (λ (c : Said). c.gives) sixteen ≡ map (λ (c : Said). c.after) sixteen
sixteen_ticks = each_tick_gives_what_is_said
