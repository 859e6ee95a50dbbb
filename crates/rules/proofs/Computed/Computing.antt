-- What the computed examples share: ballots as document 01 writes them, the rules opened, and the way from a computed
-- head to what the demands say of it.
use Prim.Native.Nat.{ℕ, zero, suc, ◌<◌}
use mathlib.Core.Path.{◌≡◌, sym, ap, subst, ◌∙◌}
use mathlib.Core.Bool.{Bool, false}
use mathlib.Core.Logic.{◌↔◌}
use native.Mathlib.Decide.{dec_lt}
use native.Mathlib.Omega.{arith}
use lib.Dec.{leb}
use Rattle.rules.specs.declared.Value.{Value}
use Rattle.rules.specs.declared.Value.TheVariants.{Zero, One, Blank}
use Rattle.rules.specs.declared.Head.{Head}
use Rattle.rules.specs.Number.{first_that_applies}
use Rattle.rules.specs.Below.{first, count}
use Rattle.rules.specs.Ballot.{value_of, status_of, ballot_at, class_of, allowed, obeys, breaks_rule, not_heads, read_number, read_ballot}
use Rattle.rules.specs.Heard.{member, set_of, size, apart, heard, says}
use Rattle.rules.specs.Head.{stands_under, decision_fits, sets_fit, phase_fits, sound, start_number, start_of, send_of}
use Rattle.rules.specs.Tick.{leader, moved, heard_with, added, gathered, quorum, majority, step_value, step_status, stepped, settled, not_list, same_state, own_otherwise, differ, held_otherwise, contradicts, both_heard, phases_end, decides_otherwise, tick_number, offender, tick_index, tick_of}
use Rattle.rules.specs.Choice.{ahead, bit_with}
use Rattle.rules.specs.Given.{Hears, Says}
use Rattle.rules.specs.Algorithm.{Process, some_in, lines9to13, lines16to20, lines22to24, lines25to29, lines14to32, lines33to35, clock_tick}
use Rattle.rules.specs.History.{Shows}
use Rattle.rules.proofs.Counting.Truth.{Means, never, means_as, means_and, means_le, means_eq, false_not}
use Rattle.rules.proofs.Counting.Sets.{member_high, member_set_of, set_of_lt}
use Rattle.rules.proofs.Meaning.Meanings.{means_value}
use Rattle.rules.proofs.Paper.HeardSoFar.{Among, means_among}
use Rattle.rules.specs.Record.{is_record, decision_of, head_at, not_sound, start_number_from_c, record_after_start, tick_number_from_c, tick_index_from_c, record_after_tick, send_number_from_c, buffer_after_send}

-- under `unfolding computing` a start, a tick and a clock tick of Algorithm 1 compute
unfoldable pub computing : Unit {0}
unfolding first_that_applies first count value_of status_of ballot_at class_of allowed obeys breaks_rule not_heads read_number read_ballot set_of size apart says stands_under decision_fits sets_fit phase_fits sound start_number start_of send_of ahead leader moved heard_with added gathered quorum majority bit_with step_value step_status stepped settled not_list same_state own_otherwise differ held_otherwise contradicts both_heard phases_end decides_otherwise tick_number offender tick_index tick_of is_record decision_of head_at not_sound start_number_from_c record_after_start tick_number_from_c tick_index_from_c record_after_tick send_number_from_c buffer_after_send lines9to13 lines16to20 lines22to24 lines25to29 lines14to32 lines33to35 clock_tick
computing = tt

-- P of each number below n, one by one
abbrev pub Each : ℕ → (ℕ → Type 0) → Type 0
Each zero P = Unit {0}
Each (suc k) P = Each k P × P k

pub each : (n : ℕ) (P : ℕ → Type 0) → Each n P → (s : ℕ) → s < n → P s
each zero P e s h = absurd (omega arith)
each (suc k) P e s h = go (dec_lt s k) (each k P e.0 s)
  where
    go : Dec (s < k) → (s < k → P s) → P s
    go (yes l) below = below l
    go (no l) below = let same : k ≡ s = omega arith in subst P same e.1

-- the senders of a process's ballots of its phase with v, as a set
abbrev pub senders_with : Process → Value → ℕ
senders_with i v = set_of 32 (λ s. some_in i.heard_so_far (says i.phase v s))

-- `Shows` of a computed process i: the sets are compared as numbers, and no number of a sender is above 31
pub shows : {h : Head} {p : Process} (i : Process) → p ≡ i → h.n ≡ i.n → h.own ≡ i.own → h.phase ≡ i.phase → h.value ≡ i.value → h.status ≡ i.status → h.decision ≡ i.decision
    → h.zeros ≡ senders_with i Zero → h.ones ≡ senders_with i One → h.blanks ≡ senders_with i Blank
    → some_in i.heard_so_far (λ b. leb 32 b.sender) ≡ false → Shows h p
unfolding says
shows {h} i same heads own phase value status decision zeros ones blanks few =
    subst (λ (p : Process). Shows h p) (sym same)
    (record {
      n = heads;
      own = own;
      phase = phase;
      value = value;
      status = status;
      decision = decision;
      heard = λ v s. by v s (dec_lt s 32);
    })
  where
    is : (v : Value) → heard h v ≡ senders_with i v
    is Zero = zeros
    is One = ones
    is Blank = blanks

    test : (v : Value) (s : ℕ) → Means (some_in i.heard_so_far (says i.phase v s)) (Among i.heard_so_far (Says i.phase v s))
    test v s =
        means_among
        (λ b.
        means_as (λ r. (r.0, r.1.0, r.1.1)) (λ r. (r.0, (r.1, r.2)))
        (means_and (means_eq b.phase i.phase) (means_and (means_eq b.sender s) (means_value b.value v))))

    by : (v : Value) (s : ℕ) → Dec (s < 32) → Hears h v s ↔ Among i.heard_so_far (Says i.phase v s)
    by v s (yes l) =
        subst (λ (t : Bool). Means t (Among i.heard_so_far (Says i.phase v s))) (sym (ap (member s) (is v) ∙ member_set_of 32 _ s l)) (test v s)
    by v s (no l) = (
      λ e. never (sym (ap (member s) (is v) ∙ member_high 32 s _ (set_of_lt 32 _) (omega arith)) ∙ e),
      λ r. absurd (false_not (means_among (λ b. means_le 32 b.sender)) few (r.0, r.1, omega (arith, r.2.1))),
    )
