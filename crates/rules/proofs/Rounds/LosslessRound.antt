-- A round that loses nothing, where all heads are at one phase, undecided, with nothing written or heard: every head
-- hears all heads and steps.
use Prim.Native.Nat.{ℕ, ◌+◌, ◌*◌, ◌%◌, ◌^◌, ◌<◌}
use mathlib.Core.Path.{◌≡◌, refl, sym, ap, subst, ◌∙◌}
use mathlib.Core.List.{List}
use mathlib.Core.Logic.{◌⊎◌, inl, inr}
use native.Mathlib.Decide.{ℕ_discrete}
use native.Mathlib.Omega.{arith}
use lib.ListN.{length}
use borrow.Author.Tests.{ne_eqb}
use Rattle.rules.specs.declared.Value.{Value}
use Rattle.rules.specs.declared.Value.TheVariants.{Zero, One, Blank}
use Rattle.rules.specs.declared.Status.TheVariants.{Undecided}
use Rattle.rules.specs.declared.Decision.TheVariants.{Unwritten}
use Rattle.rules.specs.declared.Ballot.{Ballot}
use Rattle.rules.specs.declared.Head.{Head}
use Rattle.rules.specs.Ballot.{value_code, value_of, bytes_of, ballot_at, five_at}
use Rattle.rules.specs.Heard.{member, heard}
use Rattle.rules.specs.Head.{any_heard, ballot_of}
use Rattle.rules.specs.Tick.{ballots, moved, heard_with, added, gathered, step_value, step_status, risen, stepped, settled, tick_number, tick_of}
use Rattle.rules.specs.Choice.{bit_with}
use Rattle.rules.specs.Given.{Heads, Obeys, Breaks, Hears, Sound, OwnOtherwise, Differ, SomeBallot, HeardAtAll, DecidesOtherwise, Says}
use Rattle.rules.specs.Run.{Vote, Event, head_in}
use Rattle.rules.specs.Round.{Channel, received, round, LosesNothing, CoinsAreBits}
use Rattle.rules.proofs.Counting.Truth.{Means, means_as, means_same, false_not}
use Rattle.rules.proofs.Counting.Sets.{set_same, set_of_lt}
use Rattle.rules.proofs.Meaning.Given.{means_breaks, tick_given, passed_over, none_applies}
use Rattle.rules.proofs.Meaning.Meanings.{hears_nobody}
use Rattle.rules.proofs.Undivided.TheBit.{coin_bit, bit_kept}
use Rattle.rules.proofs.OneTick.Senders.{Moves, stays, copies, moves, means_heard}
use Rattle.rules.proofs.Layouts.Encoding.{five_reads, five_stands}
use Rattle.rules.proofs.Rounds.HearingAll.{having, hearing, having_lt, means_having, all_heard}
use Rattle.rules.proofs.Rounds.Rounds.{ticked_once, lossless_length, lossless_five}

-- head s of n at a phase with its value, undecided, with nothing written or heard
abbrev pub level : ℕ → ℕ → (ℕ → Value) → ℕ → Head
level n phase value s =
    record { n = n; own = s; phase = phase; value = value s; status = Undecided; decision = Unwritten; zeros = 0; ones = 0; blanks = 0 }

-- n heads may be at a phase with these values, and step from it
pub record Level (n phase : ℕ) (value : ℕ → Value) : Type 0 where
  pub heads : Heads n
  pub early : phase + 1 < 65536
  pub rules : (s : ℕ) → s < n → Obeys phase (value_code (value s)) 0
  pub even : phase % 2 ≡ 0 → (s t : ℕ) → s < n → t < n → value s ≡ Zero → value t ≡ One → ⊥

-- ---- one head's tick, with a list of bytes that holds every head's ballot at its sender's number

-- a step from an undecided head without a decision never decides otherwise
fits : (g : Head) (coin : ℕ) → coin < 2 → g.status ≡ Undecided → g.decision ≡ Unwritten → DecidesOtherwise (risen g coin) → ⊥
fits g coin bit undecided unwritten d = elim d.1 [ inl blank ↦ go (ℕ_discrete (g.phase % 2) 1) blank | inr other ↦ other.0 unwritten ]
  where
    go : Dec (g.phase % 2 ≡ 1) → step_value g coin ≡ Blank → ⊥
    go (yes o) blank =
        let same : step_status g ≡ g.status = unfold step_status in rw (ne_eqb (g.phase % 2) 0 (λ q. omega arith)) in
        let status = d.0 in
        let z : ◌≡◌ {A = ℕ} 0 1 = cc in omega arith
    go (no o) blank =
        let drawn : step_value g coin ≡ bit_with (any_heard g) (value_of coin) = unfold step_value in rw (ne_eqb (g.phase % 2) 1 o) in
        bit_kept (any_heard g) (value_of coin) (coin_bit coin bit) (sym drawn ∙ blank)

-- what head s gets in such a round: a coin, and bytes with every head's ballot at the index that is its number
record Gets (n phase : ℕ) (value : ℕ → Value) (s : ℕ) (l : List ℕ) (coin : ℕ) : Type 0 where
  at : Level n phase value
  low : s < n
  bit : coin < 2
  whole : length l ≡ n * 5
  five : (i : ℕ) → i < n → five_at l i ≡ bytes_of (ballot_of (level n phase value i))

module _ {n phase : ℕ} {value : ℕ → Value} {s : ℕ} {l : List ℕ} {coin : ℕ} (g : Gets n phase value s l coin) where
  -- the list holds n ballots
  all : (i : ℕ) → i < ballots l → i < n
  all i b = omega arith

  -- the one at an index is that of the head of that number
  reads : (i : ℕ) → i < ballots l → ballot_at l i ≡ ballot_of (level n phase value i)
  reads i b = five_reads l i (ballot_of (level n phase value i)) (g.five i (all i b))

  -- nobody is above the head, so step 2 leaves it
  stays_there : moved (level n phase value s) l ≡ level n phase value s
  stays_there = go (moves (level n phase value s) l)
    where
      go : Moves (level n phase value s) l → moved (level n phase value s) l ≡ level n phase value s
      go (stays q f) = q
      go (copies i b q u f) = absurd (omega (arith, ap (λ (k : Ballot). k.phase) (reads i b)))

  -- it held nobody
  nobody : (v : Value) (t : ℕ) → Hears (level n phase value s) v t → ⊥
  nobody = hears_nobody (level n phase value s) refl refl refl

  -- it hears every head with the value that it has
  hears : (v : Value) (t : ℕ) → t < 32 → Means (member t (heard (gathered (level n phase value s) l) v)) ((t < n) × (value t ≡ v))
  hears v t b = means_as there back (rw stays_there at (means_heard (level n phase value s) l v t b))
    where
      Heard : Type 0
      Heard = Hears (level n phase value s) v t ⊎ SomeBallot l (λ i. Says phase v t (ballot_at l i))

      there : Heard → (t < n) × (value t ≡ v)
      there (inl x) = absurd (nobody v t x)
      there (inr x) =
          let same : x.0 ≡ t = sym (ap (λ (k : Ballot). k.sender) (reads x.0 x.1)) ∙ x.2.1 in
          (subst (λ (i : ℕ). i < n) same (all x.0 x.1), ap value (sym same) ∙ sym (ap (λ (k : Ballot). k.value) (reads x.0 x.1)) ∙ x.2.2)

      back : (t < n) × (value t ≡ v) → Heard
      back r =
          let here : t < ballots l = omega (arith, r.0) in
          let e = reads t here in
          inr (t, here, (ap (λ (k : Ballot). k.phase) e, ap (λ (k : Ballot). k.sender) e, ap (λ (k : Ballot). k.value) e ∙ r.1))

  -- so it has heard everybody after steps 1 and 2
  hears_all : gathered (level n phase value s) l ≡ hearing n phase value s
  unfolding gathered added heard_with
  hears_all =
      λ i.
      record {
        n = (stays_there i).n;
        own = (stays_there i).own;
        phase = (stays_there i).phase;
        value = (stays_there i).value;
        status = (stays_there i).status;
        decision = (stays_there i).decision;
        zeros = set Zero (set_of_lt 32 _) i;
        ones = set One (set_of_lt 32 _) i;
        blanks = set Blank (set_of_lt 32 _) i;
      }
    where
      set : (v : Value) → heard (gathered (level n phase value s) l) v < 2 ^ 32 → heard (gathered (level n phase value s) l) v ≡ having n value v
      set v b =
          set_same 32 (heard (gathered (level n phase value s) l) v) (having n value v) b (having_lt n value v)
          (λ t c. means_same (hears v t c) (means_having n value v g.at.heads.1 t))

  -- and steps
  steps : stepped (gathered (level n phase value s) l) coin ≡ risen (hearing n phase value s) coin
  unfolding stepped
  steps = rw (hears_all, all_heard n phase value s g.at.heads.1 (omega (arith, g.low)))

  -- it was sound
  sound_before : Sound (level n phase value s)
  sound_before =
      record {
        heads = g.at.heads;
        own = g.low;
        rules = g.at.rules s g.low;
        decided = λ q. absurd (let z : ◌≡◌ {A = ℕ} 0 1 = cc in omega arith);
        decision = λ f. absurd (f refl);
        disjoint = λ v w t p q. absurd (nobody v t p);
        members = λ v t p. absurd (nobody v t p);
        odd = λ o t p. nobody Blank t p;
        even = λ o t u p q. nobody Zero t p;
        own_heard = λ v p. absurd (nobody v s p);
      }

  -- no ballot breaks a rule
  obeyed : (i : ℕ) → i < ballots l → Breaks n l i → ⊥
  obeyed i b =
      false_not (means_breaks n l i)
      (five_stands l i (ballot_of (level n phase value i)) (g.five i (all i b)) (record { sender = all i b; rules = g.at.rules i (all i b) }))

  -- its own ballot is its state
  own_is : (i : ℕ) → i < ballots l → OwnOtherwise (level n phase value s) (ballot_at l i) → ⊥
  own_is i b x = go (rw (reads i b) at x)
    where
      go : OwnOtherwise (level n phase value s) (ballot_of (level n phase value i)) → ⊥
      go y =
          elim y.1 [
            | inl above ↦ omega arith
            | inr other ↦ elim other.1 [ inl f ↦ f (ap value y.0) | inr f ↦ f refl ]
          ]

  -- no two ballots are of one sender
  once : (i j : ℕ) → i < ballots l → j < i → Differ (ballot_at l j) (ballot_at l i) → ⊥
  once i j b c d = let same = rw (reads j (omega arith), reads i b) at d.0 in omega arith

  -- so no number but 0 is given
  accepted : tick_number (level n phase value s) l coin ≡ 0
  accepted =
      (tick_given (level n phase value s) l coin 0).1
      (passed_over (λ f. f sound_before)
      (passed_over (λ x. omega arith)
      (passed_over (λ x. elim x [ inl f ↦ f (omega arith) | inr y ↦ omega (arith, g.at.heads.1) ])
      (passed_over (λ x. obeyed x.0 x.1 x.2)
      (passed_over (λ x. own_is x.0 x.1 x.2)
      (passed_over
      (λ x. elim x [ inl y ↦ once y.0 y.2.0 y.1 y.2.1 y.2.2 | inr y ↦ nobody y.2.1.0 _ y.2.1.1 ])
      (passed_over (λ x. both (rw hears_all at x))
      (passed_over (λ x. omega (arith, x.1, ap (λ (k : Head). k.phase) hears_all, g.at.early))
      (passed_over (λ x. fits (hearing n phase value s) coin g.bit refl refl (rw steps at x)) none_applies)))))))))
    where
      both : (phase % 2 ≡ 0) × HeardAtAll (hearing n phase value s) Zero × HeardAtAll (hearing n phase value s) One → ⊥
      both x =
          let few = g.at.heads.1 in
          let z = (means_having n value Zero few x.1.0).0 x.1.1 in
          let o = (means_having n value One few x.2.0).0 x.2.1 in
          g.at.even x.0 x.1.0 x.2.0 z.0 o.0 z.1 o.1

  -- and the head rises from what it heard
  ticked : (tick_of (level n phase value s) l coin).head ≡ settled (risen (hearing n phase value s) coin)
  unfolding tick_of
  ticked = rw accepted (ap settled steps)

-- ---- the round

-- all heads of a vote are at the phase, each with its value
pub record AllAt (vote : Vote) (events : List Event) (phase : ℕ) (value : ℕ → Value) : Type 0 where
  pub at : Level vote.n phase value
  pub states : (s : ℕ) → s < vote.n → head_in vote events s ≡ level vote.n phase value s

-- after a round that loses nothing no tick was refused, and every head has heard everybody and risen
pub lossless_round : {vote : Vote} {before : List Event} {phase : ℕ} {value : ℕ → Value} → AllAt vote before phase value
    → (channel : Channel) → LosesNothing vote channel → CoinsAreBits vote channel → (s : ℕ) → s < vote.n
    → (tick_number (head_in vote before s) (received (head_in vote before) (channel.lost s) vote.n) (channel.coin s) ≡ 0)
    × (head_in vote (round vote before channel) s ≡ settled (risen (hearing vote.n phase value s) (channel.coin s)))
lossless_round {vote} {before} {phase} {value} all channel none bits s h = (
  rw (all.states s h) (accepted gets),
  ticked_once vote before channel vote.n s h ∙ rw (all.states s h) (ticked gets),
)
  where
    gets : Gets vote.n phase value s (received (head_in vote before) (channel.lost s) vote.n) (channel.coin s)
    gets =
        record {
          at = all.at;
          low = h;
          bit = bits s h;
          whole = lossless_length vote before channel none s h;
          five = λ i b. lossless_five vote before channel none s h i b ∙ ap (λ (k : Head). bytes_of (ballot_of k)) (all.states i b);
        }
