-- One allowed event of a run: what its tick finds, and that it is not refused unless its step needs phase 65,536.
use Prim.Native.Nat.{ℕ, suc, ◌+◌, ◌*◌, ◌%◌, ◌≤◌, ◌<◌}
use mathlib.Core.Path.{◌≡◌, refl, sym, ap, subst, ◌∙◌}
use mathlib.Core.List.{List, [], ◌∷◌}
use mathlib.Core.Bool.{Bool, true, false, cond, ◌||◌}
use mathlib.Core.Logic.{◌⊎◌, inl, inr}
use native.Mathlib.Decide.{dec_lt, ℕ_discrete}
use native.Mathlib.Omega.{arith}
use lib.ListN.{length}
use lib.Dec.{ltb, eqb, lit<}
use borrow.Author.Tests.{eq-eqb, ne_eqb, ltb-true, eqb-true}
use Rattle.rules.specs.declared.Value.{Value}
use Rattle.rules.specs.declared.Value.TheVariants.{Zero, One, Blank}
use Rattle.rules.specs.declared.Status.{Status}
use Rattle.rules.specs.declared.Status.TheVariants.{Decided}
use Rattle.rules.specs.declared.Decision.TheVariants.{Unwritten}
use Rattle.rules.specs.declared.Ballot.{Ballot}
use Rattle.rules.specs.declared.Head.{Head}
use Rattle.rules.specs.Below.{count}
use Rattle.rules.specs.Ballot.{value_code, value_of, ballot_at, breaks_rule}
use Rattle.rules.specs.Heard.{member, size, heard}
use Rattle.rules.specs.Head.{decision_for, any_heard, ballot_of}
use Rattle.rules.specs.Tick.{ballots, moved, added, gathered, quorum, majority, step_value, step_status, risen, stepped, tick_number}
use Rattle.rules.specs.Choice.{bit_with}
use Rattle.rules.specs.Given.{◌exactly_when◌, Given, Heads, Breaks, Hears, Sound, OwnOtherwise, Differ, HeldOtherwise, SomeBallot, TwoBallots, HeardAtAll, Quorum, DecidesOtherwise, HeldOrSent}
use Rattle.rules.specs.Run.{Vote, Event, head_in, Sent, Allowed, NotRefusedBeforeTheLastPhase}
use Rattle.rules.proofs.Counting.Truth.{Means, means_self, means_or, means_lt, false_not}
use Rattle.rules.proofs.Counting.Sets.{means_any}
use Rattle.rules.proofs.Meaning.Given.{means_breaks, tick_given, passed_over, applies, none_applies}
use Rattle.rules.proofs.Meaning.Accepted.{Stands}
use Rattle.rules.proofs.OneTick.Senders.{Moves, stays, copies, moves, gathered_same, heard_from}
use Rattle.rules.proofs.Undivided.TheBit.{Bit, zero_bit, one_bit, coin_bit, bit_kept, bit_with_lem, bit_from}
use Rattle.rules.proofs.Counting.Counting.{count_within, count_either, meet}
use Rattle.rules.proofs.Undivided.Ledger.{Kind, lock, settle, Rule, Voted, Justified, Ledger, Fits, ledger_with, settle_one_bit, decided_bit, decided_agree}
use Rattle.rules.proofs.Layouts.Encoding.{five_reads, five_stands}
use Rattle.rules.proofs.Rounds.Rounds.{sent_now}

-- the two-phase rule: odd phases lock, even phases settle
abbrev pub kind_of : ℕ → Kind
kind_of p = cond (eqb (p % 2) 1) lock settle

pub kind_of_odd : (p : ℕ) → p % 2 ≡ 1 → kind_of p ≡ lock
kind_of_odd p o = rw (eq-eqb (p % 2) 1 o)

pub kind_of_even : (p : ℕ) → p % 2 ≡ 0 → kind_of p ≡ settle
kind_of_even p o = rw (ne_eqb (p % 2) 1 (λ q. omega arith))

apart : lock ≡ settle → ⊥
apart e = let z : ◌≡◌ {A = ℕ} 0 1 = cc in omega arith

pub lock_odd : (p : ℕ) → kind_of p ≡ lock → p % 2 ≡ 1
lock_odd p e = elim (ℕ_discrete (p % 2) 1) [ yes o ↦ o | no o ↦ absurd (apart (sym e ∙ kind_of_even p (omega (arith, o)))) ]

pub settle_even : (p : ℕ) → kind_of p ≡ settle → p % 2 ≡ 0
settle_even p e = elim (ℕ_discrete (p % 2) 0) [ yes o ↦ o | no o ↦ absurd (apart (sym (kind_of_odd p (omega (arith, o))) ∙ e)) ]

abbrev pub two_phases : Rule
two_phases = record { kind = kind_of; first = refl; before = λ p l e. kind_of_odd p (let z = settle_even (suc p) e in omega arith) }

-- what holds at every world of a run
pub record Kept (vote : Vote) (events : List Event) : Type 1 where
  pub heads : Heads vote.n
  pub number : (s : ℕ) → s < vote.n → ((head_in vote events s).n ≡ vote.n) × ((head_in vote events s).own ≡ s)
  pub sound : (s : ℕ) → s < vote.n → Sound (head_in vote events s)
  pub stands : (b : Ballot) → Sent vote events b → Stands vote.n b
  -- a head has sent nothing of a later phase than its own
  pub past : (b : Ballot) → Sent vote events b → b.phase ≤ (head_in vote events b.sender).phase
  -- whom it hears has voted so
  pub heard : (s : ℕ) → s < vote.n → (v : Value) (t : ℕ) → Hears (head_in vote events s) v t → Voted (Sent vote events) t (head_in vote events s).phase v
  -- what it decided was sent decided
  pub decision : (s : ℕ) → s < vote.n → ((head_in vote events s).decision ≡ Unwritten → ⊥) → (b : Ballot) × Sent vote events b × (b.status ≡ Decided) × ((head_in vote events s).decision ≡ decision_for b.value)
  pub low : (b : Ballot) → Sent vote events b → b.phase ≤ 65535
  -- first ballots carry proposals
  pub proposed : (b : Ballot) → Sent vote events b → b.phase ≡ 1 → (t : ℕ) × (t < vote.n) × (b.value ≡ value_of (vote.proposal t))
  pub ledger : Ledger two_phases vote.n (Sent vote events)

module _ (vote : Vote) (events : List Event) (e : Event) (K : Kept vote events) (A : Allowed vote events e) where
  abbrev pub before : Head
  before = head_in vote events e.head

  abbrev pub after12 : Head
  after12 = gathered before e.bytes

  abbrev pub after3 : Head
  after3 = stepped after12 e.coin

  -- the ballots of the list were sent
  pub listed : (i : ℕ) → i < ballots e.bytes → Sent vote events (ballot_at e.bytes i)
  listed i h = let r = A.sent i h in subst (Sent vote events) (sym (five_reads e.bytes i r.0 r.2)) r.1

  unbroken : (i : ℕ) → i < ballots e.bytes → breaks_rule before.n e.bytes i ≡ false
  unbroken i h =
      let r = A.sent i h in
      ap (λ (n : ℕ). breaks_rule n e.bytes i) (K.number e.head A.head).0 ∙ five_stands e.bytes i r.0 r.2 (K.stands r.0 r.1)

  -- two sent ballots of one sender and phase do not differ
  never_differ : (b c : Ballot) → Sent vote events b → Sent vote events c → Differ b c → ⊥
  never_differ b c sb sc d =
      let r = K.ledger.one b c sb sc d.0 d.1 in
      elim d.2 [ inl f ↦ f r.0 | inr f ↦ f r.1 ]

  -- steps 1 and 2: phase, value and status are those of a sent ballot; the phase does not fall
  pub moved_state : (b : Ballot) × Sent vote events b × (b.phase ≡ (moved before e.bytes).phase) × (b.value ≡ (moved before e.bytes).value) × (b.status ≡ (moved before e.bytes).status) × ((b ≡ ballot_of before) ⊎ (before.phase < b.phase))
  moved_state = go (moves before e.bytes)
    where
      go : Moves before e.bytes → (b : Ballot) × Sent vote events b × (b.phase ≡ (moved before e.bytes).phase) × (b.value ≡ (moved before e.bytes).value) × (b.status ≡ (moved before e.bytes).status) × ((b ≡ ballot_of before) ⊎ (before.phase < b.phase))
      go (stays q f) = (ballot_of before, sent_now vote events e.head A.head, ap (λ (k : Head). k.phase) (sym q), ap (λ (k : Head). k.value) (sym q), ap (λ (k : Head). k.status) (sym q), inl refl)
      go (copies i b q u f) = (ballot_at e.bytes i, listed i b, ap (λ (k : Head). k.phase) (sym q), ap (λ (k : Head). k.value) (sym q), ap (λ (k : Head). k.status) (sym q), inr u)

  -- whoever is heard then has voted so
  pub heard_voted : (v : Value) (s : ℕ) → Hears after12 v s → Voted (Sent vote events) s (moved before e.bytes).phase v
  heard_voted v s m = go (heard_from before e.bytes v s m)
    where
      go : HeldOrSent before e.bytes v s → Voted (Sent vote events) s (moved before e.bytes).phase v
      go (inl x) = let r = K.heard e.head A.head v s x.1 in (r.0, r.1, r.2, r.3 ∙ sym x.0, r.4)
      go (inr x) = (ballot_at e.bytes x.0, listed x.0 x.1, x.2.1, x.2.0, x.2.2)

  -- the machine's counts, as counts of the n heads
  member_low : (v : Value) (s : ℕ) → Hears after12 v s → s < vote.n
  member_low v s m = let r = heard_voted v s m in omega (arith, r.2, (K.stands r.0 r.1).sender)

  one_value : (v w : Value) (s : ℕ) → Hears after12 v s → Hears after12 w s → v ≡ w
  one_value v w s p q =
      let x = heard_voted v s p in
      let y = heard_voted w s q in
      sym x.4 ∙ (K.ledger.one x.0 y.0 x.1 y.1 (x.2 ∙ sym y.2) (x.3 ∙ sym y.3)).0 ∙ y.4

  abbrev hearing : Value → ℕ → Bool
  hearing v s = member s (heard after12 v)

  size_is : (v : Value) → size (heard after12 v) ≡ count vote.n (hearing v)
  unfolding size
  size_is v = count_within 32 (hearing v) K.heads.1 (member_low v)

  same_n : after12.n ≡ vote.n
  same_n = (gathered_same before e.bytes).0 ∙ (K.number e.head A.head).0

  over_half_lem : (v : Value) → Means (majority after12 v) (vote.n < count vote.n (hearing v) * 2)
  unfolding majority
  over_half_lem v = subst (λ (k : ℕ). Means (ltb k (size (heard after12 v) * 2)) (vote.n < count vote.n (hearing v) * 2)) (sym same_n) (subst (λ (k : ℕ). Means (ltb vote.n (k * 2)) (vote.n < count vote.n (hearing v) * 2)) (sym (size_is v)) means_lt)

  quorum_heard : quorum after12 ≡ true → vote.n < count vote.n (λ s. hearing Zero s || (hearing One s || hearing Blank s)) * 2
  unfolding quorum
  quorum_heard q =
      let l = ltb-true after12.n _ q in
      let inner = count_either vote.n (hearing One) (hearing Blank) (unlike One Blank (lit< tt)) in
      let outer = count_either vote.n (hearing Zero) (λ s. hearing One s || hearing Blank s) (λ s p r. elim ((means_or (means_self (hearing One s)) (means_self (hearing Blank s))).0 r) [ inl m ↦ unlike Zero One (lit< tt) s p m | inr m ↦ unlike Zero Blank (lit< tt) s p m ]) in
      omega (arith, same_n, size_is Zero, size_is One, size_is Blank)
    where
      unlike : (v w : Value) → value_code v < value_code w → (s : ℕ) → Hears after12 v s → Hears after12 w s → ⊥
      unlike v w l s p r = omega (arith, ap value_code (one_value v w s p r))

  -- what is heard at a settle phase is one bit
  settle_heard : (moved before e.bytes).phase % 2 ≡ 0 → (v w : Value) (s t : ℕ) → Bit v → Bit w → Hears after12 v s → Hears after12 w t → v ≡ w
  settle_heard o v w s t bv bw p q =
      let x = heard_voted v s p in
      let y = heard_voted w t q in
      sym x.4
      ∙ settle_one_bit K.ledger (moved before e.bytes).phase (kind_of_even _ o) x.0 y.0 x.1 y.1 x.3 y.3 (λ z. bv (sym x.4 ∙ z)) (λ z. bw (sym y.4 ∙ z))
      ∙ y.4

  -- step 3 takes a value and a status that what was heard justifies
  step_justified : quorum after12 ≡ true → Justified two_phases vote.n (Sent vote events) after12.phase (step_value after12 e.coin) (step_status after12)
  unfolding gathered added
  step_justified q =
      record {
        heard = hearing;
        voted = heard_voted;
        quorum = quorum_heard q;
        locked = λ k b. (over_half_lem _).0 (bit_from (majority after12) Blank _ (sym (at_odd (lock_odd _ k))) b);
        locks = λ k w b o. at_odd (lock_odd _ k) ∙ bit_with_lem (majority after12) Blank w b ((over_half_lem w).1 o) (λ u bu m. one_majority u w m ((over_half_lem w).1 o));
        settled = λ k z. bit_kept (any_heard after12) (value_of e.coin) (coin_bit e.coin A.bit) (sym (at_even (settle_even _ k)) ∙ z);
        settles = λ k w s b m. at_even (settle_even _ k) ∙ bit_with_lem (any_heard after12) (value_of e.coin) w b ((means_any (heard after12 w)).1 (s, m)) (λ u bu x. let y = (means_any (heard after12 u)).0 x in settle_heard (settle_even _ k) u w y.0 s bu b y.1 m);
        decided = decided (eqb (after12.phase % 2) 0) refl (majority after12 Zero) refl (majority after12 One) refl;
      }
    where
      at_odd : after12.phase % 2 ≡ 1 → step_value after12 e.coin ≡ bit_with (majority after12) Blank
      at_odd o = unfold step_value in rw (eq-eqb (after12.phase % 2) 1 o)

      at_even : after12.phase % 2 ≡ 0 → step_value after12 e.coin ≡ bit_with (any_heard after12) (value_of e.coin)
      at_even o = unfold step_value in rw (ne_eqb (after12.phase % 2) 1 (λ q. omega arith))

      one_majority : (u w : Value) → majority after12 u ≡ true → majority after12 w ≡ true → u ≡ w
      one_majority u w x y = let r = meet vote.n (hearing u) (hearing w) ((over_half_lem u).0 x) ((over_half_lem w).0 y) in one_value u w r.0 r.2 r.3

      before_decided : after12.status ≡ Decided → (b : Ballot) × Sent vote events b × (b.phase ≡ after12.phase) × (b.status ≡ Decided)
      before_decided d = let r = moved_state in (r.0, r.1, r.2, r.4 ∙ d)

      decided : (t : Bool) → eqb (after12.phase % 2) 0 ≡ t → (z : Bool) → majority after12 Zero ≡ z → (o : Bool) → majority after12 One ≡ o → step_status after12 ≡ Decided
          → ((kind_of after12.phase ≡ settle) × ((w : Value) × Bit w × (vote.n < count vote.n (hearing w) * 2))) ⊎ ((b : Ballot) × Sent vote events b × (b.phase ≡ after12.phase) × (b.status ≡ Decided))
      decided true p true x o y d = inl (kind_of_even after12.phase (eqb-true (after12.phase % 2) 0 p), (Zero, zero_bit, (over_half_lem Zero).0 x))
      decided true p false x true y d = inl (kind_of_even after12.phase (eqb-true (after12.phase % 2) 0 p), (One, one_bit, (over_half_lem One).0 y))
      decided true p false x false y d = let k : step_status after12 ≡ after12.status = unfold step_status in rw (p, x, y) in inr (before_decided (sym k ∙ d))
      decided false p z x o y d = let k : step_status after12 ≡ after12.status = unfold step_status in rw p in inr (before_decided (sym k ∙ d))

  -- the ballot that the head would send after the tick
  abbrev pub next : Ballot
  next = record { sender = e.head; value = after3.value; status = after3.status; phase = after3.phase }

  -- a ballot that the head sent before is not above it
  sent_low : (b : Ballot) → Sent vote events b → b.sender ≡ e.head → b.phase ≤ before.phase
  sent_low b sb q = subst (λ (s : ℕ). b.phase ≤ (head_in vote events s).phase) q (K.past b sb)

  pub moved_later : before.phase ≤ (moved before e.bytes).phase
  moved_later =
      let r = moved_state in
      elim r.5 [ inl x ↦ omega (arith, r.2, ap (λ (b : Ballot). b.phase) x) | inr x ↦ omega (arith, r.2) ]

  -- it fits the ledger: it is the head's present ballot, one of a phase that the head never sent at and that a sent
  -- ballot justifies, or one that a step justifies
  pub fits_next : Fits two_phases vote.n (Sent vote events) next
  unfolding stepped gathered added
  fits_next = go (quorum after12) refl
    where
      state : (b : Ballot) × Sent vote events b × (b.phase ≡ (moved before e.bytes).phase) × (b.value ≡ (moved before e.bytes).value) × (b.status ≡ (moved before e.bytes).status) × ((b ≡ ballot_of before) ⊎ (before.phase < b.phase))
      state = moved_state

      same : (b : Ballot) → Sent vote events b → b.sender ≡ e.head → b.phase ≡ (moved before e.bytes).phase → (b.value ≡ (moved before e.bytes).value) × (b.status ≡ (moved before e.bytes).status)
      same b sb q p = by state.5
        where
          by : (state.0 ≡ ballot_of before) ⊎ (before.phase < state.0.phase) → (b.value ≡ (moved before e.bytes).value) × (b.status ≡ (moved before e.bytes).status)
          by (inl x) =
              let r = K.ledger.one b state.0 sb state.1 (q ∙ sym (K.number e.head A.head).1 ∙ ap (λ (b : Ballot). b.sender) (sym x)) (p ∙ sym state.2) in
              (r.0 ∙ state.3, r.1 ∙ state.4)
          by (inr x) = absurd (omega (arith, sent_low b sb q, state.2))

      go : (t : Bool) → quorum after12 ≡ t → Fits two_phases vote.n (Sent vote events) (record { sender = e.head; value = (cond t (risen after12 e.coin) after12).value; status = (cond t (risen after12 e.coin) after12).status; phase = (cond t (risen after12 e.coin) after12).phase })
      go true q =
          record {
            one = λ b sb x p. absurd (omega (arith, sent_low b sb x, moved_later));
            start = λ p. absurd (omega (arith, state.2, K.ledger.phases state.0 state.1));
            phases = omega arith;
            later = λ p l x. subst (λ (k : ℕ). Justified two_phases vote.n (Sent vote events) k (step_value after12 e.coin) (step_status after12)) (omega arith) (step_justified q);
          }
      go false q =
          record {
            one = same;
            start = λ p. let r = K.ledger.start state.0 state.1 (state.2 ∙ p) in (λ z. r.0 (state.3 ∙ z), sym state.4 ∙ r.1);
            phases = omega (arith, state.2, K.ledger.phases state.0 state.1);
            later = λ p l x. subst (λ (v : Value). Justified two_phases vote.n (Sent vote events) p v (moved before e.bytes).status) state.3 (subst (λ (t : Status). Justified two_phases vote.n (Sent vote events) p state.0.value t) state.4 (K.ledger.later state.0 state.1 p l (state.2 ∙ x)));
          }

  ledger_next : Ledger two_phases vote.n (λ b. Sent vote events b ⊎ (b ≡ next))
  ledger_next = ledger_with next K.ledger fits_next (λ b x. inl x) (λ b x. x)

  -- so the end is not decided otherwise
  pub decides_alike : DecidesOtherwise after3 → ⊥
  unfolding stepped
  decides_alike d = go d.1
    where
      kept : after3.decision ≡ before.decision
      kept = by (quorum after12) ∙ (gathered_same before e.bytes).2
        where
          by : (t : Bool) → (cond t (risen after12 e.coin) after12).decision ≡ after12.decision
          by true = refl
          by false = refl

      go : (after3.value ≡ Blank) ⊎ ((after3.decision ≡ Unwritten → ⊥) × (after3.decision ≡ decision_for after3.value → ⊥)) → ⊥
      go (inl x) = decided_bit ledger_next next (inr refl) d.0 x
      go (inr x) =
          let r = K.decision e.head A.head (λ z. x.0 (kept ∙ z)) in
          x.1 (kept ∙ r.3 ∙ ap decision_for (decided_agree ledger_next r.0 next (inl r.1) (inr refl) r.2 d.0))

  -- ---- none of the other refusals

  own_fits : (i : ℕ) → i < ballots e.bytes → OwnOtherwise before (ballot_at e.bytes i) → ⊥
  own_fits i h x = elim x.1 [ inl l ↦ omega (arith, sent_low b (listed i h) own) | inr y ↦ elim y.1 [ inl f ↦ f (same y.0).0 | inr f ↦ f (same y.0).1 ] ]
    where
      b : Ballot
      b = ballot_at e.bytes i

      own : (ballot_at e.bytes i).sender ≡ e.head
      own = x.0 ∙ (K.number e.head A.head).1

      same : (ballot_at e.bytes i).phase ≡ before.phase → ((ballot_at e.bytes i).value ≡ before.value) × ((ballot_at e.bytes i).status ≡ before.status)
      same p = K.ledger.one (ballot_at e.bytes i) (ballot_of before) (listed i h) (sent_now vote events e.head A.head) x.0 p

  held_fits : (i : ℕ) → i < ballots e.bytes → HeldOtherwise before (ballot_at e.bytes i) → ⊥
  held_fits i h x =
      let b = ballot_at e.bytes i in
      let r = K.heard e.head A.head x.1.0 b.sender x.1.1 in
      x.1.2 (sym r.4 ∙ (K.ledger.one r.0 b r.1 (listed i h) r.2 (r.3 ∙ sym x.0)).0)

  -- "no tick is refused unless its step needs phase 65,536"
  pub event_number : NotRefusedBeforeTheLastPhase vote events e
  event_number = go (dec_lt after12.n ((size after12.zeros + size after12.ones + size after12.blanks) * 2)) (dec_lt after12.phase 65535)
    where
      list : ((length e.bytes % 5 ≡ 0 → ⊥) ⊎ (320 < length e.bytes)) → ⊥
      list (inl f) = f A.whole
      list (inr f) = omega (arith, A.whole, A.few)

      rules : SomeBallot e.bytes (Breaks before.n e.bytes) → ⊥
      rules x = false_not (means_breaks before.n e.bytes x.0) (unbroken x.0 x.1) x.2

      apart_values : TwoBallots e.bytes Differ ⊎ SomeBallot e.bytes (λ i. HeldOtherwise before (ballot_at e.bytes i)) → ⊥
      apart_values (inl x) = never_differ (ballot_at e.bytes x.2.0) (ballot_at e.bytes x.0) (listed x.2.0 (omega (arith, x.1, x.2.1))) (listed x.0 x.1) x.2.2
      apart_values (inr x) = held_fits x.0 x.1 x.2

      both : (after12.phase % 2 ≡ 0) × HeardAtAll after12 Zero × HeardAtAll after12 One → ⊥
      both x = unfold gathered added in let z = settle_heard x.0 Zero One x.1.0 x.2.0 zero_bit one_bit x.1.1 x.2.1 in let q : ◌≡◌ {A = ℕ} 0 1 = cc in omega arith

      -- none of 3 to 9 applies: 10 or 11 does, or 0 is given
      past_9 : (number : ℕ) → Given number 0 ((10 exactly_when (Quorum after12 × (65536 ≤ after12.phase + 1))) ∷ (11 exactly_when DecidesOtherwise (stepped after12 e.coin)) ∷ []) → tick_number before e.bytes e.coin ≡ number
      past_9 number later =
          (tick_given before e.bytes e.coin number).1
          (passed_over (λ f. f (K.sound e.head A.head))
          (passed_over (λ l. omega (arith, A.bit))
          (passed_over list
          (passed_over rules (passed_over (λ x. own_fits x.0 x.1 x.2) (passed_over apart_values (passed_over both later)))))))

      accepted : (Quorum after12 × (65536 ≤ after12.phase + 1) → ⊥) → tick_number before e.bytes e.coin ≡ 0
      accepted n = past_9 0 (passed_over n (passed_over decides_alike none_applies))

      ended : Quorum after12 × (65536 ≤ after12.phase + 1) → tick_number before e.bytes e.coin ≡ 10
      ended p = past_9 10 (applies p)

      last : after12.phase ≤ 65535
      last = unfold gathered added in let r = moved_state in omega (arith, r.2, K.low r.0 r.1)

      go : Dec (Quorum after12) → Dec (after12.phase < 65535) → NotRefusedBeforeTheLastPhase vote events e
      go (no q) d = inl (accepted (λ x. q x.0))
      go (yes q) (yes l) = inl (accepted (λ x. omega (arith, x.1)))
      go (yes q) (no l) = inr (ended (q, omega arith), q, omega (arith, last))
