-- A start and every accepted tick give a sound head, from any sound head and any bytes.
use Prim.Native.Nat.{ℕ, ◌+◌, ◌*◌, ◌%◌, ◌≤◌, ◌<◌}
use mathlib.Core.Path.{◌≡◌, refl, sym, ap, subst, ◌∙◌}
use mathlib.Core.List.{List}
use mathlib.Core.Bool.{Bool, true, false, cond}
use mathlib.Core.Logic.{inl, inr}
use native.Mathlib.Omega.{arith}
use borrow.Author.Tests.{eq-eqb, ne_eqb, ltb-true}
use Rattle.rules.specs.declared.Value.{Value}
use Rattle.rules.specs.declared.Value.TheVariants.{Zero, One, Blank}
use Rattle.rules.specs.declared.Status.{Status}
use Rattle.rules.specs.declared.Status.TheVariants.{Undecided, Decided}
use Rattle.rules.specs.declared.Decision.{Decision}
use Rattle.rules.specs.declared.Decision.TheVariants.{Unwritten}
use Rattle.rules.specs.declared.Head.{Head}
use Rattle.rules.specs.Ballot.{value_code, value_of, status_code, ballot_at}
use Rattle.rules.specs.Below.{count}
use Rattle.rules.specs.Heard.{member, size, over_half, heard}
use Rattle.rules.specs.Head.{decision_for, is_decided, fresh, start_number, start_of}
use Rattle.rules.specs.Tick.{ballots, moved, added, gathered, quorum, majority, step_value, step_status, risen, stepped, settled, tick_number, tick_of}
use Rattle.rules.specs.Given.{Heads, Obeys, phase_1, phase_2, odd_from_3, even_from_4, Hears, Sound, DecidesOtherwise, Says, HeldOrSent}
use Rattle.rules.proofs.Counting.Truth.{false_not, not_not}
use Rattle.rules.proofs.Counting.Counting.{count_within, meet}
use Rattle.rules.proofs.Meaning.Meanings.{value_low, status_low, means_value, means_decided, hears_nobody}
use Rattle.rules.proofs.Undivided.TheBit.{bit_code, bit_kept, coin_bit}
use Rattle.rules.proofs.Meaning.Accepted.{Accepted, value_code_back, start_accepted, tick_accepted}
use Rattle.rules.proofs.OneTick.Senders.{Moves, stays, copies, moves, gathered_same, heard_from}

-- ---- small facts

-- two values that cannot differ are the same
same_value_lem : (v w : Value) → ((v ≡ w → ⊥) → ⊥) → v ≡ w
same_value_lem v w = not_not (means_value v w)

-- a decided head is at phase 3 or more; a blank is at an even one
decided_late : {p v : ℕ} → Obeys p v 1 → 3 ≤ p
decided_late (phase_1 e a b) = absurd (omega arith)
decided_late (phase_2 e a b) = absurd (omega arith)
decided_late (odd_from_3 e a b c) = e
decided_late (even_from_4 e a b c d) = omega arith

blank_even : {p s : ℕ} → Obeys p 2 s → p % 2 ≡ 0
blank_even (phase_1 e a b) = absurd (omega arith)
blank_even (phase_2 e a b) = omega arith
blank_even (odd_from_3 e a b c) = absurd (omega arith)
blank_even (even_from_4 e a b c d) = a

-- ---- the start

pub start_sound : (n own proposal : ℕ) → start_number n own proposal ≡ 0 → Sound (start_of n own proposal).head
unfolding start_of
start_sound n own proposal e = let r = start_accepted n own proposal e in rw e (from r.0 r.1 r.2)
  where
    from : Heads n → own < n → proposal < 2 → Sound (fresh n own proposal)
    from few low bit =
        record {
          heads = few;
          own = low;
          rules = phase_1 refl (omega (arith, value_code_back proposal (omega arith))) refl;
          decided = λ q. absurd (let z : ◌≡◌ {A = ℕ} 0 1 = cc in omega arith);
          decision = λ f. absurd (f refl);
          disjoint = λ v w s p q. absurd (nobody v s p);
          members = λ v s p. absurd (nobody v s p);
          odd = λ o s p. absurd (nobody Blank s p);
          even = λ o s t p q. absurd (nobody Zero s p);
          own_heard = λ v p. absurd (nobody v own p);
        }
      where
        nobody : (v : Value) (s : ℕ) → Hears (fresh n own proposal) v s → ⊥
        nobody = hears_nobody (fresh n own proposal) refl refl refl

-- ---- steps 1 and 2

module _ (h : Head) (l : List ℕ) (coin : ℕ) (a : Accepted h l coin) where
  -- phase, value and status obey the rules
  pub gathered_rules : Obeys (gathered h l).phase (value_code (gathered h l).value) (status_code (gathered h l).status)
  unfolding gathered added
  gathered_rules = go (moves h l)
    where
      go : Moves h l → Obeys (moved h l).phase (value_code (moved h l).value) (status_code (moved h l).status)
      go (stays q f) = rw q a.sound.rules
      go (copies i b q u f) = rw q (a.stands i b).rules

  pub gathered_later : h.phase ≤ (gathered h l).phase
  unfolding gathered added
  gathered_later = go (moves h l)
    where
      go : Moves h l → h.phase ≤ (moved h l).phase
      go (stays q f) = omega (arith, ap (λ (k : Head). k.phase) q)
      go (copies i b q u f) = omega (arith, ap (λ (k : Head). k.phase) q)

  pub gathered_members : (v : Value) (s : ℕ) → Hears (gathered h l) v s → s < h.n
  gathered_members v s e = go (heard_from h l v s e)
    where
      go : HeldOrSent h l v s → s < h.n
      go (inl x) = a.sound.members v s x.1
      go (inr x) = omega (arith, x.2.1, (a.stands x.0 x.1).sender)

  -- nobody is heard under two values
  pub gathered_disjoint : (v w : Value) (s : ℕ) → Hears (gathered h l) v s → Hears (gathered h l) w s → v ≡ w
  gathered_disjoint v w s p q = go (heard_from h l v s p) (heard_from h l w s q)
    where
      -- who is held under v sends no other value
      held : (v w : Value) → ((moved h l).phase ≡ h.phase) × Hears h v s → (i : ℕ) × (i < ballots l) × Says (moved h l).phase w s (ballot_at l i) → v ≡ w
      held v w x y =
          same_value_lem v w (λ n. a.held y.0 y.1 (y.2.0 ∙ x.0, (v, subst (λ (t : ℕ). Hears h v t) (sym y.2.1) x.1, λ e. n (e ∙ y.2.2))))

      go : HeldOrSent h l v s → HeldOrSent h l w s → v ≡ w
      go (inl x) (inl y) = a.sound.disjoint v w s x.1 y.1
      go (inl x) (inr y) = held v w x y
      go (inr x) (inl y) = sym (held w v y x)
      go (inr x) (inr y) =
          same_value_lem v w
          (λ n. a.once x.0 y.0 x.1 y.1 (x.2.1 ∙ sym y.2.1, x.2.0 ∙ sym y.2.0, inl (λ e. n (sym x.2.2 ∙ e ∙ y.2.2))))

  -- so no two values have a majority
  pub one_majority : (v w : Value) → majority (gathered h l) v ≡ true → majority (gathered h l) w ≡ true → v ≡ w
  unfolding majority size
  one_majority v w p q =
      let r = meet h.n (λ s. member s (heard (gathered h l) v)) (λ s. member s (heard (gathered h l) w)) (over v p) (over w q) in
      gathered_disjoint v w r.0 r.2 r.3
    where
      over : (v : Value) → over_half (gathered h l).n (size (heard (gathered h l) v)) ≡ true → h.n < count h.n (λ s. member s (heard (gathered h l) v)) * 2
      over v e =
          omega
          (arith, ltb-true (gathered h l).n (size (heard (gathered h l) v) * 2) e, (gathered_same h l).0, count_within 32 (λ s. member s (heard (gathered h l) v)) a.sound.heads.1 (gathered_members v))

  gathered_odd : (gathered h l).phase % 2 ≡ 1 → (s : ℕ) → Hears (gathered h l) Blank s → ⊥
  unfolding gathered added
  gathered_odd o s e = go (heard_from h l Blank s e)
    where
      go : HeldOrSent h l Blank s → ⊥
      go (inl x) = a.sound.odd (ap (λ (p : ℕ). p % 2) (sym x.0) ∙ o) s x.1
      go (inr x) =
          let r = (a.stands x.0 x.1).rules in
          let z = blank_even (subst (λ (v : Value). Obeys (ballot_at l x.0).phase (value_code v) (status_code (ballot_at l x.0).status)) x.2.2 r) in
          omega (arith, ap (λ (p : ℕ). p % 2) x.2.0)

  gathered_own : (v : Value) → Hears (gathered h l) v h.own → v ≡ (gathered h l).value
  unfolding gathered added
  gathered_own v e = go (moves h l) (heard_from h l v h.own e)
    where
      go : Moves h l → HeldOrSent h l v h.own → v ≡ (moved h l).value
      go (stays q f) (inl x) = a.sound.own_heard v x.1 ∙ ap (λ (k : Head). k.value) (sym q)
      go (stays q f) (inr x) =
          let same : (ballot_at l x.0).phase ≡ h.phase = x.2.0 ∙ ap (λ (k : Head). k.phase) q in
          same_value_lem v h.value (λ n. a.own x.0 x.1 (x.2.1, inr (same, inl (λ e. n (sym x.2.2 ∙ e)))))
          ∙ ap (λ (k : Head). k.value) (sym q)
      go (copies i b q u f) (inl x) = absurd (omega (arith, ap (λ (k : Head). k.phase) q, x.0))
      go (copies i b q u f) (inr x) =
          absurd (a.own x.0 x.1 (x.2.1, inl (omega (arith, x.2.0, ap (λ (k : Head). k.phase) q))))

-- ---- step 3

-- a step keeps the rules, unless it is decided with a blank
risen_rules : (g : Head) (coin : ℕ) → coin < 2 → Obeys g.phase (value_code g.value) (status_code g.status)
    → ((risen g coin).value ≡ Blank → (risen g coin).status ≡ Undecided) → Obeys (risen g coin).phase (value_code (risen g coin).value) (status_code (risen g coin).status)
unfolding step_value step_status
risen_rules g coin bit r blank = go r
  where
    v : Value
    v = step_value g coin

    at_odd : g.phase % 2 ≡ 1 → status_code (step_status g) ≡ status_code g.status
    at_odd o = unfold step_status in rw (ne_eqb (g.phase % 2) 0 (λ q. omega arith))

    at_even : g.phase % 2 ≡ 0 → value_code (step_value g coin) < 2
    at_even o =
        unfold step_value in
        rw (ne_eqb (g.phase % 2) 1 (λ q. omega arith)) (bit_code (bit_kept _ (value_of coin) (coin_bit coin bit)))

    blank_open : value_code (step_value g coin) ≡ 2 → status_code (step_status g) ≡ 0
    blank_open e = ap status_code (blank ((means_value (step_value g coin) Blank).0 (eq-eqb _ _ e)))

    to_even : 3 ≤ g.phase → g.phase % 2 ≡ 1 → Obeys (g.phase + 1) (value_code (step_value g coin)) (status_code (step_status g))
    to_even b o = even_from_4 (omega arith) (omega arith) (value_low (step_value g coin)) (status_low (step_status g)) blank_open

    to_odd : 2 ≤ g.phase → g.phase % 2 ≡ 0 → Obeys (g.phase + 1) (value_code (step_value g coin)) (status_code (step_status g))
    to_odd b o = odd_from_3 (omega arith) (omega arith) (at_even o) (status_low (step_status g))

    go : Obeys g.phase (value_code g.value) (status_code g.status) → Obeys (g.phase + 1) (value_code (step_value g coin)) (status_code (step_status g))
    go (phase_1 e a b) = phase_2 (omega arith) (value_low (step_value g coin)) (at_odd (omega arith) ∙ b)
    go (phase_2 e a b) = to_odd (omega arith) (omega arith)
    go (odd_from_3 e a b c) = to_even e a
    go (even_from_4 e a b c d) = to_odd (omega arith) a

-- ---- step 4, and the whole tick

-- a head before step 4: sound but for its decision
record Ready (x : Head) : Type 0 where
  heads : Heads x.n
  own : x.own < x.n
  rules : Obeys x.phase (value_code x.value) (status_code x.status)
  decision : (x.decision ≡ Unwritten → ⊥) → 3 ≤ x.phase
  disjoint : (v w : Value) (s : ℕ) → Hears x v s → Hears x w s → v ≡ w
  members : (v : Value) (s : ℕ) → Hears x v s → s < x.n
  odd : x.phase % 2 ≡ 1 → (s : ℕ) → Hears x Blank s → ⊥
  even : x.phase % 2 ≡ 0 → (s t : ℕ) → Hears x Zero s → Hears x One t → ⊥
  own_heard : (v : Value) → Hears x v x.own → v ≡ x.value

abbrev deciding : Head → Decision → Head
deciding x d =
    record { n = x.n; own = x.own; phase = x.phase; value = x.value; status = x.status; decision = d; zeros = x.zeros; ones = x.ones; blanks = x.blanks }

settled_sound : (x : Head) → Ready x → (DecidesOtherwise x → ⊥) → Sound (settled x)
unfolding settled
settled_sound x r fits = go (is_decided x) refl
  where
    hears : (d : Decision) (v : Value) (s : ℕ) → Hears (deciding x d) v s → Hears x v s
    hears d Zero s m = m
    hears d One s m = m
    hears d Blank s m = m

    with_decision : (d : Decision) → (x.status ≡ Decided → (d ≡ decision_for x.value) × (d ≡ Unwritten → ⊥)) → ((d ≡ Unwritten → ⊥) → 3 ≤ x.phase) → Sound (deciding x d)
    with_decision d decided written =
        record {
          heads = r.heads;
          own = r.own;
          rules = r.rules;
          decided = decided;
          decision = written;
          disjoint = λ v w s p q. r.disjoint v w s (hears d v s p) (hears d w s q);
          members = λ v s p. r.members v s (hears d v s p);
          odd = r.odd;
          even = r.even;
          own_heard = λ v p. r.own_heard v (hears d v x.own p);
        }

    there : (v : Value) → (v ≡ Blank → ⊥) → decision_for v ≡ Unwritten → ⊥
    there Zero n q = let z : ◌≡◌ {A = ℕ} 0 1 = cc in omega arith
    there One n q = let z : ◌≡◌ {A = ℕ} 0 1 = cc in omega arith
    there Blank n q = n refl

    go : (t : Bool) → is_decided x ≡ t → Sound (deciding x (cond t (decision_for x.value) x.decision))
    go true q =
        let is = (means_decided x).0 q in
        with_decision (decision_for x.value) (λ z. (refl, there x.value (λ b. fits (is, inl b))))
        (λ f. decided_late (subst (λ (s : Status). Obeys x.phase (value_code x.value) (status_code s)) is r.rules))
    go false q = with_decision x.decision (λ z. absurd (false_not (means_decided x) q z)) r.decision

pub tick_sound : (h : Head) (l : List ℕ) (coin : ℕ) → tick_number h l coin ≡ 0 → Sound (tick_of h l coin).head
unfolding tick_of stepped
tick_sound h l coin e = rw e (go (quorum (gathered h l)) a.decides)
  where
    a : Accepted h l coin
    a = tick_accepted h l coin e

    same_vote : ((gathered h l).n ≡ h.n) × ((gathered h l).own ≡ h.own) × ((gathered h l).decision ≡ h.decision)
    same_vote = gathered_same h l

    ready : Ready (gathered h l)
    ready =
        record {
          heads = subst Heads (sym same_vote.0) a.sound.heads;
          own = omega (arith, same_vote.0, same_vote.1, a.sound.own);
          rules = gathered_rules h l coin a;
          decision = λ n. omega (arith, gathered_later h l coin a, a.sound.decision (λ z. n (same_vote.2 ∙ z)));
          disjoint = gathered_disjoint h l coin a;
          members = λ v s p. omega (arith, same_vote.0, gathered_members h l coin a v s p);
          odd = gathered_odd h l coin a;
          even = λ o s t p q. a.even o (s, p) (t, q);
          own_heard = λ v p. gathered_own h l coin a v (subst (λ (s : ℕ). Hears (gathered h l) v s) same_vote.1 p);
        }

    undecided : (x : Head) → (DecidesOtherwise x → ⊥) → x.value ≡ Blank → x.status ≡ Undecided
    undecided x fits b = by x.status refl
      where
        by : (t : Status) → x.status ≡ t → x.status ≡ Undecided
        by Undecided q = q
        by Decided q = absurd (fits (q, inl b))

    nobody : (v : Value) (s : ℕ) → Hears (risen (gathered h l) coin) v s → ⊥
    nobody = hears_nobody (risen (gathered h l) coin) refl refl refl

    ready_risen : (DecidesOtherwise (risen (gathered h l) coin) → ⊥) → Ready (risen (gathered h l) coin)
    ready_risen fits =
        record {
          heads = ready.heads;
          own = ready.own;
          rules = risen_rules (gathered h l) coin a.bit ready.rules (undecided (risen (gathered h l) coin) fits);
          decision = λ n. omega (arith, ready.decision n);
          disjoint = λ v w s p q. absurd (nobody v s p);
          members = λ v s p. absurd (nobody v s p);
          odd = λ o s p. nobody Blank s p;
          even = λ o s t p q. nobody Zero s p;
          own_heard = λ v p. absurd (nobody v (gathered h l).own p);
        }

    go : (t : Bool) → (DecidesOtherwise (cond t (risen (gathered h l) coin) (gathered h l)) → ⊥) → Sound (settled (cond t (risen (gathered h l) coin) (gathered h l)))
    go true fits = settled_sound (risen (gathered h l) coin) (ready_risen fits) fits
    go false fits = settled_sound (gathered h l) ready fits
