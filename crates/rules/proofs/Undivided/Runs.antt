-- What holds at every world of every run.
use Prim.Native.Nat.{ℕ, ◌≤◌, ◌<◌}
use mathlib.Core.Path.{◌≡◌, refl, sym, ap, subst, ◌∙◌}
use mathlib.Core.List.{List, [], ◌∷◌}
use mathlib.Core.Bool.{Bool, true, false, cond}
use mathlib.Core.Logic.{◌⊎◌, inl, inr}
use native.Mathlib.Decide.{ℕ_discrete}
use native.Mathlib.Omega.{arith}
use borrow.Author.Tests.{eq-eqb, ne_eqb}
use Rattle.rules.specs.declared.Value.{Value}
use Rattle.rules.specs.declared.Value.TheVariants.{Zero, One, Blank}
use Rattle.rules.specs.declared.Status.TheVariants.{Decided}
use Rattle.rules.specs.declared.Decision.TheVariants.{Unwritten}
use Rattle.rules.specs.declared.Ballot.{Ballot}
use Rattle.rules.specs.declared.Head.{Head}
use Rattle.rules.specs.Ballot.{value_of}
use Rattle.rules.specs.Head.{decision_for, is_decided, fresh, ballot_of}
use Rattle.rules.specs.Tick.{added, gathered, quorum, risen, stepped, settled, tick_number, tick_of}
use Rattle.rules.specs.Given.{Hears, Sound, Quorum}
use Rattle.rules.specs.Run.{Vote, Proper, Event, head_in, Sent, Allowed, Run}
use Rattle.rules.proofs.Counting.Truth.{means_lt}
use Rattle.rules.proofs.Meaning.Meanings.{means_decided, hears_nobody}
use Rattle.rules.proofs.OneTick.Starts.{start_taken, start_head}
use Rattle.rules.proofs.Undivided.TheBit.{Bit, coin_bit}
use Rattle.rules.proofs.Meaning.Accepted.{Stands, tick_accepted}
use Rattle.rules.proofs.OneTick.Senders.{gathered_same}
use Rattle.rules.proofs.OneTick.Soundness.{start_sound, tick_sound}
use Rattle.rules.proofs.Undivided.Ledger.{Voted, Fits, ledger_with}
use Rattle.rules.proofs.Rounds.Rounds.{sent_now}
use Rattle.rules.proofs.Undivided.OneEvent.{two_phases, Kept, moved_state, moved_later, heard_voted, next, fits_next, event_number}

-- ---- the starts

module _ (vote : Vote) (proper : Proper vote) where
  -- what a start's ballot is
  started : (b : Ballot) (x : Sent vote [] b) → b ≡ ballot_of (fresh vote.n x.0 (vote.proposal x.0))
  started b x = x.2 ∙ ap ballot_of (start_head vote proper x.0 x.1)

  pub kept_start : Kept vote []
  kept_start =
      record {
        heads = proper.heads;
        number = λ s h. let q = start_head vote proper s h in (ap (λ (k : Head). k.n) q, ap (λ (k : Head). k.own) q);
        sound = sound;
        stands = λ b x. subst (Stands vote.n) (sym x.2) (record { sender = omega (arith, x.1, ap (λ (k : Head). k.own) (start_head vote proper x.0 x.1)); rules = (sound x.0 x.1).rules });
        past = λ b x. let q = started b x in subst (λ (s : ℕ). b.phase ≤ (head_in vote [] s).phase) (sym (ap (λ (b : Ballot). b.sender) q)) (omega (arith, ap (λ (b : Ballot). b.phase) q, ap (λ (k : Head). k.phase) (start_head vote proper x.0 x.1)));
        heard = λ s h v t m. absurd (nobody s h v t m);
        decision = λ s h n. absurd (n (ap (λ (k : Head). k.decision) (start_head vote proper s h)));
        low = λ b x. omega (arith, ap (λ (b : Ballot). b.phase) (started b x));
        proposed = λ b x p. (x.0, x.1, ap (λ (b : Ballot). b.value) (started b x));
        ledger =
            record {
              one = λ b c x y e p. let q : x.0 ≡ y.0 = sym (ap (λ (b : Ballot). b.sender) (started b x)) ∙ e ∙ ap (λ (b : Ballot). b.sender) (started c y) in
                  (ap (λ (b : Ballot). b.value) (started b x) ∙ ap (λ (s : ℕ). value_of (vote.proposal s)) q ∙ sym (ap (λ (b : Ballot). b.value) (started c y)), ap (λ (b : Ballot). b.status) (started b x) ∙ sym (ap (λ (b : Ballot). b.status) (started c y)));
              start = λ b x p. (λ z. bit x.0 x.1 (sym (ap (λ (b : Ballot). b.value) (started b x)) ∙ z), ap (λ (b : Ballot). b.status) (started b x));
              phases = λ b x. omega (arith, ap (λ (b : Ballot). b.phase) (started b x));
              later = λ b x p l e. absurd (omega (arith, ap (λ (b : Ballot). b.phase) (started b x)));
            };
      }
    where
      sound : (s : ℕ) → s < vote.n → Sound (head_in vote [] s)
      sound s h = start_sound vote.n s (vote.proposal s) (start_taken vote proper s h)

      bit : (s : ℕ) → s < vote.n → Bit (value_of (vote.proposal s))
      bit s h = coin_bit (vote.proposal s) (proper.bits s h)

      nobody : (s : ℕ) → s < vote.n → (v : Value) (t : ℕ) → Hears (head_in vote [] s) v t → ⊥
      nobody s h v t m = hears_nobody (fresh vote.n s (vote.proposal s)) refl refl refl v t (subst (λ (k : Head). Hears k v t) (start_head vote proper s h) m)

-- ---- one event more

-- what is to be known of the head that was ticked, as it is afterwards
record After (vote : Vote) (events : List Event) (r : ℕ) (y : Head) : Type 0 where
  number : (y.n ≡ vote.n) × (y.own ≡ r)
  sound : Sound y
  fits : Fits two_phases vote.n (Sent vote events) (ballot_of y)
  later : (head_in vote events r).phase ≤ y.phase
  low : y.phase ≤ 65535
  proposed : y.phase ≡ 1 → (t : ℕ) × (t < vote.n) × (y.value ≡ value_of (vote.proposal t))
  heard : (v : Value) (t : ℕ) → Hears y v t → Voted (Sent vote events) t y.phase v
  decision : (y.decision ≡ Unwritten → ⊥) → ((b : Ballot) × Sent vote events b × (b.status ≡ Decided) × (y.decision ≡ decision_for b.value)) ⊎ ((y.status ≡ Decided) × (y.decision ≡ decision_for y.value))

module _ (vote : Vote) (events : List Event) (e : Event) (K : Kept vote events) (A : Allowed vote events e) where
  -- the ticked head, and the others
  ticked : head_in vote (e ∷ events) e.head ≡ (tick_of (head_in vote events e.head) e.bytes e.coin).head
  ticked = rw (eq-eqb e.head e.head refl)

  others : (s : ℕ) → (e.head ≡ s → ⊥) → head_in vote (e ∷ events) s ≡ head_in vote events s
  others s n = rw (ne_eqb e.head s n)

  module _ (y : Head) (is : head_in vote (e ∷ events) e.head ≡ y) (after : After vote events e.head y) where
    -- a statement on the heads: it holds of the new one and stays for the others
    for_all : (P : ℕ → Head → Type 0) → P e.head y → ((s : ℕ) → s < vote.n → P s (head_in vote events s)) → (s : ℕ) → s < vote.n → P s (head_in vote (e ∷ events) s)
    for_all P new old s h = go (ℕ_discrete e.head s)
      where
        go : Dec (e.head ≡ s) → P s (head_in vote (e ∷ events) s)
        go (yes q) = subst (λ (s : ℕ). P s (head_in vote (e ∷ events) s)) q (subst (P e.head) (sym is) new)
        go (no q) = subst (P s) (sym (others s q)) (old s h)

    sent_new : (b : Ballot) → Sent vote (e ∷ events) b → Sent vote events b ⊎ (b ≡ ballot_of y)
    sent_new b (inl x) = go (ℕ_discrete e.head x.0)
      where
        go : Dec (e.head ≡ x.0) → Sent vote events b ⊎ (b ≡ ballot_of y)
        go (yes q) = inr (x.2 ∙ ap (λ (s : ℕ). ballot_of (head_in vote (e ∷ events) s)) (sym q) ∙ ap ballot_of is)
        go (no q) = inl (subst (Sent vote events) (sym (x.2 ∙ ap ballot_of (others x.0 q))) (sent_now vote events x.0 x.1))
    sent_new b (inr x) = inl x

    -- a statement on the ballots: it holds of the new one and of the old ones
    for_ballots : (P : Ballot → Type 0) → P (ballot_of y) → ((b : Ballot) → Sent vote events b → P b) → (b : Ballot) → Sent vote (e ∷ events) b → P b
    for_ballots P new old b x = elim (sent_new b x) [ inl z ↦ old b z | inr z ↦ subst P (sym z) new ]

    more : {s p : ℕ} {v : Value} → Voted (Sent vote events) s p v → Voted (Sent vote (e ∷ events)) s p v
    more x = (x.0, inr x.1, x.2, x.3, x.4)

    not_lower : (s : ℕ) → (head_in vote events s).phase ≤ (head_in vote (e ∷ events) s).phase
    not_lower s = go (ℕ_discrete e.head s)
      where
        go : Dec (e.head ≡ s) → (head_in vote events s).phase ≤ (head_in vote (e ∷ events) s).phase
        go (yes q) = subst (λ (s : ℕ). (head_in vote events s).phase ≤ (head_in vote (e ∷ events) s).phase) q (omega (arith, after.later, ap (λ (k : Head). k.phase) is))
        go (no q) = omega (arith, ap (λ (k : Head). k.phase) (others s q))

    kept_after : Kept vote (e ∷ events)
    kept_after =
        record {
          heads = K.heads;
          number = for_all (λ s k. (k.n ≡ vote.n) × (k.own ≡ s)) after.number K.number;
          sound = for_all (λ s k. Sound k) after.sound K.sound;
          stands = for_ballots (Stands vote.n) (record { sender = omega (arith, after.number.1, A.head); rules = after.sound.rules }) K.stands;
          past =
              for_ballots (λ b. b.phase ≤ (head_in vote (e ∷ events) b.sender).phase)
              (subst (λ (s : ℕ). y.phase ≤ (head_in vote (e ∷ events) s).phase) (sym after.number.1) (omega (arith, ap (λ (k : Head). k.phase) is)))
              (λ b x. omega (arith, K.past b x, not_lower b.sender));
          heard = λ s h v t m. for_all (λ s k. (v : Value) (t : ℕ) → Hears k v t → Voted (Sent vote (e ∷ events)) t k.phase v) (λ v t m. more (after.heard v t m)) (λ s h v t m. more (K.heard s h v t m)) s h v t m;
          decision =
              for_all (λ s k. (k.decision ≡ Unwritten → ⊥) → (b : Ballot) × Sent vote (e ∷ events) b × (b.status ≡ Decided) × (k.decision ≡ decision_for b.value))
              (λ n. elim (after.decision n) [ inl r ↦ (r.0, inr r.1, r.2, r.3) | inr r ↦ (ballot_of y, inl (e.head, A.head, ap ballot_of (sym is)), r.0, r.1) ])
              (λ s h n. let r = K.decision s h n in (r.0, inr r.1, r.2, r.3));
          low = for_ballots (λ b. b.phase ≤ 65535) after.low K.low;
          proposed = for_ballots (λ b. b.phase ≡ 1 → (t : ℕ) × (t < vote.n) × (b.value ≡ value_of (vote.proposal t))) after.proposed K.proposed;
          ledger = ledger_with (ballot_of y) K.ledger after.fits (λ b x. inr x) sent_new;
        }

  -- a refused tick leaves the head
  after_refused : After vote events e.head (head_in vote events e.head)
  after_refused =
      let mine = sent_now vote events e.head A.head in
      record {
        number = K.number e.head A.head;
        sound = K.sound e.head A.head;
        fits =
            record {
              one = λ b x p q. K.ledger.one b (ballot_of (head_in vote events e.head)) x mine p q;
              start = K.ledger.start (ballot_of (head_in vote events e.head)) mine;
              phases = K.ledger.phases (ballot_of (head_in vote events e.head)) mine;
              later = K.ledger.later (ballot_of (head_in vote events e.head)) mine;
            };
        later = omega arith;
        low = K.low (ballot_of (head_in vote events e.head)) mine;
        proposed = K.proposed (ballot_of (head_in vote events e.head)) mine;
        heard = K.heard e.head A.head;
        decision = λ n. inl (K.decision e.head A.head n);
      }

  refused_head : (tick_number (head_in vote events e.head) e.bytes e.coin ≡ 0 → ⊥) → head_in vote (e ∷ events) e.head ≡ head_in vote events e.head
  refused_head n = ticked ∙ (unfold tick_of in rw (ne_eqb _ 0 n))

  accepted_head : tick_number (head_in vote events e.head) e.bytes e.coin ≡ 0 → head_in vote (e ∷ events) e.head ≡ settled (stepped (gathered (head_in vote events e.head) e.bytes) e.coin)
  accepted_head n = ticked ∙ (unfold tick_of in rw n)

  -- ---- an accepted one gives the settled head

  abbrev old : Head
  old = head_in vote events e.head

  abbrev all : Head
  all = gathered (head_in vote events e.head) e.bytes

  abbrev end : Head
  end = stepped (gathered (head_in vote events e.head) e.bytes) e.coin

  -- a statement on the head after step 3, stepped or not
  either_way : (P : Head → Type 0) → (quorum all ≡ true → P (risen all e.coin)) → (quorum all ≡ false → P all) → P end
  unfolding stepped
  either_way P yes-step no_step = go (quorum all) refl
    where
      go : (t : Bool) → quorum all ≡ t → P (cond t (risen all e.coin) all)
      go true q = yes-step q
      go false q = no_step q

  same : (end.n ≡ vote.n) × (end.own ≡ e.head) × (end.decision ≡ old.decision)
  same =
      let r = gathered_same old e.bytes in
      let k = K.number e.head A.head in
      either_way (λ x. (x.n ≡ vote.n) × (x.own ≡ e.head) × (x.decision ≡ old.decision))
      (λ q. (r.0 ∙ k.0, r.1 ∙ k.1, r.2))
      (λ q. (r.0 ∙ k.0, r.1 ∙ k.1, r.2))

  -- the ballot of the head after steps 1 and 2 is that of a sent one
  all_state : (b : Ballot) × Sent vote events b × (b.phase ≡ all.phase) × (b.value ≡ all.value)
  unfolding gathered added
  all_state = let r = moved_state vote events e K A in (r.0, r.1, r.2, r.3)

  all_later : old.phase ≤ all.phase
  unfolding gathered added
  all_later = moved_later vote events e K A

  all_heard : (v : Value) (t : ℕ) → Hears all v t → Voted (Sent vote events) t all.phase v
  unfolding gathered added
  all_heard = heard_voted vote events e K A

  end_low : tick_number old e.bytes e.coin ≡ 0 → end.phase ≤ 65535
  end_low n =
      either_way (λ x. x.phase ≤ 65535)
      (λ q. omega (arith, (tick_accepted old e.bytes e.coin n).phases (unfold quorum in means_lt.0 q)))
      (λ q. omega (arith, all_state.2, K.low all_state.0 all_state.1))

  end_proposed : end.phase ≡ 1 → (t : ℕ) × (t < vote.n) × (end.value ≡ value_of (vote.proposal t))
  end_proposed =
      either_way (λ x. x.phase ≡ 1 → (t : ℕ) × (t < vote.n) × (x.value ≡ value_of (vote.proposal t)))
      (λ q p. absurd (omega (arith, all_state.2, K.ledger.phases all_state.0 all_state.1)))
      (λ q p. let r = K.proposed all_state.0 all_state.1 (all_state.2 ∙ p) in (r.0, r.1, sym all_state.3 ∙ r.2))

  end_heard : (v : Value) (t : ℕ) → Hears end v t → Voted (Sent vote events) t end.phase v
  end_heard = either_way (λ x. (v : Value) (t : ℕ) → Hears x v t → Voted (Sent vote events) t x.phase v) (λ q v t m. absurd (hears_nobody (risen all e.coin) refl refl refl v t m)) (λ q. all_heard)

  end_sends : next vote events e K A ≡ ballot_of (settled end)
  unfolding settled
  end_sends = λ i. record { sender = sym same.1 i; value = end.value; status = end.status; phase = end.phase }

  after_accepted : tick_number old e.bytes e.coin ≡ 0 → After vote events e.head (settled end)
  unfolding settled
  after_accepted n =
      record {
        number = (same.0, same.1);
        sound = subst Sound (sym ticked ∙ accepted_head n) (tick_sound old e.bytes e.coin n);
        fits = subst (Fits two_phases vote.n (Sent vote events)) end_sends (fits_next vote events e K A);
        later = either_way (λ x. old.phase ≤ x.phase) (λ q. omega (arith, all_later)) (λ q. all_later);
        low = end_low n;
        proposed = end_proposed;
        heard = hears;
        decision = decided (is_decided end) refl;
      }
    where
      hears : (v : Value) (t : ℕ) → Hears (settled end) v t → Voted (Sent vote events) t end.phase v
      hears Zero t m = end_heard Zero t m
      hears One t m = end_heard One t m
      hears Blank t m = end_heard Blank t m

      decided : (t : Bool) → is_decided end ≡ t → (cond t (decision_for end.value) end.decision ≡ Unwritten → ⊥)
          → ((b : Ballot) × Sent vote events b × (b.status ≡ Decided) × (cond t (decision_for end.value) end.decision ≡ decision_for b.value)) ⊎ ((end.status ≡ Decided) × (cond t (decision_for end.value) end.decision ≡ decision_for end.value))
      decided true q w = inr ((means_decided end).0 q, refl)
      decided false q w =
          let r = K.decision e.head A.head (λ z. w (same.2 ∙ z)) in
          inl (r.0, r.1, r.2, same.2 ∙ r.3)

  pub kept_next : Kept vote (e ∷ events)
  kept_next = go (event_number vote events e K A)
    where
      go : (tick_number old e.bytes e.coin ≡ 0) ⊎ ((tick_number old e.bytes e.coin ≡ 10) × Quorum all × (all.phase ≡ 65535)) → Kept vote (e ∷ events)
      go (inl n) = kept_after (settled end) (accepted_head n) (after_accepted n)
      go (inr n) = kept_after old (refused_head (λ z. omega (arith, n.0))) after_refused

pub kept_run : (vote : Vote) (events : List Event) → Run vote events → Kept vote events
kept_run vote [] proper = kept_start vote proper
kept_run vote (e ∷ events) run = kept_next vote events e (kept_run vote events run.0) run.1
