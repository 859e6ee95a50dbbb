-- Document 01's rounds: whatever they lose, they are runs of demand 3; and each head is ticked once in a round.
use Prim.Native.Nat.{ℕ, zero, suc, ◌+◌, ◌*◌, ◌≤◌, ◌<◌}
use mathlib.Core.Path.{◌≡◌, refl, sym, ap, ap₂, ◌∙◌}
use mathlib.Core.List.{List, [], ◌∷◌, ◌++◌}
use mathlib.Core.Bool.{Bool, true, false, cond}
use mathlib.Core.Logic.{inl, inr}
use native.Mathlib.Decide.{dec_lt, ℕ_discrete}
use native.Mathlib.Omega.{arith}
use lib.ListN.{length, length-append, get_or-append}
use lib.Seq.{get_or-append_seam}
use borrow.Author.Tests.{eq-eqb, ne_eqb}
use Rattle.rules.specs.declared.Ballot.{Ballot}
use Rattle.rules.specs.declared.Head.{Head}
use Rattle.rules.specs.Ballot.{bytes_of, zero_ballot, encode, five_at}
use Rattle.rules.specs.Head.{ballot_of}
use Rattle.rules.specs.Tick.{ballots, tick_of}
use Rattle.rules.specs.Given.{Heads}
use Rattle.rules.specs.Run.{Vote, Proper, Event, head_in, Sent, Allowed, Run}
use Rattle.rules.specs.Round.{Channel, received, ticks_of_round, round, LosesNothing, CoinsAreBits}
use Rattle.rules.proofs.Layouts.Encoding.{nth, encode_append, encode_length, encode_ballots, encode_five}

-- ---- what was sent

-- a head's present ballot was sent
pub sent_now : (vote : Vote) (events : List Event) (s : ℕ) → s < vote.n → Sent vote events (ballot_of (head_in vote events s))
sent_now vote [] s h = (s, h, refl)
sent_now vote (e ∷ events) s h = inl (s, h, refl)

-- what was sent before a round was sent before each of its ticks
pub sent_in_round : (vote : Vote) (before : List Event) (channel : Channel) (k : ℕ) (b : Ballot) → Sent vote before b → Sent vote (ticks_of_round vote before channel k) b
sent_in_round vote before channel zero b x = x
sent_in_round vote before channel (suc k) b x = inr (sent_in_round vote before channel k b x)

-- a run is one of a proper vote
pub run_proper : (vote : Vote) (events : List Event) → Run vote events → Proper vote
run_proper vote [] run = run
run_proper vote (e ∷ events) run = run_proper vote events run.0

-- ---- what is received

module _ (vote : Vote) (before : List Event) (channel : Channel) (receiver : ℕ) where
  -- the ballots of heads 0 to k - 1 that are not lost to the receiver
  abbrev pub arriving : ℕ → List Ballot
  arriving zero = []
  arriving (suc k) = arriving k ++ cond (channel.lost receiver k) [] (ballot_of (head_in vote before k) ∷ [])

  -- the bytes received are theirs
  pub received_is : (k : ℕ) → received (head_in vote before) (channel.lost receiver) k ≡ encode (arriving k)
  received_is zero = refl
  received_is (suc k) = ap₂ (λ (a b : List ℕ). a ++ b) (received_is k) (one (channel.lost receiver k)) ∙ sym (encode_append (arriving k) _)
    where
      one : (t : Bool) → cond t [] (bytes_of (ballot_of (head_in vote before k))) ≡ encode (cond t [] (ballot_of (head_in vote before k) ∷ []))
      one true = refl
      one false = refl

  -- at most one from each head
  pub arriving_few : (k : ℕ) → length (arriving k) ≤ k
  arriving_few zero = omega arith
  arriving_few (suc k) = rw length-append (let i = arriving_few k in omega (arith, one (channel.lost receiver k)))
    where
      one : (t : Bool) → length (cond t [] (ballot_of (head_in vote before k) ∷ [])) ≤ 1
      one true = omega arith
      one false = omega arith

  -- each is the ballot that some head had before the round
  pub arriving_from : (k i : ℕ) → i < length (arriving k) → (s : ℕ) × (s < k) × (nth (arriving k) i ≡ ballot_of (head_in vote before s))
  arriving_from zero i h = absurd (omega arith)
  arriving_from (suc k) i h = go (channel.lost receiver k) (dec_lt i (length (arriving k))) (rw length-append at h) (arriving_from k i)
    where
      b : Ballot
      b = ballot_of (head_in vote before k)

      From : ℕ → Ballot → Type 0
      From k c = (s : ℕ) × (s < k) × (c ≡ ballot_of (head_in vote before s))

      go : (t : Bool) → Dec (i < length (arriving k)) → i < length (arriving k) + length (cond t [] (b ∷ [])) → (i < length (arriving k) → From k (nth (arriving k) i)) → From (suc k) (nth (arriving k ++ cond t [] (b ∷ [])) i)
      go t (yes l) h f = let r = f l in (r.0, omega (arith, r.1), get_or-append (arriving k) _ zero_ballot i l ∙ r.2)
      go true (no l) h f = absurd (omega arith)
      go false (no l) h f =
          let e : i ≡ length (arriving k) = omega arith in
          (k, omega arith, ap (nth (arriving k ++ (b ∷ []))) e ∙ get_or-append_seam (arriving k) b [] zero_ballot)

-- ---- rounds are runs

-- each tick of a round is allowed
round_allowed : (vote : Vote) (events : List Event) (channel : Channel) → Heads vote.n → (s : ℕ) → s < vote.n → channel.coin s < 2
    → Allowed vote (ticks_of_round vote events channel s) (record { head = s; bytes = received (head_in vote events) (channel.lost s) vote.n; coin = channel.coin s })
round_allowed vote events channel few s h bit =
    rw (received_is vote events channel s vote.n)
    (record {
      head = h;
      whole = omega (arith, encode_length list);
      few = omega (arith, encode_ballots list, arriving_few vote events channel s vote.n);
      sent = sent;
      bit = bit;
    })
  where
    list : List Ballot
    list = arriving vote events channel s vote.n

    sent : (i : ℕ) → i < ballots (encode list) → (b : Ballot) × Sent vote (ticks_of_round vote events channel s) b × (five_at (encode list) i ≡ bytes_of b)
    sent i l =
        let low : i < length list = omega (arith, encode_ballots list) in
        let r = arriving_from vote events channel s vote.n i low in
        (nth list i, sent_in_round vote events channel s (nth list i) (rw r.2 (sent_now vote events r.0 r.1)), encode_five list i low)

-- document 01's rounds, with any losses, are runs of demand 3
pub round_is_run : (vote : Vote) (events : List Event) (channel : Channel) → Run vote events → CoinsAreBits vote channel → Run vote (round vote events channel)
round_is_run vote events channel run bits = go vote.n (omega arith)
  where
    go : (k : ℕ) → k ≤ vote.n → Run vote (ticks_of_round vote events channel k)
    go zero h = run
    go (suc k) h = (go k (omega arith), round_allowed vote events channel (run_proper vote events run).heads k h (bits k h))

-- ---- each head is ticked once

module _ (vote : Vote) (before : List Event) (channel : Channel) where
  -- the ticks of the heads below k leave the others as they were before the round
  pub untouched : (k s : ℕ) → k ≤ s → head_in vote (ticks_of_round vote before channel k) s ≡ head_in vote before s
  untouched zero s h = refl
  untouched (suc k) s h = rw (ne_eqb k s (λ e. omega arith)) (untouched k s (omega arith))

  -- after the round each head has been ticked, from the state that it had before the round
  pub ticked_once : (k s : ℕ) → s < k → head_in vote (ticks_of_round vote before channel k) s ≡ (tick_of (head_in vote before s) (received (head_in vote before) (channel.lost s) vote.n) (channel.coin s)).head
  ticked_once zero s h = absurd (omega arith)
  ticked_once (suc k) s h = go (ℕ_discrete k s) (ticked_once k s)
    where
      After : Head → Type 0
      After h = h ≡ (tick_of (head_in vote before s) (received (head_in vote before) (channel.lost s) vote.n) (channel.coin s)).head

      go : Dec (k ≡ s) → (s < k → After (head_in vote (ticks_of_round vote before channel k) s)) → After (head_in vote (ticks_of_round vote before channel (suc k)) s)
      go (yes e) f = rw (eq-eqb k s e, e, untouched s s (omega arith))
      go (no e) f = rw (ne_eqb k s e) (f (omega (arith, e)))

-- ---- rounds that lose nothing

module _ (vote : Vote) (before : List Event) (channel : Channel) (none : LosesNothing vote channel) (receiver : ℕ) (low : receiver < vote.n) where
  -- every head's ballot arrives
  all_arrive : (k : ℕ) → k ≤ vote.n → length (arriving vote before channel receiver k) ≡ k
  all_arrive zero h = refl
  all_arrive (suc k) h = rw (none receiver k low h, length-append) (let i = all_arrive k (omega arith) in omega arith)

  -- at the index that is its sender's number
  arrives_at : (k i : ℕ) → k ≤ vote.n → i < k → nth (arriving vote before channel receiver k) i ≡ ballot_of (head_in vote before i)
  arrives_at zero i few h = absurd (omega arith)
  arrives_at (suc k) i few h = rw (none receiver k low few) (go (dec_lt i k) (arrives_at k i (omega arith)))
    where
      list : List Ballot
      list = arriving vote before channel receiver k

      b : Ballot
      b = ballot_of (head_in vote before k)

      go : Dec (i < k) → (i < k → nth list i ≡ ballot_of (head_in vote before i)) → nth (list ++ (b ∷ [])) i ≡ ballot_of (head_in vote before i)
      go (yes l) f = get_or-append list (b ∷ []) zero_ballot i (omega (arith, all_arrive k (omega arith))) ∙ f l
      go (no l) f =
          let e : i ≡ k = omega arith in
          let last : i ≡ length list = omega (arith, all_arrive k (omega arith)) in
          ap (nth (list ++ (b ∷ []))) last ∙ get_or-append_seam list b [] zero_ballot ∙ ap (λ (s : ℕ). ballot_of (head_in vote before s)) (sym e)

  -- so what is received is n ballots
  pub lossless_length : length (received (head_in vote before) (channel.lost receiver) vote.n) ≡ vote.n * 5
  lossless_length =
      rw (received_is vote before channel receiver vote.n)
      (omega (arith, encode_length (arriving vote before channel receiver vote.n), all_arrive vote.n (omega arith)))

  -- and the one at an index is that of the head of that number
  pub lossless_five : (i : ℕ) → i < vote.n → five_at (received (head_in vote before) (channel.lost receiver) vote.n) i ≡ bytes_of (ballot_of (head_in vote before i))
  lossless_five i h =
      rw (received_is vote before channel receiver vote.n)
      (encode_five (arriving vote before channel receiver vote.n) i (omega (arith, all_arrive vote.n (omega arith)))
      ∙ ap bytes_of (arrives_at vote.n i (omega arith) h))
