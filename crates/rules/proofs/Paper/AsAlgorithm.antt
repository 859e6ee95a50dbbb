-- Demand 2: every accepted tick does what Algorithm 1 does with all ballots heard so far.
use Prim.Native.Nat.{ℕ, ◌*◌, ◌≤◌, ◌<◌}
use mathlib.Core.Path.{◌≡◌, refl, ap, subst, ◌∙◌}
use mathlib.Core.List.Memᴰ
use mathlib.Core.List.{List, [], ◌∷◌, ◌++◌, Memᴰ}
use mathlib.Core.Bool.{Bool, true, false, cond, true≢false}
use mathlib.Core.Logic.{◌⊎◌, inl, inr, ◌↔◌}
use native.Mathlib.Decide.{ℕ_discrete}
use native.Mathlib.Omega.{arith}
use lib.Dec.{ltb}
use borrow.Author.Tests.{eq-eqb, ne_eqb, lt-ltb, le-leb}
use Rattle.rules.specs.declared.Value.{Value}
use Rattle.rules.specs.declared.Ballot.{Ballot}
use Rattle.rules.specs.declared.Head.{Head}
use Rattle.rules.specs.Below.{some}
use Rattle.rules.specs.Ballot.{ballot_at, value_code}
use Rattle.rules.specs.Head.{fresh, start_number, start_of, ballot_of}
use Rattle.rules.specs.Tick.{ballots, leader, moved, added, gathered, quorum, risen, stepped, settled, tick_number, tick_of, majority}
use Rattle.rules.specs.Given.{Hears, SomeBallot, Says, HeldOrSent, HeardAtAll}
use Rattle.rules.specs.Algorithm.{Process, some_in, lines1to4, line8, foremost, lines9to13, lines33to35, at_phase_with, clock_tick, line6}
use Rattle.rules.specs.History.{Handed, head_after, accepted_of, ballots_in, process_after, Shows, OneBitIsThere}
use Rattle.rules.proofs.Counting.Truth.{means_as, means_lt, means_same, false_not}
use Rattle.rules.proofs.Counting.Below.{means_some}
use Rattle.rules.proofs.Meaning.Meanings.{hears_nobody}
use Rattle.rules.proofs.OneTick.Leader.{Ahead, means_ahead, Leads, leader_leads, leader_highest}
use Rattle.rules.proofs.Meaning.Accepted.{Accepted, tick_accepted}
use Rattle.rules.proofs.OneTick.Senders.{Moves, stays, copies, moves, gathered_same, heard_exactly, tick_hears}
use Rattle.rules.proofs.OneTick.Soundness.{gathered_later, gathered_members, gathered_disjoint, one_majority}
use Rattle.rules.proofs.Paper.HeardSoFar.{Among, means_among, new_or_old, new, among_all, among_new, NoneAhead, foremost_is, same_ballot, heard_in}
use Rattle.rules.proofs.Paper.BySender.{shown, BySender, stepped_is, majority_is, any_is}
use Rattle.rules.proofs.Counting.Sets.{means_any}
use Rattle.rules.specs.Heard.{heard}
use Rattle.rules.specs.declared.Value.TheVariants.{Zero, One}
use Rattle.rules.proofs.Meaning.Answers.{refused_tick}

-- a head that has heard all these ballots: none is of a later phase than its own, and it hears the senders of its phase
record HasHeard (h : Head) (all : List Ballot) : Type 0 where
  past : (b : Ballot) → Memᴰ b all → b.phase ≤ h.phase
  senders : (v : Value) (s : ℕ) → Hears h v s ↔ Among all (Says h.phase v s)

module _ (h : Head) (l : List ℕ) (coin : ℕ) (old : List Ballot) (a : Accepted h l coin) (before : HasHeard h old) where
  -- what step 2 finds in the whole set it finds in the list
  found : some_in (ballots_in l ++ old) (λ b. ltb h.phase b.phase) ≡ some (ballots l) (λ i. ltb h.phase (ballot_at l i).phase)
  found =
      let e = among_new l old (λ b. h.phase < b.phase) (λ b m p. omega (arith, before.past b m)) in
      means_same (means_as e.0 e.1 (means_among (λ b. means_lt))) (means_some (λ i. means_lt))

  -- the ballot that step 2 copies is the foremost of the whole set
  copied : SomeBallot l (λ i. h.phase < (ballot_at l i).phase) → foremost (ballots_in l ++ old) (ballots_in l ++ old) ≡ ballot_at l (leader l)
  copied r = foremost_is none_ahead only (new l old (leader l) leads.within)
    where
      best : Ballot
      best = ballot_at l (leader l)

      leads : Leads l (ballots l) (leader l)
      leads = leader_leads l (omega (arith, r.1))

      older : (c : Ballot) → Memᴰ c old → c.phase < best.phase
      older c m = omega (arith, before.past c m, r.2, leader_highest l r.0 r.1)

      older_behind : (c : Ballot) → Memᴰ c old → Ahead c best → ⊥
      older_behind c m (inl p) = omega (arith, older c m)
      older_behind c m (inr p) = omega (arith, older c m, p.0)

      behind : (i : ℕ) → i < ballots l → Ahead (ballot_at l i) best → ⊥
      behind i b = false_not (means_ahead (ballot_at l i) best) (leads.behind i b)

      none_ahead : NoneAhead (ballots_in l ++ old) best
      none_ahead r = let x = (among_new l old (λ c. Ahead c best) older_behind).0 r in behind x.0 x.1 x.2

      only : (c : Ballot) → Memᴰ c (ballots_in l ++ old) → NoneAhead (ballots_in l ++ old) c → c ≡ best
      only c m none = go (new_or_old l m)
        where
          best_behind : Ahead best c → ⊥
          best_behind p = none (best, new l old (leader l) leads.within, p)

          go : SomeBallot l (λ i. c ≡ ballot_at l i) ⊎ Memᴰ c old → c ≡ best
          go (inl x) =
              x.2
              ∙ same_ballot (ballot_at l x.0) best (behind x.0 x.1) (subst (λ (d : Ballot). Ahead best d → ⊥) x.2 best_behind)
              (a.once x.0 (leader l) x.1 leads.within)
          go (inr k) = absurd (best_behind (inl (older c k)))

  -- steps 1 and 2 do what lines 8 to 13 do
  gathered_is : lines9to13 (line8 (shown h old) (ballots_in l)) ≡ shown (gathered h l) (ballots_in l ++ old)
  unfolding lines9to13 gathered added moved
  gathered_is = go (some (ballots l) (λ i. ltb h.phase (ballot_at l i).phase)) refl
    where
      go : (t : Bool) → some (ballots l) (λ i. ltb h.phase (ballot_at l i).phase) ≡ t → lines9to13 (line8 (shown h old) (ballots_in l)) ≡ shown (gathered h l) (ballots_in l ++ old)
      go true e = rw (found, e, copied ((means_some (λ i. means_lt)).0 e))
      go false e = rw (found, e)

  -- steps 1 and 2 keep n
  gathered_heads : (gathered h l).n ≡ h.n
  gathered_heads = (gathered_same h l).0

  -- after them no ballot is of a later phase
  gathered_past : (b : Ballot) → Memᴰ b (ballots_in l ++ old) → b.phase ≤ (gathered h l).phase
  unfolding gathered added
  gathered_past b m = go (new_or_old l m) (moves h l)
    where
      go : SomeBallot l (λ i. b ≡ ballot_at l i) ⊎ Memᴰ b old → Moves h l → b.phase ≤ (moved h l).phase
      go (inl x) (stays q f) = rw (q, x.2) (f x.0 x.1)
      go (inl x) (copies i c q u f) = rw (q, x.2) (f x.0 x.1)
      go (inr k) w = omega (arith, before.past b k, gathered_later h l coin a)

  -- who was held or sent a ballot of the list is who sent a ballot of all
  held_or_sent : (v : Value) (s : ℕ) → HeldOrSent h l v s ↔ Among (ballots_in l ++ old) (Says (gathered h l).phase v s)
  unfolding gathered added
  held_or_sent v s = (λ x. whole.1 (there x), λ r. back (whole.0 r))
    where
      whole : Among (ballots_in l ++ old) (Says (moved h l).phase v s) ↔ (SomeBallot l (λ i. Says (moved h l).phase v s (ballot_at l i)) ⊎ Among old (Says (moved h l).phase v s))
      whole = among_all l old (Says (moved h l).phase v s)

      there : HeldOrSent h l v s → SomeBallot l (λ i. Says (moved h l).phase v s (ballot_at l i)) ⊎ Among old (Says (moved h l).phase v s)
      there (inl x) = inr (rw x.0 ((before.senders v s).0 x.1))
      there (inr x) = inl x

      back : SomeBallot l (λ i. Says (moved h l).phase v s (ballot_at l i)) ⊎ Among old (Says (moved h l).phase v s) → HeldOrSent h l v s
      back (inl x) = inr x
      back (inr r) =
          let same : (moved h l).phase ≡ h.phase = omega (arith, r.2.0, before.past r.0 r.1, gathered_later h l coin a) in
          inl (same, (before.senders v s).1 (rw same at r))

  -- so the sets after steps 1 and 2 are those of the whole set
  gathered_sets : BySender (gathered h l) (ballots_in l ++ old)
  gathered_sets =
      record {
        few = omega (arith, gathered_heads, a.sound.heads.1);
        members = λ v s m. omega (arith, gathered_heads, gathered_members h l coin a v s m);
        disjoint = gathered_disjoint h l coin a;
        senders = λ v s. (λ m. (held_or_sent v s).0 ((heard_exactly h l coin a v s).0 m), λ r. (heard_exactly h l coin a v s).1 ((held_or_sent v s).1 r));
      }

  -- the tests of lines 16, 22 and 25 hold of one bit at most
  one_bit : OneBitIsThere (shown (gathered h l) (ballots_in l ++ old))
  one_bit =
      record {
        majority = λ p q. absurd (omega (arith, ap value_code (one_majority h l coin a Zero One (most Zero p) (most One q))));
        heard = λ o p q. a.even o (any Zero p) (any One q);
      }
    where
      most : (v : Value) → (gathered h l).n < at_phase_with (shown (gathered h l) (ballots_in l ++ old)) v * 2 → majority (gathered h l) v ≡ true
      most v p = majority_is (gathered h l) (ballots_in l ++ old) gathered_sets v ∙ lt-ltb (gathered h l).n _ p

      any : (v : Value) → 1 ≤ at_phase_with (shown (gathered h l) (ballots_in l ++ old)) v → HeardAtAll (gathered h l) v
      any v p = (means_any (heard (gathered h l) v)).0 (any_is (gathered h l) (ballots_in l ++ old) gathered_sets v ∙ le-leb 1 _ p)

  -- an accepted tick does what a clock tick does
  tick_is : tick_number h l coin ≡ 0 → clock_tick (shown h old) (ballots_in l) coin ≡ shown (tick_of h l coin).head (ballots_in l ++ old)
  unfolding clock_tick lines33to35 tick_of settled
  tick_is e = rw (e, gathered_is, stepped_is (gathered h l) (ballots_in l ++ old) gathered_sets coin)

  -- and leaves a head that has heard all
  tick_heard : tick_number h l coin ≡ 0 → HasHeard (tick_of h l coin).head (ballots_in l ++ old)
  unfolding tick_of settled stepped
  tick_heard e = let f = tick_hears h l coin e in rw e (go (quorum (gathered h l)) (rw e at f))
    where
      go : (t : Bool) → ((v : Value) (s : ℕ) → Hears (settled (cond t (risen (gathered h l) coin) (gathered h l))) v s ↔ ((t ≡ false) × HeldOrSent h l v s))
          → HasHeard (settled (cond t (risen (gathered h l) coin) (gathered h l))) (ballots_in l ++ old)
      go true f =
          record {
            past = λ b m. omega (arith, gathered_past b m);
            senders = λ v s. (λ m. absurd (true≢false ((f v s).0 m).0), λ r. absurd (omega (arith, r.2.0, gathered_past r.0 r.1)));
          }
      go false f =
          record {
            past = gathered_past;
            senders = λ v s. (λ m. (held_or_sent v s).0 ((f v s).0 m).1, λ r. (f v s).1 (refl, (held_or_sent v s).1 r));
          }

-- ---- a sequence of ticks

-- process i has what head h has, and h has heard all these ballots
abbrev Follows : Head → Process → List Ballot → Type 0
Follows h i all = (i ≡ shown h all) × HasHeard h all

-- a start that is accepted begins Algorithm 1
begins : (n own proposal : ℕ) → start_number n own proposal ≡ 0
    → Follows (start_of n own proposal).head (lines1to4 n own proposal) []
unfolding start_of
begins n own proposal e = rw e (refl, record { past = λ b m. absurd (Memᴰ.not-nil m); senders = no_senders })
  where
    no_senders : (v : Value) (s : ℕ) → Hears (fresh n own proposal) v s ↔ Among [] (Says 1 v s)
    no_senders v s = (λ m. absurd (hears_nobody (fresh n own proposal) refl refl refl v s m), λ r. absurd (Memᴰ.not-nil r.1))

-- a tick that is accepted goes on with it
goes_on : {h : Head} {i : Process} {old : List Ballot} (l : List ℕ) (coin : ℕ) → Follows h i old → tick_number h l coin ≡ 0
    → Follows (tick_of h l coin).head (clock_tick i (ballots_in l) coin) (ballots_in l ++ old)
goes_on {h} {i} {old} l coin f e =
    let a = tick_accepted h l coin e in
    (ap (λ (j : Process). clock_tick j (ballots_in l) coin) f.0 ∙ tick_is h l coin old a f.1 e, tick_heard h l coin old a f.1 e)

module _ (n own proposal : ℕ) (started : start_number n own proposal ≡ 0) where
  abbrev process : List Handed → Process
  process ticks = process_after n own proposal (accepted_of n own proposal ticks)

  abbrev all : List Handed → List Ballot
  all ticks = heard_in (accepted_of n own proposal ticks)

  -- so the head and the process go together through all ticks
  follows : (ticks : List Handed) → Follows (head_after n own proposal ticks) (process ticks) (all ticks)
  follows [] = begins n own proposal started
  follows (t ∷ ticks) = go (ℕ_discrete (tick_number (head_after n own proposal ticks) t.bytes t.coin) 0) (follows ticks)
    where
      go : Dec (tick_number (head_after n own proposal ticks) t.bytes t.coin ≡ 0)
          → Follows (head_after n own proposal ticks) (process ticks) (all ticks)
          → Follows (head_after n own proposal (t ∷ ticks)) (process (t ∷ ticks)) (all (t ∷ ticks))
      go (yes e) f = rw (eq-eqb (tick_number (head_after n own proposal ticks) t.bytes t.coin) 0 e) (goes_on t.bytes t.coin f e)
      go (no e) f =
          rw (ne_eqb (tick_number (head_after n own proposal ticks) t.bytes t.coin) 0 e, refused_tick (head_after n own proposal ticks) t.bytes t.coin e) f

  -- "Each accepted tick does what Algorithm 1 .. does with all ballots heard so far"
  pub as_algorithm_1 : (ticks : List Handed) → Shows (head_after n own proposal ticks) (process ticks)
  as_algorithm_1 ticks = let f = follows ticks in rw f.0 (shows f.1)
    where
      -- the process shown has what the head has
      shows : {h : Head} {all : List Ballot} → HasHeard h all → Shows h (shown h all)
      shows k =
          record { n = refl; own = refl; phase = refl; value = refl; status = refl; decision = refl; heard = k.senders }

  -- Where the paper takes or draws a bit, both are never there: two majorities meet, and at an even phase 9 would be
  -- given.
  pub one_bit_is_there : (ticks : List Handed) (t : Handed)
      → tick_number (head_after n own proposal ticks) t.bytes t.coin ≡ 0
      → OneBitIsThere (lines9to13 (line8 (process ticks) (ballots_in t.bytes)))
  one_bit_is_there ticks t e =
      let f = follows ticks in
      let h = head_after n own proposal ticks in
      let a = tick_accepted h t.bytes t.coin e in
      rw (f.0, gathered_is h t.bytes t.coin (all ticks) a f.1) (one_bit h t.bytes t.coin (all ticks) a f.1)

-- line 6: what the head sends is what the process broadcasts
pub sends_line_6 : (h : Head) (i : Process) → Shows h i → ballot_of h ≡ line6 i
sends_line_6 h i k = λ j. record { sender = k.own j; value = k.value j; status = k.status j; phase = k.phase j }
