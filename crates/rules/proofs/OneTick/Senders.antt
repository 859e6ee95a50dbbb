-- Steps 1 and 2: whom a head hears afterwards. The three sets, "counted by sender".
use Prim.Native.Nat.{ℕ, ◌^◌, ◌≤◌, ◌<◌}
use mathlib.Core.Path.{◌≡◌, refl, sym, ap, subst, ◌∙◌}
use mathlib.Core.List.{List}
use mathlib.Core.Bool.{Bool, true, false, cond, ◌||◌, true≢false}
use mathlib.Core.Logic.{◌⊎◌, inl, inr, ◌↔◌}
use native.Mathlib.Decide.{dec_lt}
use native.Mathlib.Omega.{arith}
use lib.Dec.{ltb}
use borrow.Author.Tests.{ltb-true, ltb-false}
use Rattle.rules.specs.declared.Value.{Value}
use Rattle.rules.specs.declared.Value.TheVariants.{Zero, One, Blank}
use Rattle.rules.specs.declared.Ballot.{Ballot}
use Rattle.rules.specs.declared.Head.{Head}
use Rattle.rules.specs.Below.{some}
use Rattle.rules.specs.Ballot.{ballot_at}
use Rattle.rules.specs.Heard.{member, heard, says}
use Rattle.rules.specs.Tick.{ballots, leader, copying, moved, heard_with, added, gathered, quorum, risen, stepped, settled, tick_number, tick_of}
use Rattle.rules.specs.Given.{Hears, SomeBallot, Says, HeldOrSent}
use Rattle.rules.proofs.Counting.Truth.{Means, never, means_as, means_self, means_and, means_or, means_eq}
use Rattle.rules.proofs.Counting.Below.{means_some, not_some}
use Rattle.rules.proofs.Counting.Sets.{member_high, member_set_of, set_of_lt}
use Rattle.rules.proofs.Meaning.Meanings.{means_value, hears_nobody}
use Rattle.rules.proofs.OneTick.Leader.{leader_leads, leader_highest}
use Rattle.rules.proofs.Meaning.Accepted.{Accepted, tick_accepted}

-- ---- step 2

-- either no ballot is above the head and it stays, or it copies one that none is above
pub data Moves (h : Head) (l : List ℕ) : Type 0 where
  stays : moved h l ≡ h → ((i : ℕ) → i < ballots l → (ballot_at l i).phase ≤ h.phase) → Moves h l
  copies : (i : ℕ) → i < ballots l → moved h l ≡ copying h (ballot_at l i) → h.phase < (ballot_at l i).phase
      → ((j : ℕ) → j < ballots l → (ballot_at l j).phase ≤ (ballot_at l i).phase) → Moves h l

pub moves : (h : Head) (l : List ℕ) → Moves h l
unfolding moved
moves h l = go (some (ballots l) above) refl
  where
    above : ℕ → Bool
    above i = ltb h.phase (ballot_at l i).phase

    go : (t : Bool) → some (ballots l) above ≡ t → Moves h l
    go true e =
        let r = (means_some (λ i. means_self (above i))).0 e in
        let p = leader_leads l (omega (arith, r.1)) in
        copies (leader l) p.within (ap (λ (t : Bool). cond t (copying h (ballot_at l (leader l))) h) e)
        (omega (arith, ltb-true h.phase (ballot_at l r.0).phase r.2, leader_highest l r.0 r.1))
        (leader_highest l)
    go false e =
        stays (ap (λ (t : Bool). cond t (copying h (ballot_at l (leader l))) h) e)
        (λ i b. ltb-false h.phase (ballot_at l i).phase (not_some (ballots l) above e i b))

-- step 2 keeps the vote, the own number and the decision
pub moved_same : (h : Head) (l : List ℕ) → ((moved h l).n ≡ h.n) × ((moved h l).own ≡ h.own) × ((moved h l).decision ≡ h.decision)
moved_same h l = go (moves h l)
  where
    go : Moves h l → ((moved h l).n ≡ h.n) × ((moved h l).own ≡ h.own) × ((moved h l).decision ≡ h.decision)
    go (stays q f) = (ap (λ (k : Head). k.n) q, ap (λ (k : Head). k.own) q, ap (λ (k : Head). k.decision) q)
    go (copies i b q u f) = (ap (λ (k : Head). k.n) q, ap (λ (k : Head). k.own) q, ap (λ (k : Head). k.decision) q)

pub gathered_same : (h : Head) (l : List ℕ) → ((gathered h l).n ≡ h.n) × ((gathered h l).own ≡ h.own) × ((gathered h l).decision ≡ h.decision)
unfolding gathered added
gathered_same h l = moved_same h l

-- ---- step 1

means_says : (phase : ℕ) (v : Value) (s : ℕ) (b : Ballot) → Means (says phase v s b) (Says phase v s b)
unfolding says
means_says phase v s b =
    means_as (λ r. (r.0, r.1.0, r.1.1)) (λ r. (r.0, (r.1, r.2)))
    (means_and (means_eq b.phase phase) (means_and (means_eq b.sender s) (means_value b.value v)))

-- the senders among the first 32 head numbers
pub means_heard : (h : Head) (l : List ℕ) (v : Value) (s : ℕ) → s < 32 → Means (member s (heard (gathered h l) v)) (Hears (moved h l) v s ⊎ SomeBallot l (λ i. Says (moved h l).phase v s (ballot_at l i)))
unfolding gathered added heard_with
means_heard h l v s b =
    let test = means_or (means_self (member s (heard (moved h l) v))) (means_some (λ i. means_says (moved h l).phase v s (ballot_at l i))) in
    subst (λ (t : Bool). Means t (Hears (moved h l) v s ⊎ SomeBallot l (λ i. Says (moved h l).phase v s (ballot_at l i)))) (sym (is v)) test
  where
    is : (v : Value) → member s (heard (gathered h l) v) ≡ member s (heard (moved h l) v) || some (ballots l) (λ i. says (moved h l).phase v s (ballot_at l i))
    is Zero = member_set_of 32 _ s b
    is One = member_set_of 32 _ s b
    is Blank = member_set_of 32 _ s b

heard_low : (h : Head) (l : List ℕ) (v : Value) (s : ℕ) → Hears (gathered h l) v s → s < 32
unfolding gathered added heard_with
heard_low h l v s e = elim (dec_lt s 32) [ yes b ↦ b | no b ↦ never (sym (member_high 32 s (heard (gathered h l) v) (low v) (omega arith)) ∙ e) ]
  where
    low : (v : Value) → heard (gathered h l) v < 2 ^ 32
    low Zero = set_of_lt 32 _
    low One = set_of_lt 32 _
    low Blank = set_of_lt 32 _

-- who is held at the phase that step 2 leaves
held_then : (h : Head) (l : List ℕ) (v : Value) (s : ℕ) → Hears (moved h l) v s → ((moved h l).phase ≡ h.phase) × Hears h v s
held_then h l v s e = go (moves h l)
  where
    go : Moves h l → ((moved h l).phase ≡ h.phase) × Hears h v s
    go (stays q f) = (ap (λ (k : Head). k.phase) q, subst (λ (k : Head). Hears k v s) q e)
    go (copies i b q a f) = absurd (hears_nobody (copying h (ballot_at l i)) refl refl refl v s (subst (λ (k : Head). Hears k v s) q e))

held_still : (h : Head) (l : List ℕ) (v : Value) (s : ℕ) → (moved h l).phase ≡ h.phase → Hears h v s → Hears (moved h l) v s
held_still h l v s same e = go (moves h l)
  where
    go : Moves h l → Hears (moved h l) v s
    go (stays q f) = subst (λ (k : Head). Hears k v s) (sym q) e
    go (copies i b q a f) = absurd (omega (arith, ap (λ (k : Head). k.phase) q))

pub heard_from : (h : Head) (l : List ℕ) (v : Value) (s : ℕ) → Hears (gathered h l) v s → HeldOrSent h l v s
heard_from h l v s e = elim ((means_heard h l v s (heard_low h l v s e)).0 e) [ inl x ↦ inl (held_then h l v s x) | inr x ↦ inr x ]

-- in an accepted tick, exactly those are heard after steps 1 and 2
pub heard_exactly : (h : Head) (l : List ℕ) (coin : ℕ) → Accepted h l coin → (v : Value) (s : ℕ) → Hears (gathered h l) v s ↔ HeldOrSent h l v s
heard_exactly h l coin a v s = (heard_from h l v s, back)
  where
    low : HeldOrSent h l v s → s < 32
    low (inl x) = omega (arith, a.sound.members v s x.1, a.sound.heads.1)
    low (inr x) = omega (arith, x.2.1, (a.stands x.0 x.1).sender, a.sound.heads.1)

    back : HeldOrSent h l v s → Hears (gathered h l) v s
    back x = (means_heard h l v s (low x)).1 (elim x [ inl y ↦ inl (held_still h l v s y.0 y.1) | inr y ↦ inr y ])

pub hears_exactly : (h : Head) (l : List ℕ) (coin : ℕ) → tick_number h l coin ≡ 0 → (v : Value) (s : ℕ) → Hears (gathered h l) v s ↔ HeldOrSent h l v s
hears_exactly h l coin e = heard_exactly h l coin (tick_accepted h l coin e)

-- and after the tick: exactly those where it did not step, and nobody where it did
pub tick_hears : (h : Head) (l : List ℕ) (coin : ℕ) → tick_number h l coin ≡ 0 → (v : Value) (s : ℕ) → Hears (tick_of h l coin).head v s ↔ ((quorum (gathered h l) ≡ false) × HeldOrSent h l v s)
unfolding tick_of settled stepped
tick_hears h l coin e v s = rw e (go (quorum (gathered h l)) (heard_exactly h l coin (tick_accepted h l coin e) v s))
  where
    same : (v : Value) → heard (settled (gathered h l)) v ≡ heard (gathered h l) v
    same Zero = refl
    same One = refl
    same Blank = refl

    go : (t : Bool) → Hears (gathered h l) v s ↔ HeldOrSent h l v s → Hears (settled (cond t (risen (gathered h l) coin) (gathered h l))) v s ↔ ((t ≡ false) × HeldOrSent h l v s)
    go true f = (λ m. absurd (hears_nobody (settled (risen (gathered h l) coin)) refl refl refl v s m), λ r. absurd (true≢false r.0))
    go false f = (λ m. (refl, f.0 (sym (ap (member s) (same v)) ∙ m)), λ r. ap (member s) (same v) ∙ f.1 r.1)
