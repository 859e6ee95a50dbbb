-- The ballot that step 2 copies: going through the list finds it, and it is of the highest phase.
use Prim.Native.Nat.{ℕ, zero, suc, ◌+◌, ◌-◌, ◌≤◌, ◌<◌}
use mathlib.Core.Path.{◌≡◌, refl, sym, ap, subst}
use mathlib.Core.List.{List}
use mathlib.Core.Bool.{Bool, true, false, cond, not}
use mathlib.Core.Logic.{◌⊎◌, inl, inr}
use native.Mathlib.Decide.{dec_lt}
use native.Mathlib.Omega.{arith}
use Rattle.rules.specs.declared.Ballot.{Ballot}
use Rattle.rules.specs.Below.{some}
use Rattle.rules.specs.Ballot.{ballot_at}
use Rattle.rules.specs.Tick.{ballots, leader}
use Rattle.rules.specs.Choice.{ahead}
use Rattle.rules.proofs.Counting.Truth.{Means, means_and, means_or, means_lt, means_eq, false_not, not_false}
use Rattle.rules.proofs.Counting.Below.{first_at, some_here, some_not, none_more}

-- ---- the order of ballots

abbrev pub Ahead : Ballot → Ballot → Type 0
Ahead a b = (b.phase < a.phase) ⊎ ((a.phase ≡ b.phase) × (a.sender < b.sender))

pub means_ahead : (a b : Ballot) → Means (ahead a b) (Ahead a b)
unfolding ahead
means_ahead a b = means_or means_lt (means_and (means_eq a.phase b.phase) means_lt)

-- where a is ahead of b, and c is not, a is ahead of c
Ahead-over : (a b c : Ballot) → Ahead a b → (Ahead c b → ⊥) → Ahead a c
Ahead-over a b c p n = go p (dec_lt c.phase a.phase) (dec_lt a.sender c.sender)
  where
    behind : c.phase ≤ b.phase
    behind = elim (dec_lt b.phase c.phase) [ yes l ↦ absurd (n (inl l)) | no l ↦ omega arith ]

    after : c.phase ≡ b.phase → b.sender ≤ c.sender
    after e = elim (dec_lt c.sender b.sender) [ yes l ↦ absurd (n (inr (e, l))) | no l ↦ omega arith ]

    go : Ahead a b → Dec (c.phase < a.phase) → Dec (a.sender < c.sender) → Ahead a c
    go q (yes l) d = inl l
    go (inl q) (no l) d = absurd (omega (arith, behind))
    go (inr q) (no l) (yes m) = let e = q.0 in inr (omega (arith, behind), m)
    go (inr q) (no l) (no m) = let e = q.0 in let f = q.1 in absurd (omega (arith, after (omega (arith, behind))))

ahead_over : (a b c : Ballot) → ahead a b ≡ true → ahead c b ≡ false → ahead a c ≡ true
ahead_over a b c p n = (means_ahead a c).1 (Ahead-over a b c ((means_ahead a b).0 p) (false_not (means_ahead c b) n))

ahead_not : (a b : Ballot) → ahead a b ≡ true → ahead b a ≡ false
ahead_not a b p = not_false (means_ahead b a) (clash ((means_ahead a b).0 p))
  where
    clash : Ahead a b → Ahead b a → ⊥
    clash (inl p) (inl q) = omega arith
    clash (inl p) (inr q) = let e = q.0 in omega arith
    clash (inr p) (inl q) = let e = p.0 in omega arith
    clash (inr p) (inr q) = let e = p.1 in let f = q.1 in omega arith

ahead_self : (a : Ballot) → ahead a a ≡ false
ahead_self a = not_false (means_ahead a a) none
  where
    none : Ahead a a → ⊥
    none (inl p) = omega arith
    none (inr p) = let e = p.1 in omega arith

-- ---- going through the list

-- among the first i ballots, none is ahead of the one at best, and that one is ahead of all before it
pub record Leads (l : List ℕ) (i best : ℕ) : Type 0 where
  pub within : best < i
  pub behind : (j : ℕ) → j < i → ahead (ballot_at l j) (ballot_at l best) ≡ false
  pub first : (j : ℕ) → j < best → ahead (ballot_at l best) (ballot_at l j) ≡ true

leads_start : (l : List ℕ) → Leads l 1 0
leads_start l = record { within = omega arith; behind = one; first = λ j h. absurd (omega arith) }
  where
    one : (j : ℕ) → j < 1 → ahead (ballot_at l j) (ballot_at l 0) ≡ false
    one zero h = ahead_self (ballot_at l 0)
    one (suc j) h = absurd (omega arith)

leads_next : {l : List ℕ} {i best : ℕ} → Leads l i best → ahead (ballot_at l i) (ballot_at l best) ≡ true → Leads l (i + 1) i
leads_next {l} {i} {best} p e =
    record {
      within = omega arith;
      behind = none_more (λ j h. ahead_not (ballot_at l i) (ballot_at l j) (over j h)) (ahead_self (ballot_at l i));
      first = over;
    }
  where
    over : (j : ℕ) → j < i → ahead (ballot_at l i) (ballot_at l j) ≡ true
    over j h = ahead_over (ballot_at l i) (ballot_at l best) (ballot_at l j) e (p.behind j h)

leads_stay : {l : List ℕ} {i best : ℕ} → Leads l i best → ahead (ballot_at l i) (ballot_at l best) ≡ false → Leads l (i + 1) best
leads_stay p e = record { within = omega (arith, p.within); behind = none_more p.behind e; first = p.first }

leads_more : {l : List ℕ} {i best : ℕ} → Leads l i best → Leads l (i + 1) (cond (ahead (ballot_at l i) (ballot_at l best)) i best)
leads_more {l} {i} {best} p = go (ahead (ballot_at l i) (ballot_at l best)) refl
  where
    go : (t : Bool) → ahead (ballot_at l i) (ballot_at l best) ≡ t → Leads l (i + 1) (cond t i best)
    go true e = leads_next p e
    go false e = leads_stay p e

-- the one that leads all ballots is the leader
leads_all : (l : List ℕ) (best : ℕ) → Leads l (ballots l) best → best ≡ leader l
unfolding leader
leads_all l best p =
    sym
    (first_at (ballots l) (λ i. not (some (ballots l) (λ j. ahead (ballot_at l j) (ballot_at l i)))) best
    (λ j b. ap not (some_here (ballots l) (λ k. ahead (ballot_at l k) (ballot_at l j)) best p.within (p.first j b)))
    (ap not (some_not (ballots l) (λ k. ahead (ballot_at l k) (ballot_at l best)) p.behind))
    p.within)

-- some ballot leads
leading : (l : List ℕ) (k : ℕ) → (best : ℕ) × Leads l (k + 1) best
leading l zero = (0, leads_start l)
leading l (suc k) =
    let r = leading l k in
    let best = cond (ahead (ballot_at l (k + 1)) (ballot_at l r.0)) (k + 1) r.0 in
    (best, subst (λ (m : ℕ). Leads l m best) (omega arith) (leads_more r.1))

pub leader_leads : (l : List ℕ) → 0 < ballots l → Leads l (ballots l) (leader l)
leader_leads l h =
    let r = leading l (ballots l - 1) in
    let p : Leads l (ballots l) r.0 = subst (λ (m : ℕ). Leads l m r.0) (omega arith) r.1 in
    subst (λ (b : ℕ). Leads l (ballots l) b) (leads_all l r.0 p) p

-- no ballot is of a higher phase than the leader
pub leader_highest : (l : List ℕ) (i : ℕ) → i < ballots l → (ballot_at l i).phase ≤ (ballot_at l (leader l)).phase
leader_highest l i h = go (dec_lt (ballot_at l (leader l)).phase (ballot_at l i).phase)
  where
    p : Leads l (ballots l) (leader l)
    p = leader_leads l (omega arith)

    go : Dec ((ballot_at l (leader l)).phase < (ballot_at l i).phase) → (ballot_at l i).phase ≤ (ballot_at l (leader l)).phase
    go (yes b) = absurd (false_not (means_ahead (ballot_at l i) (ballot_at l (leader l))) (p.behind i h) (inl b))
    go (no b) = omega arith
