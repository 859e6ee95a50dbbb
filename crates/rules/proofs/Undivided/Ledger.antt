-- Why no two heads differ: the argument on the ledger of all ballots sent, over kinds of phases.
--
-- A ledger is a set of ballots in which sender and phase determine value and status, and every ballot past phase 1 is
-- justified by ballots of the phase before, in a way that does not mention its sender: a head that copies a ballot
-- inherits its justification. Agreement compares phases, not times.
use Prim.Native.Nat.{ℕ, zero, suc, ◌+◌, ◌*◌, ◌≤◌, ◌<◌}
use mathlib.Core.Path.{◌≡◌, refl, sym, ap, subst, ◌∙◌}
use mathlib.Core.Bool.{Bool, true, ◌||◌}
use mathlib.Core.Logic.{◌⊎◌, inl, inr}
use native.Mathlib.Decide.{dec_lt}
use native.Mathlib.Omega.{arith}
use Rattle.rules.specs.declared.Value.{Value}
use Rattle.rules.specs.declared.Value.TheVariants.{Zero, One, Blank}
use Rattle.rules.specs.declared.Status.{Status}
use Rattle.rules.specs.declared.Status.TheVariants.{Undecided, Decided}
use Rattle.rules.specs.declared.Ballot.{Ballot}
use Rattle.rules.specs.Below.{count}
use Rattle.rules.proofs.Counting.Truth.{means_or, means_self}
use Rattle.rules.proofs.Counting.Counting.{count_more, meet}
use Rattle.rules.proofs.Undivided.TheBit.{Bit}

-- a lock phase lets at most one bit through; at a settle phase a head may become decided
pub data Kind : Type 0 where
  lock settle : Kind

-- a rule gives each phase its kind; before a settle phase comes a lock phase
pub record Rule : Type 0 where
  pub kind : ℕ → Kind
  pub first : kind 1 ≡ lock
  pub before : (p : ℕ) → 1 ≤ p → kind (suc p) ≡ settle → kind p ≡ lock

-- a set of ballots of a vote of n heads
abbrev pub Ballots : Type 1
Ballots = Ballot → Type 0

-- some ballot of the set has that sender, phase and value
abbrev pub Voted : Ballots → ℕ → ℕ → Value → Type 0
Voted Sent s p v = (b : Ballot) × Sent b × (b.sender ≡ s) × (b.phase ≡ p) × (b.value ≡ v)

-- v and status follow from what some head heard at phase p: over half of the n heads, all of whom voted so
pub record Justified (rule : Rule) (n : ℕ) (Sent : Ballots) (p : ℕ) (v : Value) (status : Status) : Type 0 where
  pub heard : Value → ℕ → Bool
  pub voted : (w : Value) (s : ℕ) → heard w s ≡ true → Voted Sent s p w
  pub quorum : n < count n (λ s. heard Zero s || (heard One s || heard Blank s)) * 2
  -- at a lock phase: the bit that over half have, if there is one, else blank
  pub locked : rule.kind p ≡ lock → Bit v → n < count n (heard v) * 2
  pub locks : rule.kind p ≡ lock → (w : Value) → Bit w → n < count n (heard w) * 2 → v ≡ w
  -- at a settle phase: a bit, that which was heard if one was
  pub settled : rule.kind p ≡ settle → Bit v
  pub settles : rule.kind p ≡ settle → (w : Value) (s : ℕ) → Bit w → heard w s ≡ true → v ≡ w
  -- decided: over half had the bit at a settle phase, or a ballot of the phase was decided
  pub decided : status ≡ Decided → ((rule.kind p ≡ settle) × ((w : Value) × Bit w × (n < count n (heard w) * 2))) ⊎ ((b : Ballot) × Sent b × (b.phase ≡ p) × (b.status ≡ Decided))

pub record Ledger (rule : Rule) (n : ℕ) (Sent : Ballots) : Type 1 where
  pub one : (b c : Ballot) → Sent b → Sent c → b.sender ≡ c.sender → b.phase ≡ c.phase → (b.value ≡ c.value) × (b.status ≡ c.status)
  pub start : (b : Ballot) → Sent b → b.phase ≡ 1 → Bit b.value × (b.status ≡ Undecided)
  pub phases : (b : Ballot) → Sent b → 1 ≤ b.phase
  pub later : (b : Ballot) → Sent b → (p : ℕ) → 1 ≤ p → b.phase ≡ suc p → Justified rule n Sent p b.value b.status

module _ {rule : Rule} {n : ℕ} {Sent : Ballots} (L : Ledger rule n Sent) where
  -- every ballot of phase p carries v
  abbrev pub AllCarry : ℕ → Value → Type 0
  AllCarry p v = (b : Ballot) → Sent b → b.phase ≡ p → b.value ≡ v

  -- one head votes one value a phase
  same_vote : {s p : ℕ} {v w : Value} → Voted Sent s p v → Voted Sent s p w → v ≡ w
  same_vote x y =
      sym x.4 ∙ (L.one x.0 y.0 x.1 y.1 (x.2 ∙ sym y.2) (x.3 ∙ sym y.3)).0 ∙ y.4

  -- after a lock phase only one bit stands
  pub one_bit : (p : ℕ) → 1 ≤ p → rule.kind p ≡ lock → (b c : Ballot) → Sent b → Sent c → b.phase ≡ suc p → c.phase ≡ suc p → Bit b.value → Bit c.value → b.value ≡ c.value
  one_bit p l k b c sb sc pb pc bb bc =
      let x = L.later b sb p l pb in
      let y = L.later c sc p l pc in
      let m = meet n (x.heard b.value) (y.heard c.value) (x.locked k bb) (y.locked k bc) in
      same_vote (x.voted b.value m.0 m.2) (y.voted c.value m.0 m.3)

  -- so at a settle phase only one bit stands
  pub settle_one_bit : (p : ℕ) → rule.kind p ≡ settle → (b c : Ballot) → Sent b → Sent c → b.phase ≡ p → c.phase ≡ p → Bit b.value → Bit c.value → b.value ≡ c.value
  settle_one_bit zero k b c sb sc pb pc bb bc = absurd (omega (arith, L.phases b sb))
  settle_one_bit (suc zero) k b c sb sc pb pc bb bc = absurd (not_first (sym rule.first ∙ k))
    where
      not_first : lock ≡ settle → ⊥
      not_first e = let z : ◌≡◌ {A = ℕ} 0 1 = cc in omega arith
  settle_one_bit (suc (suc p)) k b c sb sc pb pc bb bc =
      one_bit (suc p) (omega arith) (rule.before (suc p) (omega arith) k) b c sb sc pb pc bb bc

  -- who is heard at all is heard with some value
  heard_as_lem : (heard : Value → ℕ → Bool) (s : ℕ) → heard Zero s || (heard One s || heard Blank s) ≡ true → (w : Value) × (heard w s ≡ true)
  heard_as_lem heard s e =
      elim ((means_or (means_self (heard Zero s)) (means_or (means_self (heard One s)) (means_self (heard Blank s)))).0 e)
      [ inl x ↦ (Zero, x) | inr y ↦ elim y [ inl x ↦ (One, x) | inr x ↦ (Blank, x) ] ]

  -- where all carry a bit, all of the next phase carry it
  pub all_follow : (p : ℕ) (v : Value) → 1 ≤ p → Bit v → AllCarry p v → AllCarry (suc p) v
  all_follow p v l bit all b sb pb = go (rule.kind p) refl
    where
      x : Justified rule n Sent p b.value b.status
      x = L.later b sb p l pb

      only : (w : Value) (s : ℕ) → x.heard w s ≡ true → w ≡ v
      only w s e = let y = x.voted w s e in sym y.4 ∙ all y.0 y.1 y.3

      over : n < count n (x.heard v) * 2
      over =
          omega
          (arith, x.quorum, count_more n (λ s. x.heard Zero s || (x.heard One s || x.heard Blank s)) (x.heard v) (λ s h e. let r = heard_as_lem x.heard s e in subst (λ (w : Value). x.heard w s ≡ true) (only r.0 s r.1) r.1))

      go : (k : Kind) → rule.kind p ≡ k → b.value ≡ v
      go lock k = x.locks k v bit over
      go settle k = let r = meet n (x.heard v) (x.heard v) over over in x.settles k v r.0 bit r.2

  -- so from a phase on, all carry it
  pub all_from : (p k : ℕ) (v : Value) → 1 ≤ p → Bit v → AllCarry p v → AllCarry (k + p) v
  all_from p zero v l bit all b sb pb = all b sb (omega arith)
  all_from p (suc k) v l bit all b sb pb = all_follow (k + p) v (omega arith) bit (all_from p k v l bit all) b sb (omega arith)

  -- a majority at a settle phase binds the next
  binds : (p : ℕ) → 1 ≤ p → rule.kind p ≡ settle → (v : Value) → Bit v → (heard : Value → ℕ → Bool)
      → ((w : Value) (s : ℕ) → heard w s ≡ true → Voted Sent s p w) → n < count n (heard v) * 2 → AllCarry (suc p) v
  binds p l k v bit heard voted over b sb pb =
      let x = L.later b sb p l pb in
      let m = meet n (heard v) (λ s. x.heard Zero s || (x.heard One s || x.heard Blank s)) over x.quorum in
      let r = heard_as_lem x.heard m.0 m.3 in
      let e = same_vote (x.voted r.0 m.0 r.1) (voted v m.0 m.2) in
      x.settles k v m.0 bit (subst (λ (w : Value). x.heard w m.0 ≡ true) e r.1)

  -- a decided ballot has a bit, and all ballots of its phase carry it
  decided_carry : (p : ℕ) (b : Ballot) → Sent b → b.phase ≡ p → b.status ≡ Decided → Bit b.value × AllCarry p b.value
  decided_carry zero b sb pb d = absurd (omega (arith, L.phases b sb))
  decided_carry (suc zero) b sb pb d = absurd (clash (sym (L.start b sb pb).1 ∙ d))
    where
      clash : Undecided ≡ Decided → ⊥
      clash e = let z : ◌≡◌ {A = ℕ} 0 1 = cc in omega arith
  decided_carry (suc (suc p)) b sb pb d = go (x.decided d) (decided_carry (suc p))
    where
      x : Justified rule n Sent (suc p) b.value b.status
      x = L.later b sb (suc p) (omega arith) pb

      from : (v : Value) → Bit v → AllCarry (suc (suc p)) v → Bit b.value × AllCarry (suc (suc p)) b.value
      from v bit all = let e = all b sb pb in (λ q. bit (sym e ∙ q), λ c sc pc. all c sc pc ∙ sym e)

      go : ((rule.kind (suc p) ≡ settle) × ((w : Value) × Bit w × (n < count n (x.heard w) * 2))) ⊎ ((c : Ballot) × Sent c × (c.phase ≡ suc p) × (c.status ≡ Decided))
          → ((c : Ballot) → Sent c → c.phase ≡ suc p → c.status ≡ Decided → Bit c.value × AllCarry (suc p) c.value)
          → Bit b.value × AllCarry (suc (suc p)) b.value
      go (inl m) f = from m.1.0 m.1.1 (binds (suc p) (omega arith) m.0 m.1.0 m.1.1 x.heard x.voted m.1.2)
      go (inr c) f = let r = f c.0 c.1 c.2 c.3 in from c.0.value r.0 (all_follow (suc p) c.0.value (omega arith) r.0 r.1)

  pub decided_bit : (b : Ballot) → Sent b → b.status ≡ Decided → Bit b.value
  decided_bit b sb d = (decided_carry b.phase b sb refl d).0

  -- AGREEMENT: no two decided ballots differ
  pub decided_agree : (b c : Ballot) → Sent b → Sent c → b.status ≡ Decided → c.status ≡ Decided → b.value ≡ c.value
  decided_agree b c sb sc db dc = go (dec_lt b.phase c.phase)
    where
      -- the one of the lower phase binds the other
      up : (b c : Ballot) → Sent b → Sent c → b.status ≡ Decided → b.phase ≤ c.phase → c.value ≡ b.value
      up b c sb sc d h =
          let r = decided_carry b.phase b sb refl d in
          let k = Prim.Native.Nat.◌-◌ c.phase b.phase in
          all_from b.phase k b.value (L.phases b sb) r.0 r.1 c sc (omega arith)

      go : Dec (b.phase < c.phase) → b.value ≡ c.value
      go (yes h) = sym (up b c sb sc db (omega arith))
      go (no h) = up c b sc sb dc (omega arith)

  -- VALIDITY: where all first ballots carry a bit, all ballots do
  pub all_carry : (v : Value) → Bit v → AllCarry 1 v → (b : Ballot) → Sent b → b.value ≡ v
  all_carry v bit all b sb =
      let h = L.phases b sb in
      all_from 1 (Prim.Native.Nat.◌-◌ b.phase 1) v (omega arith) bit all b sb (omega arith)

-- ---- a ledger grows

pub justified_in : {rule : Rule} {n : ℕ} {Sent More : Ballots} {p : ℕ} {v : Value} {status : Status} → ((b : Ballot) → Sent b → More b) → Justified rule n Sent p v status → Justified rule n More p v status
justified_in more x =
    record {
      heard = x.heard;
      voted = λ w s e. let y = x.voted w s e in (y.0, more y.0 y.1, y.2, y.3, y.4);
      quorum = x.quorum;
      locked = x.locked;
      locks = x.locks;
      settled = x.settled;
      settles = x.settles;
      decided = λ d. elim (x.decided d) [ inl m ↦ inl m | inr c ↦ inr (c.0, more c.0 c.1, c.2, c.3) ];
    }

-- what a new ballot needs
pub record Fits (rule : Rule) (n : ℕ) (Sent : Ballots) (c : Ballot) : Type 0 where
  pub one : (b : Ballot) → Sent b → b.sender ≡ c.sender → b.phase ≡ c.phase → (b.value ≡ c.value) × (b.status ≡ c.status)
  pub start : c.phase ≡ 1 → Bit c.value × (c.status ≡ Undecided)
  pub phases : 1 ≤ c.phase
  pub later : (p : ℕ) → 1 ≤ p → c.phase ≡ suc p → Justified rule n Sent p c.value c.status

-- the ledger with one ballot more, under any name for the same set
pub ledger_with : {rule : Rule} {n : ℕ} {Sent More : Ballots} (c : Ballot) → Ledger rule n Sent → Fits rule n Sent c → ((b : Ballot) → Sent b → More b) → ((b : Ballot) → More b → Sent b ⊎ (b ≡ c)) → Ledger rule n More
ledger_with {rule} {n} {Sent} {More} c L f more less =
    record {
      one = λ b d sb sd e q. one (less b sb) (less d sd) e q;
      start = λ b sb e. elim (less b sb) [ inl x ↦ L.start b x e | inr x ↦ subst (λ (b : Ballot). Bit b.value × (b.status ≡ Undecided)) (sym x) (f.start (ap (λ (b : Ballot). b.phase) (sym x) ∙ e)) ];
      phases = λ b sb. elim (less b sb) [ inl x ↦ L.phases b x | inr x ↦ omega (arith, f.phases, ap (λ (b : Ballot). b.phase) x) ];
      later = λ b sb p l e. justified_in more (later b (less b sb) p l e);
    }
  where
    one : {b d : Ballot} → Sent b ⊎ (b ≡ c) → Sent d ⊎ (d ≡ c) → b.sender ≡ d.sender → b.phase ≡ d.phase → (b.value ≡ d.value) × (b.status ≡ d.status)
    one {b} {d} (inl x) (inl y) e q = L.one b d x y e q
    one {b} {d} (inl x) (inr y) e q =
        let r = f.one b x (e ∙ ap (λ (b : Ballot). b.sender) y) (q ∙ ap (λ (b : Ballot). b.phase) y) in
        (r.0 ∙ ap (λ (b : Ballot). b.value) (sym y), r.1 ∙ ap (λ (b : Ballot). b.status) (sym y))
    one {b} {d} (inr x) (inl y) e q =
        let r = f.one d y (sym e ∙ ap (λ (b : Ballot). b.sender) x) (sym q ∙ ap (λ (b : Ballot). b.phase) x) in
        (ap (λ (b : Ballot). b.value) x ∙ sym r.0, ap (λ (b : Ballot). b.status) x ∙ sym r.1)
    one {b} {d} (inr x) (inr y) e q = (ap (λ (b : Ballot). b.value) (x ∙ sym y), ap (λ (b : Ballot). b.status) (x ∙ sym y))

    later : (b : Ballot) → Sent b ⊎ (b ≡ c) → (p : ℕ) → 1 ≤ p → b.phase ≡ suc p → Justified rule n Sent p b.value b.status
    later b (inl x) p l e = L.later b x p l e
    later b (inr x) p l e = subst (λ (b : Ballot). Justified rule n Sent p b.value b.status) (sym x) (f.later p l (ap (λ (b : Ballot). b.phase) (sym x) ∙ e))
