-- The numbers that a list of ballots gives, among all numbers of a tick.
use Prim.Native.Nat.{ℕ, ◌+◌, ◌<◌}
use mathlib.Core.Path.{◌≡◌, refl, sym, ap, ◌∙◌}
use mathlib.Core.List.{List}
use mathlib.Core.Bool.{Bool, true, false, cond, ◌&&◌}
use native.Mathlib.Omega.{arith}
use lib.Dec.{ltb, leb, eqb}
use borrow.Author.Tests.{ne_eqb}
use Rattle.std.proofs.lemmas.Bool.{leb-false}
use Rattle.rules.proofs.Counting.Truth.{means_same, means_as, means_le}
use Rattle.rules.specs.declared.Head.{Head}
use Rattle.rules.specs.Answer.{Ticked}
use Rattle.rules.specs.Number.{first_that_applies}
use Rattle.rules.specs.Below.{some}
use Rattle.rules.specs.Ballot.{ballot_at, breaks_rule}
use Rattle.rules.specs.Head.{sound}
use Rattle.rules.specs.Tick.{ballots, gathered, stepped, not_list, own_otherwise, contradicts, both_heard, phases_end, decides_otherwise, quorum, settled, tick_number, offender, tick_index, tick_of}
use Rattle.engine.specs.Look.{list_number, listened, end_number, ended}

-- none applies, and this is the head after steps 1 and 2
pub list_accepted : (h : Head) (l : List ℕ) (g : Head) → list_number h l ≡ 0 → g ≡ gathered h l
    → ◌≡◌ {A = Ticked} (record { number = 0; index = 0; head = g }) (listened h l)
unfolding listened offender
list_accepted h l g e q = simp (e, q)

record Clear (h : Head) (l : List ℕ) (r : Ticked) : Type 0 where
  stands : some (ballots l) (breaks_rule h.n l) ≡ false
  own : some (ballots l) (λ i. own_otherwise h (ballot_at l i)) ≡ false
  once : some (ballots l) (contradicts h l) ≡ false
  heard : r.head ≡ gathered h l

-- what 0 shows
list_clear : (h : Head) (l : List ℕ) (r : Ticked) → r ≡ listened h l → r.number ≡ 0 → Clear h l r
unfolding listened list_number first_that_applies
list_clear h l r e z =
    let number : list_number h l ≡ 0 = sym (ap (λ (t : Ticked). t.number) e) ∙ z in
    let tests = none _ _ _ number in
    record {
      stands = tests.0;
      own = tests.1;
      once = tests.2;
      heard = ap (λ (t : Ticked). t.head) e ∙ ap (λ (k : ℕ). cond (eqb k 0) (gathered h l) h) number;
    }
  where
    none : (a b c : Bool) → ◌≡◌ {A = ℕ} (cond a 6 (cond b 7 (cond c 8 0))) 0 → (a ≡ false) × (b ≡ false) × (c ≡ false)
    none true b c q = absurd (omega arith)
    none false true c q = absurd (omega arith)
    none false false true q = absurd (omega arith)
    none false false false q = (refl, refl, refl)

-- a number other than 0, the ballot that it names and the head as it came, whatever an accepted tick would leave
refused_same : (h : Head) (l : List ℕ) (a b : ℕ) (g k : Head) → a ≡ b → (a ≡ 0 → ⊥)
    → ◌≡◌ {A = Ticked} (record { number = a; index = offender a h l; head = cond (eqb a 0) g h }) (record { number = b; index = offender b h l; head = cond (eqb b 0) k h })
refused_same h l a b g k e n = simp (← e, ne_eqb a 0 n)

-- another number is the tick's where 3 to 5 do not apply
pub list_refused : (h : Head) (l : List ℕ) (coin : ℕ) (r : Ticked) → sound h ≡ true → ltb 1 coin ≡ false → not_list l ≡ false
    → r ≡ listened h l → (r.number ≡ 0 → ⊥) → r ≡ tick_of h l coin
unfolding tick_of tick_index tick_number listened list_number end_number first_that_applies
list_refused h l coin r s t u e n =
    let some_number : list_number h l ≡ 0 → ⊥ = λ z. n (ap (λ (t : Ticked). t.number) e ∙ z) in
    let number : list_number h l ≡ tick_number h l coin = same (some (ballots l) (breaks_rule h.n l)) (some (ballots l) (λ i. own_otherwise h (ballot_at l i))) (some (ballots l) (contradicts h l)) (end_number (gathered h l) coin) some_number ∙ sym (simp (s, t, u)) in
    e ∙ refused_same h l (list_number h l) (tick_number h l coin) _ _ number some_number
  where
    same : (a b c : Bool) (later : ℕ) → (◌≡◌ {A = ℕ} (cond a 6 (cond b 7 (cond c 8 0))) 0 → ⊥) → ◌≡◌ {A = ℕ} (cond a 6 (cond b 7 (cond c 8 0))) (cond a 6 (cond b 7 (cond c 8 later)))
    same true b c later m = refl
    same false true c later m = refl
    same false false true later m = refl
    same false false false later m = absurd (m refl)

-- the numbers after those name no ballot
end_names_none : (h : Head) (l : List ℕ) (a b c : Bool) → offender (cond a 9 (cond b 10 (cond c 11 0))) h l ≡ 0
unfolding offender
end_names_none h l true b c = refl
end_names_none h l false true c = refl
end_names_none h l false false true = refl
end_names_none h l false false false = refl

-- where 3 to 8 do not apply, a tick goes on with the head after steps 1 and 2
pub list_heard : (h : Head) (l : List ℕ) (coin : ℕ) (r : Ticked) → sound h ≡ true → ltb 1 coin ≡ false → not_list l ≡ false
    → r ≡ listened h l → r.number ≡ 0 → ended h r.head coin ≡ tick_of h l coin
unfolding tick_of tick_index tick_number ended end_number first_that_applies
list_heard h l coin r s t u e z =
    let clear = list_clear h l r e z in
    simp (s, t, u, clear.stands, clear.own, clear.once, ← clear.heard, end_names_none h l (both_heard r.head) (phases_end r.head) (decides_otherwise (stepped r.head coin)))

-- ---- what is left of it

pub ends_9 : (h g : Head) (coin : ℕ) → both_heard g ≡ true → ◌≡◌ {A = Ticked} (record { number = 9; index = 0; head = h }) (ended h g coin)
unfolding ended end_number first_that_applies
ends_9 h g coin q = simp q

pub ends_10 : (h g : Head) (coin : ℕ) → both_heard g ≡ false → phases_end g ≡ true → ◌≡◌ {A = Ticked} (record { number = 10; index = 0; head = h }) (ended h g coin)
unfolding ended end_number first_that_applies
ends_10 h g coin q w = simp (q, w)

-- step 3 is taken where 9 and 10 do not apply
module _ (h g : Head) (coin : ℕ) (x : Head) (q : both_heard g ≡ false) (w : phases_end g ≡ false) (is : x ≡ stepped g coin) where
  pub ends_11 : decides_otherwise x ≡ true → ◌≡◌ {A = Ticked} (record { number = 11; index = 0; head = h }) (ended h g coin)
  unfolding ended end_number first_that_applies
  ends_11 d = simp (q, w, ← is, d)

  pub ends_0 : (y : Head) → decides_otherwise x ≡ false → y ≡ settled x → ◌≡◌ {A = Ticked} (record { number = 0; index = 0; head = y }) (ended h g coin)
  unfolding ended end_number first_that_applies
  ends_0 y d e = simp (q, w, ← is, d, e)

-- ---- the phase that a step would need

pub last_phase : (p : ℕ) → leb 65535 p ≡ leb 65536 (p + 1)
last_phase p = means_same (means_le 65535 p) (means_as (λ b. omega arith) (λ b. omega arith) (means_le 65536 (p + 1)))

-- one is left where 10 does not apply to a head that steps
pub phase_left : (g : Head) → quorum g ≡ true → phases_end g ≡ false → g.phase < 65535
unfolding phases_end
phase_left g q e = omega (arith, leb-false 65536 (g.phase + 1) (sym (ap (λ (t : Bool). t && leb 65536 (g.phase + 1)) q) ∙ e))
