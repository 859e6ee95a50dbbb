-- The parts of an answer.
use Prim.Native.Nat.{ℕ}
use mathlib.Core.Path.{◌≡◌, refl, sym, ◌∙◌}
use mathlib.Core.List.{List}
use mathlib.Core.Bool.{Bool, true, false, cond, ◌||◌, not}
use native.Mathlib.Omega.{arith}
use lib.ListN.{length, replicate}
use lib.Dec.{ltb, eqb}
use borrow.Author.Tests.{eqb-true, ne_eqb}
use Rattle.rules.specs.declared.Head.{Head}
use Rattle.rules.specs.Number.{first_that_applies}
use Rattle.rules.specs.Ballot.{bytes_of, not_heads}
use Rattle.rules.specs.Head.{sound, start_number, start_of, ballot_of, send_of}
use Rattle.rules.specs.Tick.{tick_number, tick_of}
use Rattle.rules.specs.Record.{is_record, start_number_from_c, record_after_start, tick_number_from_c, record_after_tick, send_number_from_c, buffer_after_send}
use Rattle.rules.proofs.Counting.Truth.{and_left}

-- two answers that are both what a definition gives are equal
pub only : {A : Type 0} {x y z : A} → x ≡ z → y ≡ z → x ≡ y
only p q = p ∙ sym q

pub start_number_lem : (n own proposal : ℕ) → (start_of n own proposal).number ≡ start_number n own proposal
unfolding start_of
start_number_lem n own proposal = refl

-- a start from C asks what a start asks, then the length
pub starts_number : (r : List ℕ) (n own proposal : ℕ) → start_number_from_c r n own proposal ≡ cond (eqb (start_number n own proposal) 0) (cond (eqb (length r) 20) 0 3) (start_number n own proposal)
unfolding start_number_from_c start_number first_that_applies
starts_number r n own proposal = go (not_heads n || not (ltb own n)) (ltb 1 proposal) (eqb (length r) 20)
  where
    go : (a b c : Bool) → ◌≡◌ {A = ℕ} (cond a 1 (cond b 2 (cond (not c) 3 0))) (cond (eqb (cond a 1 (cond b 2 0)) 0) (cond c 0 3) (cond a 1 (cond b 2 0)))
    go true b c = refl
    go false true c = refl
    go false false true = refl
    go false false false = refl

pub tick_number_lem : (h : Head) (l : List ℕ) (coin : ℕ) → (tick_of h l coin).number ≡ tick_number h l coin
unfolding tick_of
tick_number_lem h l coin = refl

pub record_length : (r : List ℕ) → is_record r ≡ true → length r ≡ 20
unfolding is_record
record_length r e = eqb-true (length r) 20 (and_left (eqb (length r) 20) _ e)

-- a head sends where it is sound, and its ballot's bytes
pub send_sound : (h : Head) → (send_of h).number ≡ 0 → sound h ≡ true
unfolding send_of
send_sound h = go (sound h)
  where
    go : (t : Bool) → ◌≡◌ {A = ℕ} (cond t 0 3) 0 → t ≡ true
    go true e = refl
    go false e = absurd (omega arith)

pub send_unsound : (h : Head) → ((send_of h).number ≡ 0 → ⊥) → sound h ≡ false
unfolding send_of
send_unsound h = go (sound h)
  where
    go : (t : Bool) → (◌≡◌ {A = ℕ} (cond t 0 3) 0 → ⊥) → t ≡ false
    go true f = absurd (f refl)
    go false f = refl

pub send_bytes : (h : Head) → sound h ≡ true → (send_of h).bytes ≡ bytes_of (ballot_of h)
unfolding send_of
send_bytes h e = rw e

-- ---- what a refusal leaves

pub refused_tick : (h : Head) (l : List ℕ) (coin : ℕ) → (tick_number h l coin ≡ 0 → ⊥) → (tick_of h l coin).head ≡ h
unfolding tick_of
refused_tick h l coin n = rw (ne_eqb (tick_number h l coin) 0 n)

pub refused_tick_from_c : (r l : List ℕ) (coin : ℕ) → (tick_number_from_c r l coin ≡ 0 → ⊥) → record_after_tick r l coin ≡ r
unfolding record_after_tick
refused_tick_from_c r l coin n = rw (ne_eqb (tick_number_from_c r l coin) 0 n)

pub refused_start_from_c : (r : List ℕ) (n own proposal : ℕ) → (start_number_from_c r n own proposal ≡ 0 → ⊥) → record_after_start r n own proposal ≡ r
unfolding record_after_start
refused_start_from_c r n own proposal f = rw (ne_eqb (start_number_from_c r n own proposal) 0 f)

pub refused_send_from_c : (r buffer : List ℕ) → (send_number_from_c r buffer ≡ 0 → ⊥) → buffer_after_send r buffer ≡ replicate (length buffer) 0
unfolding buffer_after_send
refused_send_from_c r buffer f = rw (ne_eqb (send_number_from_c r buffer) 0 f)
