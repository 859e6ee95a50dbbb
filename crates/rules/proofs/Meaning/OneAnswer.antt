-- What is given back determines the answer: no two answers stand for the same numbers, bytes and heads.
use Prim.Native.Nat.{ℕ, ◌<◌}
use mathlib.Core.Path.{◌≡◌, refl, sym, ap, ap₂, ◌∙◌}
use mathlib.Core.List.{List}
use mathlib.Core.Bool.{Bool, true, false, cond, ◌||◌, not}
use native.Mathlib.Omega.{arith}
use lib.Dec.{ltb, eqb}
use Rattle.std.specs.Prelude.{Result, Ok, Err}
use Rattle.rules.specs.declared.Head.{Head}
use Rattle.rules.specs.declared.Refusal.{Refusal}
use Rattle.rules.specs.declared.Refused.{Refused}
use Rattle.rules.specs.declared.Refusal.TheVariants.{NotHeads, Proposal, Unsound, Coin, Length, BreaksRule, OwnOtherwise, Contradicts, BothHeard, PhasesEnd, DecidesOtherwise}
use Rattle.rules.specs.Number.{first_that_applies}
use Rattle.rules.specs.Refusal.{number_of, index_of}
use Rattle.rules.specs.Answer.{Started, Ticked, Written}
use Rattle.rules.specs.Ballot.{not_heads}
use Rattle.rules.specs.Head.{start_number, start_of, start_given, send_of, send_given, sound}
use Rattle.rules.specs.Tick.{tick_given}

-- the refusal of a number and an index
refusal_with : ℕ → ℕ → Refusal
refusal_with number index =
    cond (eqb number 1) NotHeads
    (cond (eqb number 2) Proposal
    (cond (eqb number 3) Unsound
    (cond (eqb number 4) Coin
    (cond (eqb number 5) Length
    (cond (eqb number 6) (BreaksRule index)
    (cond (eqb number 7) (OwnOtherwise index)
    (cond (eqb number 8) (Contradicts index)
    (cond (eqb number 9) BothHeard
    (cond (eqb number 10) PhasesEnd DecidesOtherwise)))))))))

back : (r : Refusal) → refusal_with (number_of r) (index_of r) ≡ r
unfolding refusal_with
back NotHeads = refl
back Proposal = refl
back Unsound = refl
back Coin = refl
back Length = refl
back (BreaksRule index) = refl
back (OwnOtherwise index) = refl
back (Contradicts index) = refl
back BothHeard = refl
back PhasesEnd = refl
back DecidesOtherwise = refl

-- number and index determine a refusal
pub same_refusal : (r s : Refusal) → number_of r ≡ number_of s → index_of r ≡ index_of s → r ≡ s
same_refusal r s number index = sym (back r) ∙ ap₂ refusal_with number index ∙ back s

-- below 6 the number alone does
pub index_below_6 : (r : Refusal) → number_of r < 6 → index_of r ≡ 0
index_below_6 NotHeads b = refl
index_below_6 Proposal b = refl
index_below_6 Unsound b = refl
index_below_6 Coin b = refl
index_below_6 Length b = refl
index_below_6 (BreaksRule index) b = absurd (omega arith)
index_below_6 (OwnOtherwise index) b = absurd (omega arith)
index_below_6 (Contradicts index) b = absurd (omega arith)
index_below_6 BothHeard b = refl
index_below_6 PhasesEnd b = refl
index_below_6 DecidesOtherwise b = refl

same_below_6 : (r s : Refusal) (number : ℕ) → number_of r ≡ number → number_of s ≡ number → number < 6 → r ≡ s
same_below_6 r s number nr ns b =
    same_refusal r s (nr ∙ sym ns) (index_below_6 r (rw nr b) ∙ sym (index_below_6 s (rw ns b)))

-- no refusal has the number 0
pub refused_not_0 : (r : Refusal) → number_of r ≡ 0 → ⊥
refused_not_0 NotHeads e = omega arith
refused_not_0 Proposal e = omega arith
refused_not_0 Unsound e = omega arith
refused_not_0 Coin e = omega arith
refused_not_0 Length e = omega arith
refused_not_0 (BreaksRule index) e = omega arith
refused_not_0 (OwnOtherwise index) e = omega arith
refused_not_0 (Contradicts index) e = omega arith
refused_not_0 BothHeard e = omega arith
refused_not_0 PhasesEnd e = omega arith
refused_not_0 DecidesOtherwise e = omega arith

-- ---- a start, a tick, sending

start_below_6 : (n own proposal : ℕ) → (start_of n own proposal).number < 6
unfolding start_of start_number first_that_applies
start_below_6 n own proposal = go (not_heads n || not (ltb own n)) (ltb 1 proposal)
  where
    go : (a b : Bool) → ◌<◌ (cond a 1 (cond b 2 0)) 6
    go true b = omega arith
    go false true = omega arith
    go false false = omega arith

pub one_start : (n own proposal : ℕ) (r s : Result Head Refusal)
    → start_given r ≡ start_of n own proposal → start_given s ≡ start_of n own proposal → r ≡ s
one_start n own proposal (Ok g) (Ok h) er es = ap Ok (ap (λ (t : Started). t.head) (er ∙ sym es))
one_start n own proposal (Ok g) (Err s) er es = absurd (refused_not_0 s (ap (λ (t : Started). t.number) (es ∙ sym er)))
one_start n own proposal (Err r) (Ok h) er es = absurd (refused_not_0 r (ap (λ (t : Started). t.number) (er ∙ sym es)))
one_start n own proposal (Err r) (Err s) er es =
    ap Err (same_below_6 r s _ (ap (λ (t : Started). t.number) er) (ap (λ (t : Started). t.number) es) (start_below_6 n own proposal))

pub one_tick : (t : Ticked) (r s : Result Head Refused) → tick_given r ≡ t → tick_given s ≡ t → r ≡ s
one_tick t (Ok g) (Ok k) er es = ap Ok (ap (λ (x : Ticked). x.head) (er ∙ sym es))
one_tick t (Ok g) (Err s) er es = absurd (refused_not_0 s.refusal (ap (λ (x : Ticked). x.number) (es ∙ sym er)))
one_tick t (Err r) (Ok k) er es = absurd (refused_not_0 r.refusal (ap (λ (x : Ticked). x.number) (er ∙ sym es)))
one_tick t (Err r) (Err s) er es =
    ap Err
    (ap₂ (λ (q : Refusal) (h : Head). record { refusal = q; head = h })
    (same_refusal r.refusal s.refusal (ap (λ (x : Ticked). x.number) (er ∙ sym es)) (ap (λ (x : Ticked). x.index) (er ∙ sym es)))
    (ap (λ (x : Ticked). x.head) (er ∙ sym es)))

send_below_6 : (h : Head) → (send_of h).number < 6
unfolding send_of
send_below_6 h = go (sound h)
  where
    go : (t : Bool) → ◌<◌ (cond t 0 3) 6
    go true = omega arith
    go false = omega arith

pub one_sending : (h : Head) (r s : Result (List ℕ) Refusal) → send_given r ≡ send_of h → send_given s ≡ send_of h → r ≡ s
one_sending h (Ok k) (Ok l) er es = ap Ok (ap (λ (w : Written). w.bytes) (er ∙ sym es))
one_sending h (Ok k) (Err s) er es = absurd (refused_not_0 s (ap (λ (w : Written). w.number) (es ∙ sym er)))
one_sending h (Err r) (Ok l) er es = absurd (refused_not_0 r (ap (λ (w : Written). w.number) (er ∙ sym es)))
one_sending h (Err r) (Err s) er es =
    ap Err (same_below_6 r s _ (ap (λ (w : Written). w.number) er) (ap (λ (w : Written). w.number) es) (send_below_6 h))
