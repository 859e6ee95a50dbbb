-- Who may not say what at a phase: by 7, or by what is held.
use Prim.Native.Nat.{ℕ, ◌+◌, ◌*◌, ◌/◌, ◌%◌, ◌^◌, ◌≤◌, ◌<◌}
use mathlib.Core.Path.{◌≡◌, refl, sym, ap, ap₂, ◌∙◌}
use mathlib.Core.Bool.{Bool, true, false, cond, ◌&&◌, ◌||◌, not}
use native.Mathlib.Omega.{arith}
use lib.Dec.{ltb, eqb}
use lib.Bits.{bit_or, or_lt}
use borrow.Author.Tests.{eq-eqb, ne_eqb, lt-ltb, le-ltb}
use Rattle.rules.specs.declared.Value.TheVariants.{Zero, One, Blank}
use Rattle.rules.specs.declared.Head.{Head}
use Rattle.rules.specs.Ballot.{value_code, value_of, status_code, status_of}
use Rattle.rules.specs.Heard.{member, set_of}
use Rattle.rules.specs.Head.{stands_under, ballot_of}
use Rattle.rules.specs.Tick.{same_state, own_otherwise, held_otherwise}
use Rattle.rules.proofs.Counting.Truth.{means_same, means_as, means_eq, and_always, or_never}
use Rattle.rules.proofs.Counting.Sets.{member_none, member_or, member_set_of, set_of_lt, set_of_is}
use Rattle.engine.specs.Look.{alone, code, ballot_by, barred_from}
use Rattle.engine.proofs.Growing.{set_as}
use Rattle.engine.proofs.Refusing.{means_state}

pub either_set : (a b c : ℕ) → a < 2 ^ 32 → b < 2 ^ 32 → c < 2 ^ 32
    → bit_or a (bit_or b c) ≡ set_of 32 (λ s. member s a || (member s b || member s c))
either_set a b c x y z =
    set_of_is 32 (bit_or a (bit_or b c)) _ (or_lt 32 a (bit_or b c) x (or_lt 32 b c y z))
    (λ s l. member_or s a (bit_or b c) ∙ ap (λ (t : Bool). member s a || t) (member_or s b c))

same_way : (a b : ℕ) → eqb a b ≡ eqb b a
same_way a b = means_same (means_eq a b) (means_as (λ e. sym e) (λ e. sym e) (means_eq b a))

-- at a higher phase than the head's: the head itself
pub barred_ahead : (h : Head) (p own : ℕ) → own ≡ alone h.own → h.phase ≤ p → (p ≡ h.phase → ⊥) → (c : ℕ)
    → own ≡ barred_from h p c
unfolding own_otherwise held_otherwise
barred_ahead h p own w b n c = w ∙ set_as each
  where
    each : (s : ℕ) → eqb h.own s ≡ own_otherwise h (ballot_by s c p) || held_otherwise h (ballot_by s c p)
    each s =
        let higher : ltb h.phase p ≡ true = lt-ltb h.phase p (omega (arith, n)) in
        let away : eqb p h.phase ≡ false = ne_eqb p h.phase n in
        same_way h.own s ∙ sym (or_never (eqb s h.own)) ∙ sym (ap (λ (t : Bool). t || false) (and_always (eqb s h.own))) ∙ simp (higher, away)

-- at the head's phase: those held under another value, in a and b, and the head itself unless that is its own
pub barred_here : (h : Head) (p c own k u a b : ℕ) → own ≡ alone h.own → p ≡ h.phase → k ≡ code (ballot_of h)
    → u ≡ cond (eqb k c) 0 own
    → value_code (value_of (c / 2)) * 2 + status_code (status_of (c % 2)) ≡ c
    → ((s : ℕ) → member s a || member s b ≡ not (stands_under h s (value_of (c / 2))))
    → set_of 32 (λ s. member s a || (member s b || member s u)) ≡ barred_from h p c
unfolding own_otherwise held_otherwise
barred_here h p c own k u a b w e d v back held =
    set_of_is 32 _ _ (set_of_lt 32 _) (λ s l. member_set_of 32 _ s l ∙ turn (member s a) (member s b) (member s u) ∙ ap₂ (λ (x y : Bool). x || y) (own_part s l) (held_part s))
  where
    turn : (a b u : Bool) → a || (b || u) ≡ u || (a || b)
    turn true b true = refl
    turn true b false = refl
    turn false true true = refl
    turn false true false = refl
    turn false false true = refl
    turn false false false = refl

    held_part : (s : ℕ) → member s a || member s b ≡ held_otherwise h (ballot_by s c p)
    held_part s = held s ∙ sym (ap (λ (t : Bool). t && not (stands_under h s (value_of (c / 2)))) (eq-eqb p h.phase e))

    state : (s : ℕ) → same_state (ballot_by s c p) (ballot_of h) ≡ eqb k c
    state s =
        means_same (means_state (ballot_by s c p) (ballot_of h)) (means_as (λ q. back ∙ sym q ∙ d) (λ q. d ∙ sym q ∙ back) (means_eq k c))

    in_u : (s : ℕ) → s < 32 → (t : Bool) → member s (cond t 0 own) ≡ eqb s h.own && not t
    in_u s l true = member_none s ∙ sym (and_no (eqb s h.own))
      where
        and_no : (x : Bool) → x && false ≡ false
        and_no true = refl
        and_no false = refl
    in_u s l false = ap (member s) w ∙ member_set_of 32 _ s l ∙ same_way h.own s ∙ sym (and_always (eqb s h.own))

    own_part : (s : ℕ) → s < 32 → member s u ≡ own_otherwise h (ballot_by s c p)
    own_part s l =
        let low : ltb h.phase p ≡ false = le-ltb h.phase p (omega arith) in
        let here : eqb p h.phase ≡ true = eq-eqb p h.phase e in
        ap (member s) v ∙ in_u s l (eqb k c) ∙ sym (ap (λ (t : Bool). eqb s h.own && not t) (state s)) ∙ simp (low, here)

-- who is held under another value
pub not_zero : (h : Head) (s : ℕ) → member s h.ones || member s h.blanks ≡ not (stands_under h s Zero)
unfolding stands_under
not_zero h s = go (member s h.zeros) (member s h.ones) (member s h.blanks)
  where
    go : (z o b : Bool) → o || b ≡ not ((not z || true) && ((not o || false) && (not b || false)))
    go true true b = refl
    go true false true = refl
    go true false false = refl
    go false true b = refl
    go false false true = refl
    go false false false = refl

pub not_one : (h : Head) (s : ℕ) → member s h.zeros || member s h.blanks ≡ not (stands_under h s One)
unfolding stands_under
not_one h s = go (member s h.zeros) (member s h.ones) (member s h.blanks)
  where
    go : (z o b : Bool) → z || b ≡ not ((not z || false) && ((not o || true) && (not b || false)))
    go true o b = refl
    go false true true = refl
    go false true false = refl
    go false false true = refl
    go false false false = refl

pub not_blank : (h : Head) (s : ℕ) → member s h.zeros || member s h.ones ≡ not (stands_under h s Blank)
unfolding stands_under
not_blank h s = go (member s h.zeros) (member s h.ones) (member s h.blanks)
  where
    go : (z o b : Bool) → z || o ≡ not ((not z || false) && ((not o || false) && (not b || true)))
    go true o b = refl
    go false true b = refl
    go false false true = refl
    go false false false = refl
