-- Document 01's table 'given exactly when', proved: a start's, a reading's and a tick's number is k exactly when k's
-- line of the table holds and no earlier one does.
use Prim.Native.Nat.{ℕ, ◌+◌, ◌*◌, ◌%◌, ◌≤◌, ◌<◌}
use mathlib.Core.Path.{◌≡◌, refl, sym, ◌∙◌}
use mathlib.Core.List.{List, [], ◌∷◌}
use mathlib.Core.Bool.{Bool, true, false, cond, ◌&&◌, ◌||◌, not}
use mathlib.Core.Logic.{◌⊎◌, inl, inr, ◌↔◌}
use lib.ListN.{length, get_or}
use Rattle.rules.specs.declared.Value.{Value}
use Rattle.rules.specs.declared.Value.TheVariants.{Zero, One, Blank}
use Rattle.rules.specs.declared.Ballot.{Ballot}
use Rattle.rules.specs.declared.Head.{Head}
use Rattle.rules.specs.Number.{Line, ◌when◌, first_that_applies}
use Rattle.rules.specs.Below.{some}
use Rattle.rules.specs.Ballot.{phase_at, ballot_at, breaks_rule, read_number, same_value}
use Rattle.rules.specs.Heard.{member, heard}
use Rattle.rules.specs.Head.{sound, heard_as, stands_under, ballot_of, start_number, send_of}
use Rattle.rules.specs.Tick.{ballots, gathered, stepped, quorum, not_list, same_state, own_otherwise, differ, held_otherwise, contradicts, both_heard, phases_end, decides_otherwise, tick_number}
use Rattle.rules.specs.Given.{Row, ◌exactly_at◌, At, Given, Sound, Breaks, Hears, Other, OwnOtherwise, Differ, HeldOtherwise, SomeBallot, TwoBallots, Contradicts, HeardAtAll, Quorum, DecidesOtherwise, start_table, read_table, send_table, tick_table}
use Rattle.rules.proofs.Counting.Truth.{Means, never, means_as, means_and, means_or, means_not, means_not_both, means_lt, means_le, means_eq, false_not}
use Rattle.rules.proofs.Counting.Below.{means_some}
use Rattle.rules.proofs.Counting.Sets.{means_any}
use Rattle.rules.proofs.Meaning.Meanings.{means_value, means_status, means_decided, means_written, means_for, means_heads, means_obeys, means_stands, means_sound}
use lib.Dec.{eqb}
use borrow.Author.Tests.{eq-eqb}

-- ---- a table of tests and the table of what they mean

-- a test is true exactly when the line applies, and it applies at place 0 only
abbrev Tells : Bool → (ℕ → Type 0) → Type 0
Tells t Applies = (t ≡ true → Applies 0) × ((place : ℕ) → Applies place → (t ≡ true) × (place ≡ 0))

pub tells : {t : Bool} {P : Type 0} → Means t P → Tells t (At 0 P)
tells m = (λ e. (m.0 e, refl), λ place x. (m.1 x.0, x.1))

abbrev pub Matches : List Line → List Row → Type 0
Matches [] [] = Unit {0}
Matches [] (r ∷ rows) = ⊥
Matches (l ∷ lines) [] = ⊥
Matches ((k when t) ∷ lines) ((m exactly_at Applies) ∷ rows) = (k ≡ m) × Tells t Applies × Matches lines rows

pub given : (lines : List Line) (rows : List Row) → Matches lines rows → (number : ℕ)
    → (first_that_applies lines ≡ number) ↔ Given number 0 rows
unfolding first_that_applies
given [] [] m number = (λ e. (sym e, refl), λ g. sym g.0)
given [] (r ∷ rows) m number = absurd m
given (l ∷ lines) [] m number = absurd m
given ((k when t) ∷ lines) ((j exactly_at Applies) ∷ rows) m number = go t m.1 (given lines rows m.2 number)
  where
    go : (t : Bool) → Tells t Applies → (first_that_applies lines ≡ number) ↔ Given number 0 rows
        → (cond t k (first_that_applies lines) ≡ number) ↔ Given number 0 ((j exactly_at Applies) ∷ rows)
    go true p later = (
      λ e. inl (p.0 refl, sym e ∙ m.0),
      λ g. elim g [ inl x ↦ m.0 ∙ sym x.1 | inr x ↦ absurd (x.0 0 (p.0 refl)) ],
    )
    go false p later = (
      λ e. inr (λ place x. never (p.1 place x).0, later.0 e),
      λ g. elim g [ inl x ↦ never (p.1 0 x.0).0 | inr x ↦ later.1 x.1 ],
    )

infixr 30 ◌then◌
-- one line after the other, each told by its test
pub ◌then◌ : {k : ℕ} {t : Bool} {P Later : Type 0} → Means t P → Later → (k ≡ k) × Tells t (At 0 P) × Later
m then later = (refl, tells m, later)

-- a line that does not apply is passed over; one that applies is given; after the last, 0 is
pub passed_over : {A P Later : Type 0} → (P → ⊥) → Later → A ⊎ (((place : ℕ) → At 0 P place → ⊥) × Later)
passed_over f later = inr (λ place x. f x.0, later)

pub applies : {k : ℕ} {P Else : Type 0} → P → (At 0 P 0 × (k ≡ k)) ⊎ Else
applies p = inl ((p, refl), refl)

pub none_applies : Given 0 0 []
none_applies = (refl, refl)

-- where a number other than 0 is given, one of its lines applies at the place
abbrev pub Applying : ℕ → ℕ → List Row → Type 0
Applying number place [] = ⊥
Applying number place ((k exactly_at Applies) ∷ later) =
    cond (eqb k number) (Applies place ⊎ Applying number place later) (Applying number place later)

pub given_applies : (number place : ℕ) (rows : List Row) → (number ≡ 0 → ⊥) → Given number place rows → Applying number place rows
given_applies number place [] some g = absurd (some g.0)
given_applies number place ((k exactly_at Applies) ∷ later) some (inl x) = rw (eq-eqb k number (sym x.1)) (inl x.0)
given_applies number place ((k exactly_at Applies) ∷ later) some (inr x) = go (eqb k number) (given_applies number place later some x.1)
  where
    go : (t : Bool) → Applying number place later → cond t (Applies place ⊎ Applying number place later) (Applying number place later)
    go true y = inr y
    go false y = y

-- ---- start and reading

pub start_given : (n own proposal number : ℕ)
    → (start_number n own proposal ≡ number) ↔ Given number 0 (start_table n own proposal)
unfolding start_number
start_given n own proposal =
    given _ (start_table n own proposal)
    (means_or (means_heads n) (means_not means_lt) then means_lt then tt)

pub means_breaks : (n : ℕ) (l : List ℕ) (i : ℕ) → Means (breaks_rule n l i) (Breaks n l i)
unfolding breaks_rule
means_breaks n l i = means_not (means_and means_lt (means_obeys (phase_at l i) (get_or l (i * 5 + 1) 0) (get_or l (i * 5 + 2) 0)))

pub read_given : (n : ℕ) (bytes : List ℕ) (number : ℕ)
    → (read_number n bytes ≡ number) ↔ Given number 0 (read_table n bytes)
unfolding read_number
read_given n bytes =
    given _ (read_table n bytes)
    (means_heads n then means_not (means_eq (length bytes) 5) then means_breaks n bytes 0 then tt)

pub send_given : (h : Head) (number : ℕ) → ((send_of h).number ≡ number) ↔ Given number 0 (send_table h)
unfolding send_of
send_given h number = go (sound h) (means_sound h)
  where
    go : (t : Bool) → Means t (Sound h) → (cond t 0 3 ≡ number) ↔ Given number 0 (send_table h)
    go true m = (
      λ e. passed_over (λ f. f (m.0 refl)) (sym e, refl),
      λ g. elim g [ inl x ↦ absurd (x.0.0 (m.0 refl)) | inr x ↦ sym x.1.0 ],
    )
    go false m = (
      λ e. inl ((false_not m refl, refl), sym e),
      λ g. elim g [ inl x ↦ sym x.1 | inr x ↦ absurd (x.0 0 (false_not m refl, refl)) ],
    )

-- ---- the tick

means_other : (a b : Ballot) → Means (not (same_state a b)) (Other a b.value b.status)
unfolding same_state
means_other a b = means_not_both (means_value a.value b.value) (means_status a.status b.status)

pub means_own : (h : Head) (b : Ballot) → Means (own_otherwise h b) (OwnOtherwise h b)
unfolding own_otherwise
means_own h b =
    means_and (means_eq b.sender h.own)
    (means_or means_lt (means_and (means_eq b.phase h.phase) (means_other b (ballot_of h))))

means_differ : (a b : Ballot) → Means (differ a b) (Differ a b)
unfolding differ
means_differ a b =
    means_as (λ r. (r.0, r.1.0, r.1.1)) (λ r. (r.0, (r.1, r.2)))
    (means_and (means_eq a.sender b.sender) (means_and (means_eq a.phase b.phase) (means_other a b)))

-- where head s does not stand under w, it is heard with another value
otherwise : (h : Head) (s : ℕ) (w : Value) → Means (not (stands_under h s w)) ((v : Value) × Hears h v s × (v ≡ w → ⊥))
unfolding stands_under
otherwise h s w = (λ e. find (unlike Zero) (unlike One) (unlike Blank) e, λ r. (means_not (means_stands h s w)).1 (λ f. r.2 (f r.0 r.1)))
  where
    Found : Type 0
    Found = (v : Value) × Hears h v s × (v ≡ w → ⊥)

    unlike : (v : Value) → heard_as h s w v ≡ false → Found
    unlike v = go (member s (heard h v)) refl (same_value v w) refl
      where
        go : (t : Bool) → member s (heard h v) ≡ t → (u : Bool) → same_value v w ≡ u → not t || u ≡ false → Found
        go true p true q e = never (sym e)
        go true p false q e = (v, p, false_not (means_value v w) q)
        go false p u q e = never (sym e)

    find : {a b c : Bool} → (a ≡ false → Found) → (b ≡ false → Found) → (c ≡ false → Found) → not (a && (b && c)) ≡ true → Found
    find {a} {b} {c} f g k = go a b c f g k
      where
        go : (a b c : Bool) → (a ≡ false → Found) → (b ≡ false → Found) → (c ≡ false → Found) → not (a && (b && c)) ≡ true → Found
        go true true true f g k e = never e
        go true true false f g k e = k refl
        go true false c f g k e = g refl
        go false b c f g k e = f refl

means_held : (h : Head) (b : Ballot) → Means (held_otherwise h b) (HeldOtherwise h b)
unfolding held_otherwise
means_held h b = means_and (means_eq b.phase h.phase) (otherwise h b.sender b.value)

pub means_contradicts : (h : Head) (l : List ℕ) (i : ℕ) → Means (contradicts h l i) (Contradicts h l i)
unfolding contradicts
means_contradicts h l i =
    means_or (means_some (λ j. means_differ (ballot_at l j) (ballot_at l i))) (means_held h (ballot_at l i))

pub means_difference : (h : Head) (l : List ℕ)
    → Means (some (ballots l) (contradicts h l)) (TwoBallots l Differ ⊎ SomeBallot l (λ i. HeldOtherwise h (ballot_at l i)))
means_difference h l =
    means_as
    (λ r. elim r.2 [ inl two ↦ inl (r.0, r.1, two) | inr held ↦ inr (r.0, r.1, held) ])
    (λ r. elim r [ inl x ↦ (x.0, x.1, inl x.2) | inr x ↦ (x.0, x.1, inr x.2) ])
    (means_some (means_contradicts h l))

pub means_both : (h : Head) → Means (both_heard h) ((h.phase % 2 ≡ 0) × HeardAtAll h Zero × HeardAtAll h One)
unfolding both_heard
means_both h =
    means_as (λ r. (r.0, r.1.0, r.1.1)) (λ r. (r.0, (r.1, r.2)))
    (means_and (means_eq (h.phase % 2) 0) (means_and (means_any h.zeros) (means_any h.ones)))

pub means_end : (h : Head) → Means (phases_end h) (Quorum h × (65536 ≤ h.phase + 1))
unfolding phases_end quorum
means_end h = means_and means_lt (means_le 65536 (h.phase + 1))

pub means_decides : (h : Head) → Means (decides_otherwise h) (DecidesOtherwise h)
unfolding decides_otherwise
means_decides h =
    means_and (means_decided h)
    (means_or (means_value h.value Blank)
    (means_as
    (λ r. (r.0, λ e. r.1 (r.0, e)))
    (λ r. (r.0, λ p. r.1 p.1))
    (means_and (means_written h) (means_not (means_and (means_written h) (means_for h.decision h.value))))))

means_list : (l : List ℕ) → Means (not_list l) ((length l % 5 ≡ 0 → ⊥) ⊎ (320 < length l))
unfolding not_list
means_list l = means_or (means_not (means_eq (length l % 5) 0)) means_lt

pub tick_given : (h : Head) (l : List ℕ) (coin number : ℕ)
    → (tick_number h l coin ≡ number) ↔ Given number 0 (tick_table h l coin)
unfolding tick_number
tick_given h l coin =
    given _ (tick_table h l coin)
    (means_not (means_sound h)
    then means_lt
    then means_list l
    then means_some (means_breaks h.n l)
    then means_some (λ i. means_own h (ballot_at l i))
    then means_difference h l
    then means_both (gathered h l)
    then means_end (gathered h l)
    then means_decides (stepped (gathered h l) coin)
    then tt)
