-- The three entries from C: the table 'given exactly when', and what they leave in the lent bytes.
use Prim.Native.Nat.{ℕ}
use mathlib.Core.Path.{◌≡◌, refl, sym, subst, ◌∙◌}
use mathlib.Core.List.{List}
use mathlib.Core.Bool.{Bool, true, false, cond, ◌&&◌, not}
use mathlib.Core.Logic.{inl, inr, ◌↔◌}
use native.Mathlib.Decide.{ℕ_discrete}
use native.Mathlib.Omega.{arith}
use lib.ListN.{length, get_or}
use lib.Dec.{eqb}
use borrow.Author.Tests.{ne_eqb}
use Rattle.rules.specs.declared.Head.{Head}
use Rattle.rules.specs.Ballot.{read_number, read_ballot}
use Rattle.rules.specs.Head.{sound, start_number, start_of, ballot_of}
use Rattle.rules.specs.Tick.{tick_number, tick_of}
use Rattle.rules.specs.Record.{record_of, is_record, head_at, not_sound, start_number_from_c, record_after_start, tick_number_from_c, record_after_tick, send_number_from_c, buffer_after_send}
use Rattle.rules.specs.Given.{Given, Sound, SoundRecord, start_table_from_c, tick_table_from_c, send_table_from_c}
use Rattle.rules.proofs.Counting.Truth.{Means, means_self, means_as, means_and, means_or, means_not, means_lt, means_eq, false_not, not_false, not_not}
use Rattle.rules.proofs.Meaning.Meanings.{means_heads, means_sound}
use Rattle.rules.proofs.Meaning.Answers.{starts_number}
use Rattle.rules.proofs.Meaning.Given.{given, tick_given, ◌then◌, passed_over, applies}
use Rattle.rules.proofs.Layouts.Records.{record_holds, record_is_record}
use Rattle.rules.proofs.Layouts.Ballots.{ballot_reads_back}
use Rattle.rules.proofs.OneTick.Soundness.{start_sound, tick_sound}

-- what the test of a record means
means_sound_record : (r : List ℕ) → Means (is_record r && sound (head_at r)) (SoundRecord r)
unfolding is_record
means_sound_record r =
    means_as
    (λ x. record { twenty = x.0.0; value = x.0.1.0; status = x.0.1.1.0; decision = x.0.1.1.1.0; zero = x.0.1.1.1.1; head = x.1 })
    (λ s. ((s.twenty, (s.value, (s.status, (s.decision, s.zero)))), s.head))
    (means_and
    (means_and (means_eq (length r) 20) (means_and means_lt (means_and means_lt (means_and means_lt (means_eq (get_or r 7 0) 0)))))
    (means_sound (head_at r)))

pub means_not_sound : (r : List ℕ) → Means (not_sound r) (SoundRecord r → ⊥)
unfolding not_sound
means_not_sound r = means_not (means_sound_record r)

-- where the test is false, the record is sound
sound_record : (r : List ℕ) → not_sound r ≡ false → SoundRecord r
sound_record r e = not_not (means_sound_record r) (false_not (means_not_sound r) e)

pub sends_given : (r buffer : List ℕ) (number : ℕ)
    → (send_number_from_c r buffer ≡ number) ↔ Given number 0 (send_table_from_c r buffer)
unfolding send_number_from_c
sends_given r buffer =
    given _ (send_table_from_c r buffer) (means_not_sound r then means_not (means_eq (length buffer) 5) then tt)

pub starts_given : (r : List ℕ) (n own proposal number : ℕ)
    → (start_number_from_c r n own proposal ≡ number) ↔ Given number 0 (start_table_from_c r n own proposal)
unfolding start_number_from_c
starts_given r n own proposal =
    given _ (start_table_from_c r n own proposal)
    (means_or (means_heads n) (means_not means_lt) then means_lt then means_not (means_eq (length r) 20) then tt)

pub ticks_given : (r l : List ℕ) (coin number : ℕ)
    → (tick_number_from_c r l coin ≡ number) ↔ Given number 0 (tick_table_from_c r l coin)
unfolding tick_number_from_c
ticks_given r l coin number = go (not_sound r) refl (means_not_sound r)
  where
    Table : Type 0
    Table = Given number 0 (tick_table_from_c r l coin)

    go : (t : Bool) → not_sound r ≡ t → Means t (SoundRecord r → ⊥) → (cond t 3 (tick_number (head_at r) l coin) ≡ number) ↔ Table
    go true e m = (
      λ q. inl ((m.0 refl, refl), sym q),
      λ g. elim g [ inl x ↦ sym x.1 | inr x ↦ absurd (x.0 0 (m.0 refl, refl)) ],
    )
    go false e m =
        let same = tick_given (head_at r) l coin number in (
          λ q. elim (same.0 q) [ inl x ↦ absurd (x.0.0 (sound_record r e).head) | inr x ↦ passed_over (false_not m refl) x.1 ],
          λ g. elim g [ inl x ↦ absurd (false_not m refl x.0.0) | inr x ↦ same.1 (passed_over (λ f. f (sound_record r e).head) x.1) ],
        )

-- ---- an accepted start or tick leaves a sound record

written_sound : (h : Head) → Sound h → not_sound (record_of h) ≡ false
written_sound h s = not_false (means_not_sound (record_of h)) (λ none. none ((means_sound_record (record_of h)).0 both))
  where
    both : is_record (record_of h) && sound (head_at (record_of h)) ≡ true
    both = (means_and (means_self (is_record (record_of h))) (means_sound (head_at (record_of h)))).1 (record_is_record h, subst Sound (sym (record_holds h)) s)

pub started_record_is_sound : (r : List ℕ) (n own proposal : ℕ) → start_number_from_c r n own proposal ≡ 0
    → not_sound (record_after_start r n own proposal) ≡ false
unfolding record_after_start
started_record_is_sound r n own proposal e = rw e (written_sound (start_of n own proposal).head (start_sound n own proposal (taken e)))
  where
    taken : start_number_from_c r n own proposal ≡ 0 → start_number n own proposal ≡ 0
    taken z = go (start_number n own proposal) (sym (starts_number r n own proposal) ∙ z)
      where
        go : (k : ℕ) → cond (eqb k 0) (cond (eqb (length r) 20) 0 3) k ≡ 0 → k ≡ 0
        go k q = elim (ℕ_discrete k 0) [ yes z ↦ z | no z ↦ rw (ne_eqb k 0 z) at q ]

-- what the head in it is asked
pub ticks_taken : (r l : List ℕ) (coin : ℕ) → tick_number_from_c r l coin ≡ 0 → tick_number (head_at r) l coin ≡ 0
unfolding tick_number_from_c
ticks_taken r l coin = go (not_sound r)
  where
    go : (t : Bool) → cond t 3 (tick_number (head_at r) l coin) ≡ 0 → tick_number (head_at r) l coin ≡ 0
    go true q = absurd (omega arith)
    go false q = q

pub ticked_record_is_sound : (r l : List ℕ) (coin : ℕ) → tick_number_from_c r l coin ≡ 0 → not_sound (record_after_tick r l coin) ≡ false
unfolding record_after_tick
ticked_record_is_sound r l coin e =
    rw e (written_sound (tick_of (head_at r) l coin).head (tick_sound (head_at r) l coin (ticks_taken r l coin e)))

-- where the bytes are no record 3 is given, and else what the tick gives
pub tick_number_from_c_lem : (r l : List ℕ) (coin : ℕ) → tick_number_from_c r l coin ≡ cond (is_record r) (tick_number (head_at r) l coin) 3
unfolding tick_number_from_c not_sound
tick_number_from_c_lem r l coin = go (is_record r) (sound (head_at r)) refl
  where
    go : (a b : Bool) → sound (head_at r) ≡ b → cond (not (a && b)) 3 (tick_number (head_at r) l coin) ≡ cond a (tick_number (head_at r) l coin) 3
    go true true e = refl
    go true false e = sym ((tick_given (head_at r) l coin 3).1 (applies (false_not (means_sound (head_at r)) e)))
    go false b e = refl

-- ---- an accepted entry leaves what the engine gives by value

pub started_record_holds : (r : List ℕ) (n own proposal : ℕ) → start_number_from_c r n own proposal ≡ 0 → head_at (record_after_start r n own proposal) ≡ (start_of n own proposal).head
unfolding record_after_start
started_record_holds r n own proposal e = rw e (record_holds (start_of n own proposal).head)

pub ticked_record_holds : (r l : List ℕ) (coin : ℕ) → tick_number_from_c r l coin ≡ 0 → head_at (record_after_tick r l coin) ≡ (tick_of (head_at r) l coin).head
unfolding record_after_tick
ticked_record_holds r l coin e = rw e (record_holds (tick_of (head_at r) l coin).head)

pub ballot_from_c_reads_back : (r buffer : List ℕ) → send_number_from_c r buffer ≡ 0 → (read_number (head_at r).n (buffer_after_send r buffer) ≡ 0) × (read_ballot (head_at r).n (buffer_after_send r buffer) ≡ ballot_of (head_at r))
unfolding buffer_after_send
ballot_from_c_reads_back r buffer e = rw e (ballot_reads_back (head_at r) (sound_record r (taken e)).head)
  where
    taken : send_number_from_c r buffer ≡ 0 → not_sound r ≡ false
    taken z = not_false (means_not_sound r) (λ f. elim ((sends_given r buffer 0).0 z) [ inl x ↦ omega (arith, x.1) | inr x ↦ x.0 0 (f, refl) ])
