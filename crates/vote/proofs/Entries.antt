-- What an entry from C gives, by what the engine answers: its number, and what the lent bytes hold afterwards.
use Prim.Native.Nat.{ℕ}
use mathlib.Core.Path.{◌≡◌, refl, sym, ap, subst, ◌∙◌}
use mathlib.Core.List.{List}
use mathlib.Core.Bool.{true, false}
use native.Mathlib.Omega.{arith}
use lib.ListN.{length, replicate}
use borrow.Author.Tests.{eq-eqb, ne_eqb}
use Rattle.rules.specs.declared.Head.{Head}
use Rattle.rules.specs.Answer.{Started, Ticked, Written}
use Rattle.rules.specs.Number.{first_that_applies}
use Rattle.rules.specs.Head.{sound, start_of, send_of}
use Rattle.rules.specs.Tick.{tick_number, tick_index, tick_of}
use Rattle.rules.specs.Record.{record_of, is_record, head_at, not_sound, start_number_from_c, record_after_start, tick_number_from_c, record_after_tick, tick_index_from_c, send_number_from_c, buffer_after_send}
use Rattle.rules.specs.Given.{Offender, by_none}
use Rattle.rules.proofs.Meaning.Answers.{start_number_lem, starts_number, tick_number_lem, record_length, send_sound, send_unsound, send_bytes}
use Rattle.codes.proofs.Held.{held_in, head_held}
use Rattle.rules.proofs.Layouts.FromC.{tick_number_from_c_lem}
use Rattle.rules.proofs.Offender.{a_tick_names_the_first_offending_ballot, a_tick_from_c_names_the_first_offending_ballot}

-- ---- a start

abbrev Starts : List ℕ → ℕ → ℕ → ℕ → ℕ → List ℕ → Type 0
Starts r n own proposal number after = (number ≡ start_number_from_c r n own proposal) × (after ≡ record_after_start r n own proposal)

module _ (r : List ℕ) (n own proposal : ℕ) (s : Started) (is : s ≡ start_of n own proposal) where
  pub start_refused : (s.number ≡ 0 → ⊥) → Starts r n own proposal s.number r
  unfolding record_after_start
  start_refused some =
      let number = ap (λ (x : Started). x.number) is ∙ start_number_lem n own proposal in
      let refused = ne_eqb s.number 0 some in
      (simp (starts_number r n own proposal, ← number, refused), simp (starts_number r n own proposal, ← number, refused))

  pub start_other_length : s.number ≡ 0 → (length r ≡ 20 → ⊥) → Starts r n own proposal 3 r
  unfolding record_after_start
  start_other_length zero other =
      let number = sym (ap (λ (x : Started). x.number) is ∙ start_number_lem n own proposal) ∙ zero in
      (simp (starts_number r n own proposal, number, ne_eqb (length r) 20 other), simp (starts_number r n own proposal, number, ne_eqb (length r) 20 other))

  pub start_stores : s.number ≡ 0 → length r ≡ 20 → Starts r n own proposal 0 (record_of s.head)
  unfolding record_after_start
  start_stores zero long =
      let number = sym (ap (λ (x : Started). x.number) is ∙ start_number_lem n own proposal) ∙ zero in
      (simp (starts_number r n own proposal, number, eq-eqb (length r) 20 long), simp (starts_number r n own proposal, number, eq-eqb (length r) 20 long) (ap (λ (x : Started). record_of x.head) is))

-- ---- a tick

abbrev Ticks : List ℕ → List ℕ → ℕ → ℕ → List ℕ → ℕ → Type 0
Ticks r l coin number after index =
    (number ≡ tick_number_from_c r l coin) × ((after ≡ record_after_tick r l coin) × (index ≡ tick_index_from_c r l coin))

pub tick_no_record : (r l : List ℕ) (coin : ℕ) → is_record r ≡ false → Ticks r l coin 3 r 0
unfolding record_after_tick
tick_no_record r l coin uncoded =
    let number : tick_number_from_c r l coin ≡ 3 = simp (tick_number_from_c_lem r l coin, uncoded) in
    let none : Offender (head_at r) l (tick_number_from_c r l coin) 0 = by_none (λ z. omega (arith, number, z)) (λ z. omega (arith, number, z)) (λ z. omega (arith, number, z)) refl in
    (sym number, (simp number, sym ((a_tick_from_c_names_the_first_offending_ballot r l coin 0).1 none)))

module _ (r l : List ℕ) (coin : ℕ) (h : Head) (t : Ticked) (coded : is_record r ≡ true) (held : h ≡ held_in r) (is : t ≡ tick_of h l coin) where
  from_record : t ≡ tick_of (head_at r) l coin
  from_record = is ∙ ap (λ (g : Head). tick_of g l coin) (head_held r held (record_length r coded))

  -- the number is the tick's, and so the ballot that it names
  names : t.index ≡ tick_index_from_c r l coin
  unfolding tick_of
  names =
      let number : tick_number (head_at r) l coin ≡ tick_number_from_c r l coin = simp (tick_number_from_c_lem r l coin, coded) in
      let index : tick_index (head_at r) l coin ≡ t.index = sym (ap (λ (x : Ticked). x.index) from_record) in
      let named = (a_tick_names_the_first_offending_ballot (head_at r) l coin t.index).0 index in
      sym ((a_tick_from_c_names_the_first_offending_ballot r l coin t.index).1 (subst (λ (k : ℕ). Offender (head_at r) l k t.index) number named))

  pub tick_refused : (t.number ≡ 0 → ⊥) → Ticks r l coin t.number r t.index
  unfolding record_after_tick
  tick_refused some =
      let number = ap (λ (x : Ticked). x.number) from_record ∙ tick_number_lem (head_at r) l coin in
      let given = tick_number_from_c_lem r l coin in
      (simp (given, coded, ← number), (simp (given, coded, ← number, ne_eqb t.number 0 some), names))

  pub tick_stores : t.number ≡ 0 → Ticks r l coin 0 (record_of t.head) t.index
  unfolding record_after_tick
  tick_stores zero =
      let number = sym (ap (λ (x : Ticked). x.number) from_record ∙ tick_number_lem (head_at r) l coin) ∙ zero in
      let given = tick_number_from_c_lem r l coin in
      (simp (given, coded, number), (simp (given, coded, number) (ap (λ (x : Ticked). record_of x.head) from_record), names))

-- ---- a ballot

abbrev Sends : List ℕ → List ℕ → ℕ → List ℕ → Type 0
Sends r buffer number after = (number ≡ send_number_from_c r buffer) × (after ≡ buffer_after_send r buffer)

pub send_no_record : (r buffer : List ℕ) → is_record r ≡ false → Sends r buffer 3 (replicate (length buffer) 0)
unfolding send_number_from_c buffer_after_send not_sound first_that_applies
send_no_record r buffer uncoded = (simp uncoded, simp uncoded)

module _ (r buffer : List ℕ) (h : Head) (w : Written) (coded : is_record r ≡ true) (held : h ≡ held_in r) (is : w ≡ send_of h) where
  from_held : w ≡ send_of (head_at r)
  from_held = is ∙ ap send_of (head_held r held (record_length r coded))

  pub send_refused : (w.number ≡ 0 → ⊥) → Sends r buffer w.number (replicate (length buffer) 0)
  unfolding send_of send_number_from_c buffer_after_send not_sound first_that_applies
  send_refused some =
      let unsound = send_unsound (head_at r) (λ zero. some (ap (λ (x : Written). x.number) from_held ∙ zero)) in
      (simp (ap (λ (x : Written). x.number) from_held, coded, unsound), simp (coded, unsound))

  module _ (zero : w.number ≡ 0) where
    whole_head : sound (head_at r) ≡ true
    whole_head = send_sound (head_at r) (sym (ap (λ (x : Written). x.number) from_held) ∙ zero)

    pub send_other_length : (length buffer ≡ 5 → ⊥) → Sends r buffer 5 (replicate (length buffer) 0)
    unfolding send_number_from_c buffer_after_send not_sound first_that_applies
    send_other_length other = (simp (coded, whole_head, ne_eqb (length buffer) 5 other), simp (coded, whole_head, ne_eqb (length buffer) 5 other))

    pub send_writes : length buffer ≡ 5 → Sends r buffer 0 w.bytes
    unfolding send_number_from_c buffer_after_send not_sound first_that_applies
    send_writes long =
        (simp (coded, whole_head, eq-eqb (length buffer) 5 long), simp (coded, whole_head, eq-eqb (length buffer) 5 long) (ap (λ (x : Written). x.bytes) from_held ∙ send_bytes (head_at r) whole_head))
