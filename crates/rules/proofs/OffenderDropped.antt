-- What a caller may rest on that drops the ballot at the index and hands in the others again, at 8 without all of its
-- sender and phase, as examples/firmware.c does: there is such a ballot, and the head's own one stays.
use Prim.Native.Nat.{ℕ, ◌<◌}
use mathlib.Core.Path.{◌≡◌, refl, sym, ap, subst, ◌∙◌}
use mathlib.Core.List.{List}
use mathlib.Core.Bool.{Bool, true, false, cond}
use mathlib.Core.Logic.{inl, inr}
use native.Mathlib.Omega.{arith}
use Rattle.rules.specs.declared.Ballot.{Ballot}
use Rattle.rules.specs.declared.Head.{Head}
use Rattle.rules.specs.Ballot.{bytes_of, five_at, ballot_at}
use Rattle.rules.specs.Head.{ballot_of}
use Rattle.rules.specs.Tick.{ballots, tick_number, tick_index}
use Rattle.rules.specs.Record.{head_at, not_sound, tick_number_from_c, tick_index_from_c, send_number_from_c, buffer_after_send}
use Rattle.rules.specs.Given.{Given, Sound, Hears, OwnOtherwise, SomeBallot, Contradicts, Offender, by_rule, by_own, by_difference, by_none, tick_table}
use Rattle.rules.proofs.Counting.Truth.{false_not, not_not}
use Rattle.rules.proofs.Meaning.Meanings.{means_value, means_status, means_sound}
use Rattle.rules.proofs.Meaning.Given.{applies, means_breaks}
use Rattle.rules.proofs.Layouts.Encoding.{five_reads, five_stands}
use Rattle.rules.proofs.Demands as D
use Rattle.rules.proofs.Offender as O

-- ---- at 6, 7 and 8 there is a ballot at the index

in_the_list : {h : Head} {l : List ℕ} {number index : ℕ} → 5 < number → number < 9 → Offender h l number index → index < ballots l
in_the_list low high (by_rule n x) = x.0
in_the_list low high (by_own n x) = x.0
in_the_list low high (by_difference n x) = x.0
in_the_list low high (by_none a b c x) = absurd (omega (arith, low, high, a, b, c))

pub a_named_ballot_is_in_the_list : (h : Head) (l : List ℕ) (coin : ℕ) → 5 < tick_number h l coin → tick_number h l coin < 9
    → tick_index h l coin < ballots l
a_named_ballot_is_in_the_list h l coin low high =
    in_the_list low high ((O.a_tick_names_the_first_offending_ballot h l coin (tick_index h l coin)).0 refl)

pub a_ballot_named_from_c_is_in_the_list : (r l : List ℕ) (coin : ℕ) → 5 < tick_number_from_c r l coin → tick_number_from_c r l coin < 9
    → tick_index_from_c r l coin < ballots l
a_ballot_named_from_c_is_in_the_list r l coin low high =
    in_the_list low high ((O.a_tick_from_c_names_the_first_offending_ballot r l coin (tick_index_from_c r l coin)).0 refl)

-- ---- it is not the head's own, nor at 8 of the head's number and phase

-- after 5 the head is sound
past_5 : (h : Head) (l : List ℕ) (coin : ℕ) → 5 < tick_number h l coin → Sound h
past_5 h l coin low =
    not_not (means_sound h) (λ unsound. omega (arith, low, (D.a_tick_is_refused_by_the_first_number_that_applies h l coin 3).1 (applies unsound)))

module _ (h : Head) (l : List ℕ) (coin : ℕ) (eight : tick_number h l coin ≡ 8) where
  -- at 8 no ballot under the head's own number is otherwise: 7 comes first
  passed : SomeBallot l (λ i. OwnOtherwise h (ballot_at l i)) → ⊥
  passed = go ((D.a_tick_is_refused_by_the_first_number_that_applies h l coin 8).0 eight)
    where
      go : Given 8 0 (tick_table h l coin) → SomeBallot l (λ i. OwnOtherwise h (ballot_at l i)) → ⊥
      go (inl x) = absurd (omega (arith, x.1))
      go (inr (sound, inl x)) = absurd (omega (arith, x.1))
      go (inr (sound, inr (bit, inl x))) = absurd (omega (arith, x.1))
      go (inr (sound, inr (bit, inr (list, inl x)))) = absurd (omega (arith, x.1))
      go (inr (sound, inr (bit, inr (list, inr (rule, inl x))))) = absurd (omega (arith, x.1))
      go (inr (sound, inr (bit, inr (list, inr (rule, inr (own, later)))))) = λ x. own 0 (x, refl)

  -- the ballot at index i is of the head's number and phase
  abbrev Own : ℕ → Type 0
  Own i = (i < ballots l) × ((ballot_at l i).sender ≡ h.own) × ((ballot_at l i).phase ≡ h.phase)

  same : (i : ℕ) → Own i → ((ballot_at l i).value ≡ h.value) × ((ballot_at l i).status ≡ h.status)
  same i (b, s, p) = (
    not_not (means_value _ _) (λ n. passed (i, b, (s, inr (p, inl n)))),
    not_not (means_status _ _) (λ n. passed (i, b, (s, inr (p, inr n)))),
  )

  agrees : (i : ℕ) → Own i → Contradicts h l i → ⊥
  agrees i o (inl (j, b, (s, p, other))) =
      let mine = same i o in
      let earlier = same j (omega (arith, b, o.0), s ∙ o.1, p ∙ o.2) in
      elim other [ inl n ↦ n (earlier.0 ∙ sym mine.0) | inr n ↦ n (earlier.1 ∙ sym mine.1) ]
  agrees i o (inr (here, (v, hears, other))) =
      let sound = past_5 h l coin (omega (arith, eight)) in
      other (sound.own_heard v (subst (λ (s : ℕ). Hears h v s) o.1 hears) ∙ sym (same i o).0)

  pub at_8_none_of_the_heads_number_and_phase_is_named : (ballot_at l (tick_index h l coin)).sender ≡ h.own
      → (ballot_at l (tick_index h l coin)).phase ≡ h.phase → ⊥
  at_8_none_of_the_heads_number_and_phase_is_named s p =
      let named = (O.a_tick_names_the_first_offending_ballot h l coin (tick_index h l coin)).0 refl in
      let first = O.named_at_8 (subst (λ (k : ℕ). Offender h l k (tick_index h l coin)) eight named) in
      agrees (tick_index h l coin) (first.0, s, p) first.1

-- the ballot that the head sends, wherever it stands in the list
pub the_ballot_that_it_sends_is_never_named : (h : Head) (l : List ℕ) (coin : ℕ) → 5 < tick_number h l coin → tick_number h l coin < 9
    → five_at l (tick_index h l coin) ≡ bytes_of (ballot_of h) → ⊥
the_ballot_that_it_sends_is_never_named h l coin low high sent = go ((O.a_tick_names_the_first_offending_ballot h l coin index).0 refl)
  where
    index : ℕ
    index = tick_index h l coin

    sound : Sound h
    sound = past_5 h l coin low

    holds : ballot_at l index ≡ ballot_of h
    holds = five_reads l index (ballot_of h) sent

    go : Offender h l (tick_number h l coin) index → ⊥
    go (by_rule n x) =
        false_not (means_breaks h.n l index) (five_stands l index (ballot_of h) sent (record { sender = sound.own; rules = sound.rules })) x.1
    go (by_own n x) = own (subst (OwnOtherwise h) holds x.1)
      where
        own : OwnOtherwise h (ballot_of h) → ⊥
        own (s, inl higher) = omega (arith, higher)
        own (s, inr (p, inl other)) = other refl
        own (s, inr (p, inr other)) = other refl
    go (by_difference n x) =
        at_8_none_of_the_heads_number_and_phase_is_named h l coin n (ap (λ (b : Ballot). b.sender) holds) (ap (λ (b : Ballot). b.phase) holds)
    go (by_none a b c x) = omega (arith, low, high, a, b, c)

-- ---- the same from C

-- after 5, number and index are the tick's
as_the_tick : (r l : List ℕ) (coin : ℕ) → 5 < tick_number_from_c r l coin
    → (tick_number_from_c r l coin ≡ tick_number (head_at r) l coin) × (tick_index_from_c r l coin ≡ tick_index (head_at r) l coin)
unfolding tick_number_from_c tick_index_from_c
as_the_tick r l coin = go (not_sound r)
  where
    go : (t : Bool) → 5 < cond t 3 (tick_number (head_at r) l coin)
        → (cond t 3 (tick_number (head_at r) l coin) ≡ tick_number (head_at r) l coin) × (cond t 0 (tick_index (head_at r) l coin) ≡ tick_index (head_at r) l coin)
    go true low = absurd (omega (arith, low))
    go false low = (refl, refl)

pub at_8_from_c_none_of_the_heads_number_and_phase_is_named : (r l : List ℕ) (coin : ℕ) → tick_number_from_c r l coin ≡ 8
    → (ballot_at l (tick_index_from_c r l coin)).sender ≡ (head_at r).own
    → (ballot_at l (tick_index_from_c r l coin)).phase ≡ (head_at r).phase → ⊥
at_8_from_c_none_of_the_heads_number_and_phase_is_named r l coin eight s p =
    let is = as_the_tick r l coin (omega (arith, eight)) in
    at_8_none_of_the_heads_number_and_phase_is_named (head_at r) l coin (sym is.0 ∙ eight)
    (sym (ap (λ (i : ℕ). (ballot_at l i).sender) is.1) ∙ s) (sym (ap (λ (i : ℕ). (ballot_at l i).phase) is.1) ∙ p)

pub the_ballot_sent_from_c_is_never_named : (r l buffer : List ℕ) (coin : ℕ) → send_number_from_c r buffer ≡ 0
    → 5 < tick_number_from_c r l coin → tick_number_from_c r l coin < 9
    → five_at l (tick_index_from_c r l coin) ≡ buffer_after_send r buffer → ⊥
unfolding buffer_after_send
the_ballot_sent_from_c_is_never_named r l buffer coin written low high sent =
    let is = as_the_tick r l coin low in
    the_ballot_that_it_sends_is_never_named (head_at r) l coin (omega (arith, low, is.0)) (omega (arith, high, is.0))
    (sym (ap (five_at l) is.1) ∙ sent ∙ rw written refl)
