-- A head's record reads back, and a record is the only one for its head.
use Prim.Native.Nat.{ℕ, zero, suc, ◌+◌, ◌*◌, ◌/◌, ◌%◌, ◌<◌}
use mathlib.Core.Path.{◌≡◌, refl, sym, ◌∙◌}
use mathlib.Core.List.{List}
use mathlib.Core.Bool.{true, ◌&&◌}
use native.Mathlib.Nat.{div-add-mod'}
use native.Mathlib.Omega.{arith}
use lib.ListN.{length, get_or}
use lib.Dec.{eqb, ltb}
use borrow.Author.Tests.{ltb-true, eqb-true}
use Rattle.rules.specs.declared.Value.{Value}
use Rattle.rules.specs.declared.Value.TheVariants.{Zero, One, Blank}
use Rattle.rules.specs.declared.Status.{Status}
use Rattle.rules.specs.declared.Status.TheVariants.{Undecided, Decided}
use Rattle.rules.specs.declared.Decision.{Decision}
use Rattle.rules.specs.declared.Decision.TheVariants.{Zero as ForZero, One as ForOne, Unwritten}
use Rattle.rules.specs.declared.Head.{Head}
use Rattle.rules.specs.Ballot.{value_code, status_code, Bytes}
use Rattle.rules.specs.Head.{decision_code}
use Rattle.rules.specs.Record.{record_of, is_record, decision_of, head_at}
use Rattle.rules.proofs.Counting.Truth.{and_left, and_right}
use Rattle.rules.proofs.Meaning.Meanings.{value_back, status_back, decision_back}
use Rattle.rules.proofs.Meaning.Accepted.{value_code_back, status_code_back}
use Rattle.rules.proofs.Layouts.Ballots.{numbers, number_by_number, high_byte, low_byte}

word_back : (x : ℕ) → ((x / 16777216 * 256 + x / 65536 % 256) * 256 + x / 256 % 256) * 256 + x % 256 ≡ x
word_back x = omega arith

-- what is written is a record, and holds the head
pub record_holds : (h : Head) → head_at (record_of h) ≡ h
unfolding head_at
record_holds h =
    simp
    (div-add-mod' h.phase 256, value_back h.value, status_back h.status, decision_back h.decision, word_back h.zeros, word_back h.ones, word_back h.blanks)

pub record_is_record : (h : Head) → is_record (record_of h) ≡ true
unfolding is_record
record_is_record h = go h.value h.status h.decision
  where
    go : (v : Value) (s : Status) (d : Decision) → ltb (value_code v) 3 && (ltb (status_code s) 2 && (ltb (decision_code d) 3 && true)) ≡ true
    go v s d = simp (value v, status s, decision d)
      where
        value : (v : Value) → ltb (value_code v) 3 ≡ true
        value Zero = refl
        value One = refl
        value Blank = refl

        status : (s : Status) → ltb (status_code s) 2 ≡ true
        status Undecided = refl
        status Decided = refl

        decision : (d : Decision) → ltb (decision_code d) 3 ≡ true
        decision ForZero = refl
        decision ForOne = refl
        decision Unwritten = refl

-- ---- the other way

decision_code_back : (c : ℕ) → c < 3 → decision_code (decision_of c) ≡ c
unfolding decision_of
decision_code_back zero h = refl
decision_code_back (suc zero) h = refl
decision_code_back (suc (suc zero)) h = refl
decision_code_back (suc (suc (suc c))) h = absurd (omega arith)

-- the four bytes of a word
record Word (x a b c d : ℕ) : Type 0 where
  first : x / 16777216 ≡ a
  second : x / 65536 % 256 ≡ b
  third : x / 256 % 256 ≡ c
  fourth : x % 256 ≡ d

word : (a b c d : ℕ) → b < 256 → c < 256 → d < 256 → Word (((a * 256 + b) * 256 + c) * 256 + d) a b c d
word a b c d hb hc hd = record { first = omega arith; second = omega arith; third = omega arith; fourth = omega arith }

pub record_only : (r : List ℕ) → Bytes r → is_record r ≡ true → record_of (head_at r) ≡ r
unfolding is_record head_at numbers
record_only r small e =
    let e₁ = and_right (eqb (length r) 20) _ e in
    let e₂ = and_right (ltb (get_or r 4 0) 3) _ e₁ in
    let e₃ = and_right (ltb (get_or r 5 0) 2) _ e₂ in
    let zero_byte = eqb-true (get_or r 7 0) 0 (and_right (ltb (get_or r 6 0) 3) _ e₃) in
    let value = value_code_back (get_or r 4 0) (ltb-true (get_or r 4 0) 3 (and_left (ltb (get_or r 4 0) 3) _ e₁)) in
    let status = status_code_back (get_or r 5 0) (ltb-true (get_or r 5 0) 2 (and_left (ltb (get_or r 5 0) 2) _ e₂)) in
    let decision = decision_code_back (get_or r 6 0) (ltb-true (get_or r 6 0) 3 (and_left (ltb (get_or r 6 0) 3) _ e₃)) in
    let zeros = word (get_or r 8 0) (get_or r 9 0) (get_or r 10 0) (get_or r 11 0) (small 9) (small 10) (small 11) in
    let ones = word (get_or r 12 0) (get_or r 13 0) (get_or r 14 0) (get_or r 15 0) (small 13) (small 14) (small 15) in
    let blanks = word (get_or r 16 0) (get_or r 17 0) (get_or r 18 0) (get_or r 19 0) (small 17) (small 18) (small 19) in
    sym
    (number_by_number 20 r (eqb-true (length r) 20 (and_left (eqb (length r) 20) _ e))
    ∙ simp
    (zero_byte, value, status, decision, high_byte (get_or r 2 0) (get_or r 3 0) (small 3), low_byte (get_or r 2 0) (get_or r 3 0) (small 3), zeros.first, zeros.second, zeros.third, zeros.fourth, ones.first, ones.second, ones.third, ones.fourth, blanks.first, blanks.second, blanks.third, blanks.fourth))
