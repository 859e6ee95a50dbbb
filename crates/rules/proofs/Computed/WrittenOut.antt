-- The bytes of document 01 on two examples, and the zeros of a refusal, each written out in full.
use Prim.Native.Nat.{ℕ}
use mathlib.Core.Path.{◌≡◌, refl}
use mathlib.Core.List.{List, [], ◌∷◌}
use mathlib.Core.Bool.{false}
use borrow.Author.Tests.{ne_eqb}
use Rattle.rules.specs.declared.Value.TheVariants.{Zero, One, Blank}
use Rattle.rules.specs.declared.Status.TheVariants.{Undecided, Decided}
use Rattle.rules.specs.declared.Decision.TheVariants.{Zero as ForZero, One as ForOne}
use Rattle.rules.specs.declared.Head.{Head}
use Rattle.rules.specs.Ballot.{bytes_of, read_number, read_ballot}
use Rattle.rules.specs.Head.{sound, start_number, start_of, send_of}
use Rattle.rules.specs.Record.{record_of}

-- "Sender 1, phase 300, value 1, decided: 01 01 01 01 2C."
pub one_ballot : bytes_of (record { sender = 1; value = One; status = Decided; phase = 300 }) ≡ 1 ∷ 1 ∷ 1 ∷ 1 ∷ 44 ∷ []
one_ballot = refl

-- and one whose five bytes all differ
pub another_ballot : bytes_of (record { sender = 5; value = Blank; status = Undecided; phase = 772 }) ≡ 5 ∷ 2 ∷ 0 ∷ 3 ∷ 4 ∷ []
another_ballot = refl

-- "n, own number, phase (2, high byte first), value, status, decision (2 for none), a zero byte, then the sets for 0, 1
-- and blank, 4 bytes each, high byte first, lowest bit for head 0": here 31 is heard with 0, 16 with 1, 8 and 0 blank
pub one_record : record_of
    (record { n = 32; own = 5; phase = 300; value = Blank; status = Undecided; decision = ForOne; zeros = 2147483648; ones = 65536; blanks = 257 })
    ≡ 32 ∷ 5 ∷ 1 ∷ 44 ∷ 2 ∷ 0 ∷ 1 ∷ 0 ∷ 128 ∷ 0 ∷ 0 ∷ 0 ∷ 0 ∷ 1 ∷ 0 ∷ 0 ∷ 0 ∷ 0 ∷ 1 ∷ 1 ∷ []
one_record = refl

-- "A refused start gives a head with every field zero (value and decision 0, undecided)"
pub refused_start : (n own proposal : ℕ) → (start_number n own proposal ≡ 0 → ⊥) → (start_of n own proposal).head ≡ record { n = 0; own = 0; phase = 0; value = Zero; status = Undecided; decision = ForZero; zeros = 0; ones = 0; blanks = 0 }
unfolding start_of
refused_start n own proposal f = rw (ne_eqb (start_number n own proposal) 0 f)

-- "a refusal (1, 5 or 6) comes with a ballot of zero fields"
pub refused_reading : (n : ℕ) (bytes : List ℕ) → (read_number n bytes ≡ 0 → ⊥) → read_ballot n bytes ≡ record { sender = 0; value = Zero; status = Undecided; phase = 0 }
unfolding read_ballot
refused_reading n bytes f = rw (ne_eqb (read_number n bytes) 0 f)

-- "of an unsound one refusal 3 and five zeros"
pub refused_sending : (h : Head) → sound h ≡ false → send_of h ≡ record { number = 3; bytes = 0 ∷ 0 ∷ 0 ∷ 0 ∷ 0 ∷ [] }
unfolding send_of
refused_sending h e = rw e
