-- Values, statuses and decisions keep the laws of codes.
use Prim.Native.Nat.{ℕ, ◌≤◌, ◌<◌}
use mathlib.Core.Path.{◌≡◌}
use native.Mathlib.Omega.{arith}
use borrow.Author.Tests.{ne_eqb}
use Rattle.rules.specs.declared.Decision.{Decision}
use Rattle.rules.specs.declared.Decision.TheVariants.{Zero as ForZero, One as ForOne, Unwritten}
use Rattle.rules.specs.Ballot.{value_code, value_of, status_code, status_of}
use Rattle.rules.specs.Head.{decision_code}
use Rattle.rules.specs.Record.{decision_of}
use Rattle.rules.proofs.Meaning.Meanings.{value_low, status_low, value_back, status_back, decision_back}
use Rattle.codes.specs.Coded.{CodedLaws}

pub value_laws : CodedLaws value_code value_of 3
unfolding value_of
value_laws = record { back = value_back; few = value_low; last = last }
  where
    last : (k : ℕ) → 3 ≤ k → value_of k ≡ value_of 2
    last k b = simp (ne_eqb k 0 (omega arith), ne_eqb k 1 (omega arith))

pub status_laws : CodedLaws status_code status_of 2
unfolding status_of
status_laws = record { back = status_back; few = status_low; last = last }
  where
    last : (k : ℕ) → 2 ≤ k → status_of k ≡ status_of 1
    last k b = simp (ne_eqb k 0 (omega arith))

pub decision_laws : CodedLaws decision_code decision_of 3
unfolding decision_of
decision_laws = record { back = decision_back; few = few; last = last }
  where
    few : (x : Decision) → decision_code x < 3
    few ForZero = omega arith
    few ForOne = omega arith
    few Unwritten = omega arith

    last : (k : ℕ) → 3 ≤ k → decision_of k ≡ decision_of 2
    last k b = simp (ne_eqb k 0 (omega arith), ne_eqb k 1 (omega arith))
