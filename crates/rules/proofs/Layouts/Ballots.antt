-- "Every ballot written reads back as written, and every accepted ballot's bytes are the only ones for it." (Demand 2)
use Prim.Native.Nat.{ℕ, zero, suc, ◌+◌, ◌*◌, ◌/◌, ◌%◌, ◌<◌}
use mathlib.Core.Path.{◌≡◌, refl, sym, ap, ◌∙◌}
use mathlib.Core.List.{List, [], ◌∷◌}
use mathlib.Core.Bool.{false}
use native.Mathlib.Nat.{div-add-mod'}
use native.Mathlib.Omega.{arith}
use lib.ListN.{length, get_or}
use borrow.Author.Tests.{lt-ltb}
use Rattle.rules.specs.declared.Ballot.{Ballot}
use Rattle.rules.specs.declared.Head.{Head}
use Rattle.rules.specs.declared.Refusal.{Refusal}
use Rattle.rules.specs.Number.{first_that_applies}
use Rattle.rules.specs.Ballot.{value_code, status_code, ballot_at, bytes_of, breaks_rule, read_number, read_index, read_ballot, number_read, index_read, ballot_read, Bytes}
use Rattle.rules.specs.Head.{ballot_of, send_of}
use Rattle.rules.specs.Given.{Heads, Sound}
use Rattle.rules.proofs.Counting.Truth.{not_false}
use Rattle.rules.proofs.Meaning.Meanings.{value_back, status_back, means_heads, means_obeys, means_sound}
use Rattle.std.specs.Prelude.{Result, Ok, Err}
use Rattle.rules.proofs.Meaning.OneAnswer.{same_refusal, refused_not_0}
use Rattle.rules.proofs.Meaning.Accepted.{Stands, ReadsWell, read_accepted}

-- the bytes of a ballot hold it
pub bytes_hold : (b : Ballot) → ballot_at (bytes_of b) 0 ≡ b
unfolding ballot_at
bytes_hold b = simp (value_back b.value, status_back b.status, div-add-mod' b.phase 256)

-- a ballot that stands in a vote of n heads is read from its bytes
pub written_reads_back : (n : ℕ) (b : Ballot) → Heads n → Stands n b → (read_number n (bytes_of b) ≡ 0) × (read_ballot n (bytes_of b) ≡ b)
unfolding read_ballot
written_reads_back n b few stands = (none, rw none (bytes_hold b))
  where
    kept : breaks_rule n (bytes_of b) 0 ≡ false
    kept = unfold breaks_rule in simp (lt-ltb b.sender n stands.sender, div-add-mod' b.phase 256, (means_obeys b.phase (value_code b.value) (status_code b.status)).1 stands.rules)

    none : read_number n (bytes_of b) ≡ 0
    none = unfold read_number first_that_applies in simp (not_false (means_heads n) (λ f. f few), kept)

-- so what a sound head sends is read as its ballot
pub ballot_reads_back : (h : Head) → Sound h → (read_number h.n (bytes_of (ballot_of h)) ≡ 0) × (read_ballot h.n (bytes_of (ballot_of h)) ≡ ballot_of h)
ballot_reads_back h s = written_reads_back h.n (ballot_of h) s.heads (record { sender = s.own; rules = s.rules })

pub sent_reads_back : (h : Head) → Sound h → ((send_of h).number ≡ 0) × (read_number h.n (send_of h).bytes ≡ 0) × (read_ballot h.n (send_of h).bytes ≡ ballot_of h)
unfolding send_of
sent_reads_back h s = let r = ballot_reads_back h s in rw ((means_sound h).1 s) (refl, r.0, r.1)

-- ---- the other way

-- a list of k numbers, number by number
unfoldable pub numbers : ℕ → (ℕ → ℕ) → List ℕ
numbers zero f = []
numbers (suc k) f = f 0 ∷ numbers k (λ i. f (suc i))

pub number_by_number : (k : ℕ) (l : List ℕ) → length l ≡ k → l ≡ numbers k (λ i. get_or l i 0)
unfolding numbers
number_by_number zero [] h = refl
number_by_number zero (a ∷ l) h = absurd (omega arith)
number_by_number (suc k) [] h = absurd (omega arith)
number_by_number (suc k) (a ∷ l) h = ap (λ (m : List ℕ). a ∷ m) (number_by_number k l (omega arith))

pub high_byte : (a b : ℕ) → b < 256 → (a * 256 + b) / 256 ≡ a
high_byte a b h = omega arith

pub low_byte : (a b : ℕ) → b < 256 → (a * 256 + b) % 256 ≡ b
low_byte a b h = omega arith

-- the bytes of an accepted ballot are the ballot's
pub only_bytes : (n : ℕ) (l : List ℕ) → Bytes l → read_number n l ≡ 0 → l ≡ bytes_of (read_ballot n l)
unfolding read_ballot
only_bytes n l small e = rw e (from (read_accepted n l e))
  where
    from : ReadsWell n l → l ≡ bytes_of (ballot_at l 0)
    from w =
        number_by_number 5 l w.five
        ∙ (unfold numbers ballot_at in simp (w.codes.value, w.codes.status, high_byte (get_or l 3 0) (get_or l 4 0) (small 4), low_byte (get_or l 3 0) (get_or l 4 0) (small 4)))

-- equal accepted answers come from equal bytes
pub one_ballot_one_writing : (n m : ℕ) (k l : List ℕ) → Bytes k → Bytes l → read_number n k ≡ 0 → read_number m l ≡ 0 → read_ballot n k ≡ read_ballot m l → k ≡ l
one_ballot_one_writing n m k l bk bl ek el same = only_bytes n k bk ek ∙ ap bytes_of same ∙ sym (only_bytes m l bl el)

-- ---- one answer of the reader

-- number, index and ballot determine the answer
pub one_answer : (n : ℕ) (l : List ℕ) (r s : Result Ballot Refusal)
    → number_read r ≡ read_number n l → index_read r ≡ read_index n l → ballot_read r ≡ read_ballot n l
    → number_read s ≡ read_number n l → index_read s ≡ read_index n l → ballot_read s ≡ read_ballot n l → r ≡ s
one_answer n l (Ok a) (Ok b) nr ir br ns is bs = ap Ok (br ∙ sym bs)
one_answer n l (Ok a) (Err s) nr ir br ns is bs = absurd (refused_not_0 s (ns ∙ sym nr))
one_answer n l (Err r) (Ok b) nr ir br ns is bs = absurd (refused_not_0 r (nr ∙ sym ns))
one_answer n l (Err r) (Err s) nr ir br ns is bs = ap Err (same_refusal r s (nr ∙ sym ns) (ir ∙ sym is))
