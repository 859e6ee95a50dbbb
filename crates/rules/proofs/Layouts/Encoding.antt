-- The bytes of a list of ballots, and what a reader of indexes sees in them.
use Prim.Native.Nat.{ℕ, zero, suc, ◌+◌, ◌*◌, ◌<◌}
use mathlib.Core.Path.{◌≡◌, refl, sym, ap, ◌∙◌}
use mathlib.Core.List.{List, [], ◌∷◌, ◌++◌}
use mathlib.Core.Bool.{false}
use native.Mathlib.Nat.{add-zero, div-add-mod'}
use native.Mathlib.Omega.{arith}
use lib.ListN.{length, get_or, take, drop, length-drop}
use lib.Seq.{get_or-take, get_or-drop, length-take-le}
use lib.Dec.{lit<}
use borrow.Author.Tests.{lt-ltb}
use Rattle.rules.specs.declared.Ballot.{Ballot}
use Rattle.rules.specs.Ballot.{value_code, status_code, bytes_of, ballot_at, breaks_rule, zero_ballot, five_at, encode, Bytes}
use Rattle.rules.specs.Tick.{ballots, tick_number}
use Rattle.rules.proofs.Meaning.Meanings.{means_obeys}
use Rattle.rules.proofs.Meaning.Accepted.{Stands, Codes, tick_accepted}
use Rattle.rules.proofs.Layouts.Ballots.{bytes_hold, numbers, number_by_number, high_byte, low_byte}
use Rattle.rules.specs.declared.Head.{Head}

-- the ballot at an index of a list of ballots
abbrev pub nth : List Ballot → ℕ → Ballot
nth list i = get_or list i zero_ballot

-- the bytes of two lists of ballots, one after the other, are those of both
pub encode_append : (list more : List Ballot) → encode (list ++ more) ≡ encode list ++ encode more
encode_append [] more = refl
encode_append (b ∷ list) more = ap (λ (l : List ℕ). bytes_of b ++ l) (encode_append list more)

-- each ballot is five bytes
pub encode_length : (list : List Ballot) → length (encode list) ≡ length list * 5
encode_length [] = refl
encode_length (b ∷ list) = let i = encode_length list in omega arith

-- the bytes hold as many ballots as were written
pub encode_ballots : (list : List Ballot) → ballots (encode list) ≡ length list
encode_ballots list = let e = encode_length list in omega arith

-- the five bytes at an index are the bytes of the ballot at that index
pub encode_five : (list : List Ballot) (i : ℕ) → i < length list → five_at (encode list) i ≡ bytes_of (nth list i)
encode_five [] i h = absurd (omega arith)
encode_five (b ∷ list) zero h = refl
encode_five (b ∷ list) (suc i) h =
    let e : suc i * 5 ≡ suc (suc (suc (suc (suc (i * 5))))) = omega arith in
    ap (λ (k : ℕ). take 5 (drop k (encode (b ∷ list)))) e ∙ encode_five list i (omega arith)

-- a byte after the first of an index is one of the five there
pub byte_of_five : (l : List ℕ) (i k : ℕ) → k < 5 → get_or l (i * 5 + k) 0 ≡ get_or (five_at l i) k 0
byte_of_five l i k h = sym (get_or-take 5 (drop (i * 5) l) k 0 h ∙ get_or-drop (i * 5) l k 0)

-- and so is the first
pub first_of_five : (l : List ℕ) (i : ℕ) → get_or l (i * 5) 0 ≡ get_or (five_at l i) 0 0
first_of_five l i = ap (λ (k : ℕ). get_or l k 0) (sym (add-zero (i * 5))) ∙ byte_of_five l i 0 (lit< tt)

-- the ballot read at an index is the one that its five bytes write
pub five_hold : (l : List ℕ) (i : ℕ) → ballot_at l i ≡ ballot_at (five_at l i) 0
unfolding ballot_at
five_hold l i =
    rw (first_of_five l i, byte_of_five l i 1 (lit< tt), byte_of_five l i 2 (lit< tt), byte_of_five l i 3 (lit< tt), byte_of_five l i 4 (lit< tt))

-- so where these are the bytes of a ballot, that ballot is read
pub five_reads : (l : List ℕ) (i : ℕ) (b : Ballot) → five_at l i ≡ bytes_of b → ballot_at l i ≡ b
five_reads l i b e = five_hold l i ∙ ap (λ (k : List ℕ). ballot_at k 0) e ∙ bytes_hold b

-- and it breaks no rule where it stands
pub five_stands : {n : ℕ} (l : List ℕ) (i : ℕ) (b : Ballot) → five_at l i ≡ bytes_of b → Stands n b → breaks_rule n l i ≡ false
unfolding breaks_rule
five_stands {n} l i b e s =
    simp
    (first_of_five l i, byte_of_five l i 1 (lit< tt), byte_of_five l i 2 (lit< tt), byte_of_five l i 3 (lit< tt), byte_of_five l i 4 (lit< tt), e, div-add-mod' b.phase 256, lt-ltb b.sender n s.sender, (means_obeys b.phase (value_code b.value) (status_code b.status)).1 s.rules)

-- "every accepted ballot's bytes are the only ones for it", of the ballots that a tick takes
five_bytes : (l : List ℕ) (i : ℕ) → i < ballots l → length (five_at l i) ≡ 5
five_bytes l i h = length-take-le 5 (drop (i * 5) l) (omega (arith, length-drop (i * 5) l))

pub written_as_its_bytes : (l : List ℕ) (i : ℕ) → Bytes l → i < ballots l → Codes l i → five_at l i ≡ bytes_of (ballot_at l i)
written_as_its_bytes l i small low codes =
    number_by_number 5 (five_at l i) (five_bytes l i low)
    ∙ (unfold numbers ballot_at in simp (sym (first_of_five l i), sym (byte_of_five l i 1 (lit< tt)), sym (byte_of_five l i 2 (lit< tt)), sym (byte_of_five l i 3 (lit< tt)), sym (byte_of_five l i 4 (lit< tt)), codes.value, codes.status, high_byte (get_or l (i * 5 + 3) 0) (get_or l (i * 5 + 4) 0) (small (i * 5 + 4)), low_byte (get_or l (i * 5 + 3) 0) (get_or l (i * 5 + 4) 0) (small (i * 5 + 4))))

pub tick_takes_its_bytes : (h : Head) (l : List ℕ) (coin : ℕ) → Bytes l → tick_number h l coin ≡ 0
    → (i : ℕ) → i < ballots l → five_at l i ≡ bytes_of (ballot_at l i)
tick_takes_its_bytes h l coin small e i low = written_as_its_bytes l i small low ((tick_accepted h l coin e).codes i low)
