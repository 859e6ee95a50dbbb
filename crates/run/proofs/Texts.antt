-- Texts that grow: what a word at the end leaves, and that words one after the other are their bytes.
use Rattle.std.proofs.Common.{◌≡◌, ℕ, zero, suc, ◌+◌, ◌-◌, ◌*◌, ◌^◌, ◌<◌, ◌≤◌, min, Bool, true, false, cond, List, [], ◌++◌, length, take, replicate, sym, ap, ap₂, ◌∙◌, arith, length-append, length-take, refl, rules}
use Rattle.std.proofs.lemmas.List.{append_assoc, take_min, take_at, drop_at, drop-replicate, same_lists, places}
use borrow.Rule.Slice.PartMut.{put_mid}
use lib.Dec.{eqb}
use Rattle.rules.specs.declared.Value.{Value}
use Rattle.rules.specs.declared.Value.TheVariants.{Zero, One, Blank}
use Rattle.rules.specs.declared.Status.{Status}
use Rattle.rules.specs.declared.Status.TheVariants.{Undecided, Decided}
use Rattle.rules.specs.declared.Decision.{Decision}
use Rattle.rules.specs.declared.Decision.TheVariants.{Zero as ForZero, One as ForOne, Unwritten}
use Rattle.rules.specs.declared.Head.{Head}
use Rattle.file.specs.Figures.{Outcome}
use Rattle.file.specs.Table.{head_of}
use Rattle.file.specs.Benched.{benched_of}
use Rattle.file.specs.Report.{word, value_word, status_word, decision_word, first_line, head_line, head_lines}
use Rattle.io.specs.Digits.{last_digits, IsDigitCount}
use Rattle.file.specs.Report.{decimal, last_line, refusal_line, report_of}
use Rattle.file.proofs.Computing.{reporting}
use Rattle.file.proofs.Printing.Decimals.{places_is, decimal_short}
use Rattle.run.specs.declared.text.Text.TheInside.{Inside}
use Rattle.run.specs.Text.{text_of}
use Rattle.run.specs.Writing.{with_word}

-- under `unfolding writing` a line is its words
unfoldable pub writing : Unit {0}
unfolding first_line head_line last_line refusal_line
writing = tt

-- a word after a word is both at once
pub word_word : (text a b : List ℕ) → with_word (with_word text a) b ≡ with_word text (a ++ b)
unfolding with_word
word_word text a b = same_lists _ _ (search (rules, places)) (λ k d h. grind (arith, places))

-- the digits that the library gives are a number's fewest
pub digits_are : (n k : ℕ) → IsDigitCount 10 1 n k → n < 2 ^ 64 → last_digits 10 k n ≡ decimal n
unfolding decimal
digits_are n k fewest small = ap (λ (j : ℕ). last_digits 10 j n) (places_is n k fewest (omega arith))

abbrev fields : List ℕ → ℕ → Inside
fields bytes many = record { bytes = bytes; length = many }

-- the bytes of a text that holds just these and zeros
pub bytes_of : (text : Inside) (bytes : List ℕ) → text ≡ text_of bytes → take text.length text.bytes ≡ bytes
bytes_of text bytes is = rw is (take_at bytes _ _ refl)

-- as much of a word as fits, put behind a text's bytes
pub word_put : (text : Inside) (said word part : List ℕ) (count : ℕ) → text ≡ text_of said → count ≡ min (length word) (4096 - text.length)
    → part ≡ take count word
    → fields (put_mid text.length (text.length + count - text.length) text.bytes part) (text.length + count) ≡ text_of (with_word said word)
unfolding with_word
word_put text said word part count is fits taken =
    let start : text.length ≡ length said = ap (λ (t : Inside). t.length) is in
    let size : length said + count - length said ≡ count = omega arith in
    let all : take (4096 - length said) word ≡ part =
    sym (taken ∙ ap (λ (k : ℕ). take k word) (omega (arith, fits, start)) ∙ take_min (4096 - length said) word) in
    let long : length part ≡ count = ap length taken ∙ length-take count word ∙ omega (arith, fits) in
    let left : 4096 - length (said ++ part) ≡ 4096 - length said - count = omega (arith, length-append said part, long) in
    rw (is, size, all, left)
    (ap₂ fields (simp (take_at said, drop_at said, drop-replicate, append_assoc)) (omega (arith, length-append said part, long)))

-- a text of 4,096 bytes: what is printed, and zeros
pub a_text_is_filled_with_zeros : text_of (report_of [])
    ≡ record { bytes = word "refused 12 at 0\n" ++ replicate 4080 0; length = 16 }
unfolding reporting
a_text_is_filled_with_zeros = refl

-- ---- a report is short

value_short : (v : Value) → length (value_word v) ≤ 5
value_short Zero = omega arith
value_short One = omega arith
value_short Blank = omega arith

status_short : (s : Status) → length (status_word s) ≤ 9
status_short Undecided = omega arith
status_short Decided = omega arith

decision_short : (d : Decision) → length (decision_word d) ≤ 4
decision_short ForZero = omega arith
decision_short ForOne = omega arith
decision_short Unwritten = omega arith

line_short : (s : ℕ) (h : Head) → length (head_line s h) ≤ 96
unfolding head_line
line_short s h =
    simp length-append
    (omega (arith, decimal_short s, decimal_short h.phase, value_short h.value, status_short h.status, decision_short h.decision))

lines_short : (n : ℕ) (heads : List Head) → length (head_lines n heads) ≤ n * 96
unfolding head_lines
lines_short zero heads = omega arith
lines_short (suc k) heads =
    omega (
      arith,
      length-append (head_lines k heads) (head_line k (head_of heads k)),
      lines_short k heads,
      line_short k (head_of heads k),
    )

first_short : (o : Outcome) → length (first_line o) ≤ 80
unfolding first_line
first_short o = simp length-append (omega (arith, decimal_short o.n, decimal_short o.needed, decimal_short o.bound))

last_short : (o : Outcome) → length (last_line o) ≤ 83
unfolding last_line
last_short o = simp length-append (omega (arith, decimal_short o.rounds, decimal_short o.good, decimal_short o.decided))

refusal_short : (o : Outcome) → length (refusal_line o) ≤ 53
unfolding refusal_line
refusal_short o = simp length-append (omega (arith, decimal_short o.number, decimal_short o.place))

pub report_short : (file : List ℕ) → (benched_of file).outcome.n ≤ 32 → length (report_of file) ≤ 4096
unfolding report_of
report_short file few = go (eqb (benched_of file).outcome.number 0)
  where
    o : Outcome
    o = (benched_of file).outcome

    lines : List ℕ
    lines = head_lines o.n (benched_of file).heads

    go : (t : Bool) → length (cond t (first_line o ++ lines ++ last_line o) (refusal_line o)) ≤ 4096
    go true =
        omega (
          arith,
          few,
          first_short o,
          last_short o,
          lines_short o.n (benched_of file).heads,
          length-append (first_line o ++ lines) (last_line o),
          length-append (first_line o) lines,
        )
    go false = omega (arith, refusal_short o)
