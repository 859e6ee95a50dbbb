-- A few more reports, computed: each file tells errors apart that document 01's printed case does not. The texts are
-- those of the independent bench (`bash tests/independent/files report < FILE`; `tools/runfile` writes such a file).
-- Then lent tables.
use Prim.Native.Nat.{ℕ}
use mathlib.Core.Path.{◌≡◌, refl}
use mathlib.Core.List.{List, [], ◌∷◌, ◌++◌}
use lib.ListN.{replicate, drop}
use Rattle.rules.specs.declared.Value.TheVariants.{One}
use Rattle.rules.specs.declared.Status.TheVariants.{Undecided, Decided}
use Rattle.rules.specs.declared.Decision.TheVariants.{One as ForOne, Unwritten}
use Rattle.rules.specs.declared.Head.{Head}
use Rattle.rules.specs.Head.{zero_head, start_of}
use Rattle.file.specs.Table.{table_after}
use Rattle.file.specs.Figures.{outcome_of}
use Rattle.file.specs.Report.{word, report_of}
use Rattle.file.proofs.Computing.{reporting}

-- "rows of 4 bytes, high byte first", where heads 0 to 7 are all there are
abbrev rows : List ℕ → List ℕ
rows [] = []
rows (low ∷ more) = 0 ∷ 0 ∷ 0 ∷ low ∷ rows more

-- Three heads: values blank and 0, nothing decided, one round at the bound and two above it. Other losses, receiver and
-- sender exchanged, ballots formed after ticks, the own ballot always heard, other coins or coins in another order:
-- each prints something else.
abbrev pub loss_and_coin : List ℕ
loss_and_coin =
    (0 ∷ 3 ∷ 1 ∷ 0 ∷ 0 ∷ []) ++ (0 ∷ 1 ∷ 2 ∷ [])
    ++ (0 ∷ 3 ∷ [])
    ++ rows (4 ∷ 2 ∷ 4 ∷ [])
    ++ rows (2 ∷ 6 ∷ 0 ∷ [])
    ++ rows (0 ∷ 4 ∷ 2 ∷ [])
    ++ (0 ∷ 9 ∷ [])
    ++ (1 ∷ 1 ∷ 1 ∷ [])
    ++ (0 ∷ 1 ∷ 1 ∷ [])
    ++ (0 ∷ 1 ∷ 1 ∷ [])

pub loss_and_coin_prints : report_of loss_and_coin ≡
    word "heads 3 need 2 bound 2\n"
    ++ word "head 0 phase 4 value blank status undecided decision none\n"
    ++ word "head 1 phase 3 value 0 status undecided decision none\n"
    ++ word "head 2 phase 4 value blank status undecided decision none\n"
    ++ word "rounds 3 good 1 decided 0\n"
unfolding reporting
loss_and_coin_prints = refl

-- W2's vote of five heads: head 0 decides in the second round, misses the third and copies an undecided ballot in the
-- fourth. "Step 2 can put status back to undecided. The decision stays.": four heads have the status decided, five
-- decisions are written, all of them 0, and five are counted.
abbrev pub status_put_back : List ℕ
status_put_back =
    (0 ∷ 5 ∷ 0 ∷ 0 ∷ 0 ∷ 1 ∷ 1 ∷ []) ++ (0 ∷ 1 ∷ 3 ∷ [])
    ++ (0 ∷ 4 ∷ [])
    ++ rows (24 ∷ 24 ∷ 24 ∷ 17 ∷ 17 ∷ [])
    ++ rows (24 ∷ 17 ∷ 17 ∷ 17 ∷ 17 ∷ [])
    ++ rows (31 ∷ 1 ∷ 1 ∷ 1 ∷ 1 ∷ [])
    ++ rows (29 ∷ 0 ∷ 0 ∷ 0 ∷ 0 ∷ [])
    ++ (0 ∷ 20 ∷ [])
    ++ replicate 20 0

pub status_put_back_prints : report_of status_put_back ≡
    word "heads 5 need 3 bound 7\n"
    ++ word "head 0 phase 4 value 0 status undecided decision 0\n"
    ++ word "head 1 phase 5 value 0 status decided decision 0\n"
    ++ word "head 2 phase 5 value 0 status decided decision 0\n"
    ++ word "head 3 phase 5 value 0 status decided decision 0\n"
    ++ word "head 4 phase 5 value 0 status decided decision 0\n"
    ++ word "rounds 4 good 1 decided 5\n"
unfolding reporting
status_put_back_prints = refl

-- Eleven heads: a number of two digits, and rows whose third byte has the heads from 8 on.
abbrev pub two_digits : List ℕ
two_digits =
    (0 ∷ 11 ∷ 1 ∷ 1 ∷ 1 ∷ 1 ∷ 1 ∷ 1 ∷ 0 ∷ 0 ∷ 0 ∷ 0 ∷ 0 ∷ []) ++ (0 ∷ 1 ∷ 6 ∷ [])
    ++ (0 ∷ 1 ∷ [])
    ++ (0 ∷ 0 ∷ 7 ∷ 192 ∷ [])
    ++ (0 ∷ 0 ∷ 7 ∷ 224 ∷ [])
    ++ (0 ∷ 0 ∷ 5 ∷ 0 ∷ [])
    ++ (0 ∷ 0 ∷ 0 ∷ 7 ∷ [])
    ++ (0 ∷ 0 ∷ 3 ∷ 1 ∷ [])
    ++ (0 ∷ 0 ∷ 0 ∷ 0 ∷ [])
    ++ (0 ∷ 0 ∷ 0 ∷ 0 ∷ [])
    ++ (0 ∷ 0 ∷ 0 ∷ 0 ∷ [])
    ++ (0 ∷ 0 ∷ 0 ∷ 0 ∷ [])
    ++ (0 ∷ 0 ∷ 0 ∷ 0 ∷ [])
    ++ (0 ∷ 0 ∷ 0 ∷ 91 ∷ [])
    ++ (0 ∷ 11 ∷ [])
    ++ replicate 11 0

pub two_digits_prints : report_of two_digits ≡
    word "heads 11 need 6 bound 34\n"
    ++ word "head 0 phase 2 value 1 status undecided decision none\n"
    ++ word "head 1 phase 1 value 1 status undecided decision none\n"
    ++ word "head 2 phase 2 value 1 status undecided decision none\n"
    ++ word "head 3 phase 2 value blank status undecided decision none\n"
    ++ word "head 4 phase 2 value blank status undecided decision none\n"
    ++ word "head 5 phase 2 value 1 status undecided decision none\n"
    ++ word "head 6 phase 2 value 1 status undecided decision none\n"
    ++ word "head 7 phase 2 value 1 status undecided decision none\n"
    ++ word "head 8 phase 2 value 1 status undecided decision none\n"
    ++ word "head 9 phase 2 value 1 status undecided decision none\n"
    ++ word "head 10 phase 2 value blank status undecided decision none\n"
    ++ word "rounds 1 good 1 decided 0\n"
unfolding reporting
two_digits_prints = refl

-- Two heads and ten rounds that lose nothing: the rounds, the good ones and the phases have two digits.
abbrev pub ten_rounds : List ℕ
ten_rounds =
    (0 ∷ 2 ∷ 1 ∷ 1 ∷ []) ++ (0 ∷ 1 ∷ 2 ∷ []) ++ (0 ∷ 10 ∷ []) ++ replicate 80 0 ++ (0 ∷ 20 ∷ []) ++ replicate 20 0

pub ten_rounds_print : report_of ten_rounds ≡
    word "heads 2 need 2 bound 0\n"
    ++ word "head 0 phase 11 value 1 status decided decision 1\n"
    ++ word "head 1 phase 11 value 1 status decided decision 1\n"
    ++ word "rounds 10 good 10 decided 2\n"
unfolding reporting
ten_rounds_print = refl

-- Two heads in a lent table of four: the third could be ticked with their ballots, and the fourth has written 1.
-- "after a run the first n are the heads and the others are untouched", nor are they counted.
abbrev pub two_heads : List ℕ
two_heads = (0 ∷ 2 ∷ 0 ∷ 1 ∷ []) ++ (0 ∷ 1 ∷ 2 ∷ []) ++ (0 ∷ 1 ∷ []) ++ rows (0 ∷ 0 ∷ []) ++ (0 ∷ 2 ∷ 0 ∷ 0 ∷ [])

abbrev pub others : List Head
others =
    record {
      n = 3;
      own = 2;
      phase = 1;
      value = One;
      status = Undecided;
      decision = Unwritten;
      zeros = 0;
      ones = 0;
      blanks = 0;
    }
    ∷ record {
      n = 3;
      own = 1;
      phase = 3;
      value = One;
      status = Decided;
      decision = ForOne;
      zeros = 0;
      ones = 0;
      blanks
          = 0;
    } ∷ []

abbrev pub lent : List Head
lent = zero_head ∷ zero_head ∷ others

pub others_are_not_counted : outcome_of two_heads lent
    ≡ record { number = 0; place = 0; n = 2; needed = 2; bound = 0; rounds = 1; good = 1; decided = 0 }
unfolding reporting
others_are_not_counted = refl

pub others_are_left_alone : drop 2 (table_after two_heads lent) ≡ others
unfolding reporting
others_are_left_alone = refl

-- "Refused: nothing in the table changes."
pub a_refused_file_leaves_the_table : table_after (two_heads ++ (0 ∷ [])) lent ≡ lent
unfolding reporting
a_refused_file_leaves_the_table = refl

-- The same in a table that already holds heads of another vote, one started and one decided: they are started anew.
abbrev used : List Head
used =
    (start_of 4 3 1).head
    ∷ record {
      n = 4;
      own = 2;
      phase = 7;
      value = One;
      status = Decided;
      decision = ForOne;
      zeros = 0;
      ones = 5;
      blanks
          = 0;
    }
    ∷ others

pub heads_are_started_anew : (outcome_of two_heads used ≡ outcome_of two_heads lent)
    × (table_after two_heads used ≡ table_after two_heads lent)
unfolding reporting
heads_are_started_anew = (refl, refl)
