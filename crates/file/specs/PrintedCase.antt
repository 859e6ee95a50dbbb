-- Document 01's printed case: "For the 42 bytes .. it prints".
use Rattle.std.specs.Prelude.{ℕ, List, [], ◌∷◌, ◌++◌, replicate}
use Rattle.file.specs.Report.{word}

-- "00 03 01 01 00, 00 01 02, 00 02 and 24 zeros, 00 06 and 6 zeros"
abbrev pub printed_case : List ℕ
printed_case = (0 ∷ 3 ∷ 1 ∷ 1 ∷ 0 ∷ 0 ∷ 1 ∷ 2 ∷ 0 ∷ 2 ∷ []) ++ replicate 24 0 ++ (0 ∷ 6 ∷ []) ++ replicate 6 0

abbrev pub printed : List ℕ
printed =
    word "heads 3 need 2 bound 2\n"
    ++ word "head 0 phase 3 value 1 status decided decision 1\n"
    ++ word "head 1 phase 3 value 1 status decided decision 1\n"
    ++ word "head 2 phase 3 value 1 status decided decision 1\n"
    ++ word "rounds 2 good 2 decided 3\n"
