-- Document 01's printed case and its four bounds, computed.
use mathlib.Core.Path.{◌≡◌, refl}
use mathlib.Core.List.{[], ◌∷◌}
use Rattle.file.specs.Figures.{bound_of}
use Rattle.file.specs.Report.{report_of}
use Rattle.file.specs.PrintedCase.{printed_case, printed}
use Rattle.file.proofs.Computing.{reporting}

-- "For the 42 bytes .. it prints"
pub it_prints : report_of printed_case ≡ printed
unfolding reporting
it_prints = refl

-- "n 3, k 2 gives 2; n 4, k 3 gives 3; n 2, k 2 gives 0; n 32, k 17 gives 255"
pub the_bounds : (bound_of 3 2 ∷ bound_of 4 3 ∷ bound_of 2 2 ∷ bound_of 32 17 ∷ []) ≡ (2 ∷ 3 ∷ 0 ∷ 255 ∷ [])
unfolding bound_of
the_bounds = refl
