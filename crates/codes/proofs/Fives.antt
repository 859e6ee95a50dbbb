-- A list of ballots as arrays of five bytes.
use Prim.Native.Nat.{ℕ, zero, suc, ◌*◌, ◌<◌}
use mathlib.Core.Path.{◌≡◌, refl, ap, ◌∙◌}
use mathlib.Core.List.{List}
use native.Mathlib.Omega.{arith}
use lib.ListN.{get_or, take, drop}
use lib.Seq.{drop-drop}
use Rattle.std.specs.Simd.{first_chunks}
use Rattle.rules.specs.Ballot.{five_at}

-- the array at an index has the five bytes at that index of the list
pub array_at : (k i : ℕ) (l d : List ℕ) → i < k → get_or (first_chunks 5 k l) i d ≡ five_at l i
array_at zero i l d b = absurd (omega arith)
array_at (suc k) zero l d b = refl
array_at (suc k) (suc i) l d b =
    array_at k i (drop 5 l) d (omega arith)
    ∙ ap (take 5) (drop-drop (i * 5) 5 l ∙ ap (λ (n : ℕ). drop n l) (omega arith))
