-- Parts of a list of bytes, and parts of those.
use Prim.Native.Nat.{ℕ, zero, suc, ◌+◌, ◌*◌, ◌≤◌, ◌<◌}
use mathlib.Core.Path.{◌≡◌, refl, ap, ◌∙◌}
use mathlib.Core.List.{List, [], ◌∷◌}
use native.Mathlib.Nat.{suc-mul, mul-le-mul_right}
use native.Mathlib.Omega.{arith}
use lib.ListN.{get_or, take, drop}
use lib.Seq.{get_or-take, get_or-drop, take-take, drop-drop}

-- a byte of a part
pub byte_of_part : (xs : List ℕ) (start size i : ℕ) → i < size → get_or (take size (drop start xs)) i 0 ≡ get_or xs (start + i) 0
byte_of_part xs start size i h = get_or-take size (drop start xs) i 0 h ∙ get_or-drop start xs i 0

within_part : (from more size : ℕ) (xs : List ℕ) → from + more ≤ size → take more (drop from (take size xs)) ≡ take more (drop from xs)
within_part zero more size xs h = take-take more size xs (omega arith)
within_part (suc from) more zero xs h = absurd (omega arith)
within_part (suc from) more (suc size) [] h = refl
within_part (suc from) more (suc size) (x ∷ xs) h = within_part from more size xs (omega arith)

-- a part of a part
pub part_of_part : (xs : List ℕ) (start size from more : ℕ) → from + more ≤ size → take more (drop from (take size (drop start xs))) ≡ take more (drop (start + from) xs)
part_of_part xs start size from more h = within_part from more size (drop start xs) h ∙ ap (take more) (drop-drop from start xs)

-- a round's pieces end where the rounds' do
pub round_inside : (r rounds n : ℕ) → r < rounds → r * n + n ≤ rounds * n
round_inside r rounds n h =
    let e : suc r * n ≡ r * n + n = suc-mul r n in
    let more : suc r * n ≤ rounds * n = mul-le-mul_right n h in
    omega (arith, e, more)
