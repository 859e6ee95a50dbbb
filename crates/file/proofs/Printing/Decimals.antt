-- A number's decimal digits: the fewest that hold it are the places of the definition, there are at most 20, and they
-- tell the number.
use Prim.Native.Nat.{ℕ, zero, suc, ◌+◌, ◌-◌, ◌*◌, ◌/◌, ◌%◌, ◌≤◌, ◌<◌, ◌^◌}
use mathlib.Core.Path.{◌≡◌, refl, sym, ap, ap₂, subst, ◌∙◌}
use mathlib.Core.List.{List, [], ◌∷◌, ◌++◌}
use mathlib.Core.Bool.{Bool, true, false, cond}
use native.Mathlib.Decide.{dec_lt}
use native.Mathlib.Nat.{pow-suc, pow-le-pow_right}
use native.Mathlib.Omega.{arith}
use lib.ListN.{length, length-append}
use lib.Dec.{ltb, lit<}
use borrow.Author.Tests.{lt-ltb, le-ltb, ltb-true}
use Rattle.io.specs.Digits.{hex_digit_ascii, last_digits, IsDigitCount}
use Rattle.rules.specs.Below.{first}
use Rattle.rules.proofs.Counting.Below.{NoneBefore, first_le, first_holds, search_finds, search_ends}
use Rattle.file.specs.Report.{decimal}
use Rattle.file.proofs.Printing.WordsApart.{Lacks, lacks_append}

-- how many digits `decimal` writes
abbrev pub places : ℕ → ℕ
places n = suc (first 19 (λ k. ltb n (10 ^ suc k)))

-- twenty digits hold every number below 10 ^ 20
few_digits : (n k : ℕ) → IsDigitCount 10 1 n k → n < 10 ^ 20 → k ≤ 20
few_digits n k fewest small = go (dec_lt 20 k)
  where
    go : Dec (20 < k) → k ≤ 20
    go (no h) = omega arith
    go (yes h) =
        absurd (omega (
          arith,
          small,
          fewest.2 (omega arith),
          pow-le-pow_right {n = 10} (lit< tt) {i = 20} {j = k - 1} (omega arith),
        ))

-- the fewest digits are the places
pub places_is : (n k : ℕ) → IsDigitCount 10 1 n k → n < 10 ^ 20 → k ≡ places n
places_is n zero fewest small = absurd (omega (arith, fewest.0))
places_is n (suc j) fewest small = ap suc (go (dec_lt j 19))
  where
    p : ℕ → Bool
    p i = ltb n (10 ^ suc i)

    none : NoneBefore j p
    none i h =
        let least : 10 ^ j ≤ n = low in
        le-ltb n (10 ^ suc i) (omega (arith, least, pow-le-pow_right {n = 10} (lit< tt) {i = suc i} {j = j} h))
      where
        low : 10 ^ j ≤ n
        low = let back : suc j - 1 ≡ j = omega arith in rw back at (fewest.2 (omega arith))

    go : Dec (j < 19) → j ≡ first 19 p
    go (yes l) = search_finds 19 j p none (lt-ltb n (10 ^ suc j) fewest.1) l
    go (no l) = search_ends 19 j p none (omega (arith, few_digits n (suc j) fewest small)) (omega arith)

digits_length : (b k n : ℕ) → length (last_digits b k n) ≡ k
digits_length b zero n = refl
digits_length b (suc k) n =
    length-append (last_digits b k (n / b)) _ ∙ (let more : k + 1
    ≡ suc k = omega arith in ap (λ (m : ℕ). m + 1) (digits_length b k (n / b)) ∙ more)

pub decimal_short : (n : ℕ) → length (decimal n) ≤ 20
unfolding decimal
decimal_short n = omega (arith, digits_length 10 (places n) n, first_le 19 (λ k. ltb n (10 ^ suc k)))

-- ---- a number is read back from its digits

abbrev read_on : ℕ → List ℕ → ℕ
read_on known [] = known
read_on known (digit ∷ more) = read_on (known * 10 + (digit - 48)) more

read_last : (known digit : ℕ) (l : List ℕ) → read_on known (l ++ (digit ∷ [])) ≡ read_on known l * 10 + (digit - 48)
read_last known digit [] = refl
read_last known digit (d ∷ l) = read_last (known * 10 + (d - 48)) digit l

glyph_read : (d : ℕ) → d < 10 → hex_digit_ascii d - 48 ≡ d
glyph_read d h = let e : 48 + d - 48 ≡ d = omega arith in rw (lt-ltb d 10 h) e

digits_read : (k n : ℕ) → n < 10 ^ k → read_on 0 (last_digits 10 k n) ≡ n
digits_read zero n h = let e : n < 1 = h in omega (arith, e)
digits_read (suc k) n h =
    let few : n / 10 < 10 ^ k = omega (arith, h, pow-suc 10 k) in
    let i = digits_read k (n / 10) few in
    let last : n % 10 < 10 = omega arith in
    let back : n / 10 * 10 + n % 10 ≡ n = omega arith in
    read_last 0 (hex_digit_ascii (n % 10)) (last_digits 10 k (n / 10)) ∙ ap₂ (λ (a b : ℕ). a * 10 + b) i (glyph_read (n % 10) last)
    ∙ back

-- twenty digits hold every number below 10 ^ 20
held_by_places : (n : ℕ) → n < 10 ^ 20 → n < 10 ^ places n
held_by_places n small = go (dec_lt (first 19 (λ k. ltb n (10 ^ suc k))) 19)
  where
    go : Dec (first 19 (λ k. ltb n (10 ^ suc k)) < 19) → n < 10 ^ suc (first 19 (λ k. ltb n (10 ^ suc k)))
    go (yes h) = ltb-true n _ (first_holds 19 (λ k. ltb n (10 ^ suc k)) h)
    go (no h) =
        let all : first 19 (λ k. ltb n (10 ^ suc k)) ≡ 19 = omega (arith, first_le 19 (λ k. ltb n (10 ^ suc k))) in
        subst (λ (k : ℕ). n < 10 ^ suc k) (sym all) small

pub decimal_tells : (m n : ℕ) → m < 10 ^ 20 → n < 10 ^ 20 → decimal m ≡ decimal n → m ≡ n
unfolding decimal
decimal_tells m n a b e =
    sym (digits_read (places m) m (held_by_places m a)) ∙ ap (read_on 0) e
    ∙ digits_read (places n) n (held_by_places n b)

-- ---- no space and no newline is a digit

pub decimal_lacks : (c n : ℕ) → c < 48 → Lacks c (decimal n)
unfolding decimal
decimal_lacks c n low = each (places n) n
  where
    high : (d : ℕ) → hex_digit_ascii d ≡ c → ⊥
    high d e = go (ltb d 10) e
      where
        go : (t : Bool) → cond t (48 + d) (87 + d) ≡ c → ⊥
        go true e = omega (arith, low, e)
        go false e = omega (arith, low, e)

    each : (k n : ℕ) → Lacks c (last_digits 10 k n)
    each zero n = tt
    each (suc k) n = lacks_append c (last_digits 10 k (n / 10)) (hex_digit_ascii (n % 10) ∷ []) (each k (n / 10)) (high (n % 10), tt)
