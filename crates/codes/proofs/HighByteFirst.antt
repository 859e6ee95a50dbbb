-- The bytes of a number, high byte first, as the definitions of records and ballots write them.
use Prim.Native.Nat.{ℕ, ◌/◌, ◌%◌, ◌<◌}
use mathlib.Core.Path.{◌≡◌, ap}
use mathlib.Core.List.{[], ◌∷◌}
use native.Mathlib.Omega.{arith}
use Rattle.std.specs.Int.{w16, w32, to_be_bytes}
use Rattle.rules.specs.Record.{four_bytes}

-- of a phase
pub two_bytes : (x : ℕ) → x < 65536 → to_be_bytes w16 x ≡ x / 256 ∷ x % 256 ∷ []
two_bytes x b = ap (λ (high : ℕ). high ∷ x % 256 ∷ []) (omega arith)

-- of a set of heads
pub set_bytes : (x : ℕ) → x < 4294967296 → to_be_bytes w32 x ≡ four_bytes x
set_bytes x b = ap (λ (high : ℕ). high ∷ x / 65536 % 256 ∷ x / 256 % 256 ∷ x % 256 ∷ []) (omega arith)
