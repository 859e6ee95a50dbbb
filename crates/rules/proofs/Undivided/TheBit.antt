-- The bit that a step takes: the one of which a test holds, where it holds of one at most.
use Prim.Native.Nat.{ℕ, ◌<◌}
use mathlib.Core.Path.{◌≡◌, refl, sym, ap, ◌∙◌}
use mathlib.Core.Bool.{Bool, true, false, cond}
use native.Mathlib.Omega.{arith}
use lib.Dec.{lit<}
use Rattle.rules.specs.declared.Value.{Value}
use Rattle.rules.specs.declared.Value.TheVariants.{Zero, One, Blank}
use Rattle.rules.specs.Ballot.{value_code, value_of}
use Rattle.rules.specs.Choice.{bit_with}
use Rattle.rules.proofs.Counting.Truth.{never}
use Rattle.rules.proofs.Meaning.Accepted.{value_code_back}

-- a value that is 0 or 1
abbrev pub Bit : Value → Type 0
Bit v = v ≡ Blank → ⊥

pub zero_bit : Bit Zero
zero_bit e = let z : ◌≡◌ {A = ℕ} 0 1 = cc in omega arith

pub one_bit : Bit One
one_bit e = let z : ◌≡◌ {A = ℕ} 0 1 = cc in omega arith

pub bit_code : {v : Value} → Bit v → value_code v < 2
bit_code {v} bit = go v bit
  where
    go : (v : Value) → Bit v → value_code v < 2
    go Zero bit = lit< tt
    go One bit = lit< tt
    go Blank bit = absurd (bit refl)

-- a coin is one
pub coin_bit : (coin : ℕ) → coin < 2 → Bit (value_of coin)
coin_bit coin h z = omega (arith, value_code_back coin (omega arith), ap value_code z)

-- ---- what a step takes

-- the bit of a test, else a bit, is a bit
pub bit_kept : (p : Value → Bool) (other : Value) → Bit other → Bit (bit_with p other)
unfolding bit_with
bit_kept p other bit = go (p Zero) (p One)
  where
    go : (a b : Bool) → Bit (cond a (cond b other Zero) (cond b One other))
    go true true = bit
    go true false = zero_bit
    go false true = one_bit
    go false false = bit

-- where the test holds of one bit only, that is it
pub bit_with_lem : (p : Value → Bool) (other w : Value) → Bit w → p w ≡ true → ((u : Value) → Bit u → p u ≡ true → u ≡ w) → bit_with p other ≡ w
unfolding bit_with
bit_with_lem p other w bit e only = go (p Zero) (p One) refl refl
  where
    none : (w : Value) → Bit w → p Zero ≡ false → p One ≡ false → p w ≡ true → other ≡ w
    none Zero b x y e = never (sym x ∙ e)
    none One b x y e = never (sym y ∙ e)
    none Blank b x y e = absurd (b refl)

    go : (a b : Bool) → p Zero ≡ a → p One ≡ b → cond a (cond b other Zero) (cond b One other) ≡ w
    go true true x y = absurd (let z = only Zero zero_bit x in let o = only One one_bit y in let q : ◌≡◌ {A = ℕ} 0 1 = cc in omega arith)
    go true false x y = only Zero zero_bit x
    go false true x y = only One one_bit y
    go false false x y = none w bit x y e

-- where it is not the other value, the test holds of it
pub bit_from : (p : Value → Bool) (other w : Value) → bit_with p other ≡ w → (w ≡ other → ⊥) → p w ≡ true
unfolding bit_with
bit_from p other w e n = go (p Zero) (p One) refl refl e
  where
    go : (a b : Bool) → p Zero ≡ a → p One ≡ b → cond a (cond b other Zero) (cond b One other) ≡ w → p w ≡ true
    go true true x y e = absurd (n (sym e))
    go true false x y e = ap p (sym e) ∙ x
    go false true x y e = ap p (sym e) ∙ y
    go false false x y e = absurd (n (sym e))
