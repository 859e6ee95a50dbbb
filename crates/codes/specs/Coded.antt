-- Codes: a number for each of a few nouns, both ways.
use Rattle.std.specs.Prelude.{ℕ, ◌-◌, ◌≡◌, ◌<◌, ◌≤◌}

-- what holds of each type that has codes
pub record CodedLaws {A : Type 0} (code_of : A → ℕ) (from_code : ℕ → A) (codes : ℕ) : Type 0 where
  -- a code reads back as what it stands for
  pub back : (x : A) → from_code (code_of x) ≡ x
  -- the codes are the numbers below `codes`
  pub few : (x : A) → code_of x < codes
  -- a number that is no code is read as the last one
  pub last : (k : ℕ) → codes ≤ k → from_code k ≡ from_code (codes - 1)
