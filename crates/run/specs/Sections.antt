-- What the section readers hand to one another.
use Rattle.std.specs.Prelude.{ℕ, ◌+◌, ◌≤◌, ◌≡◌, List, Bool, length, take, drop}

-- what is answered of a piece of so many bytes is what a test says of the place where it stands in a body
abbrev pub Tests : ℕ → (List ℕ → Bool → Type 0) → (List ℕ → ℕ → Bool) → Type 0
Tests width Answers test =
    (body : List ℕ) (at : ℕ) (answer : Bool) → at + width ≤ length body → Answers (take width (drop at body)) answer
    → answer ≡ test body at
