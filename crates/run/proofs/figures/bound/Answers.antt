use Rattle.std.proofs.Common.{◌≡◌, ℕ, ◌+◌, ◌/◌, ◌%◌, min, arith}
use Rattle.file.specs.Figures.{bound_of}
use Rattle.run.proofs.figures.bound.Goals as goal

half : (n : ℕ) → n / 2 + min 1 (n % 2) ≡ (n + 1) / 2
half n = omega arith

pub returns : goal.returns
unfolding bound_of
returns c = simp (c.saturating_sub.ensures, c.div_ceil.ensures, half)
