-- The starts of a proper vote are accepted.
use Prim.Native.Nat.{ℕ, ◌<◌}
use mathlib.Core.Path.{◌≡◌}
use mathlib.Core.List.{[]}
use mathlib.Core.Logic.{inl, inr}
use native.Mathlib.Omega.{arith}
use Rattle.rules.specs.Head.{start_number, start_of, fresh}
use Rattle.rules.specs.Run.{Vote, Proper, head_in}
use Rattle.rules.proofs.Meaning.Given.{start_given, passed_over, none_applies}

module _ (vote : Vote) (proper : Proper vote) where
  pub start_taken : (s : ℕ) → s < vote.n → start_number vote.n s (vote.proposal s) ≡ 0
  start_taken s h =
      (start_given vote.n s (vote.proposal s) 0).1
      (passed_over (λ x. elim x [ inl f ↦ f proper.heads | inr f ↦ f h ]) (passed_over (λ l. omega (arith, proper.bits s h)) none_applies))

  pub start_head : (s : ℕ) → s < vote.n → head_in vote [] s ≡ fresh vote.n s (vote.proposal s)
  unfolding start_of
  start_head s h = rw (start_taken s h)
