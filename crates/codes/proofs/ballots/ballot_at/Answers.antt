use mathlib.Core.Path.{◌≡◌, ap, ◌∙◌}
use mathlib.Core.List.{List, []}
use Prim.Native.Nat.{ℕ, ◌<◌}
use native.Mathlib.Omega.{arith}
use lib.ListN.{get_or}
use borrow.Author.Tests.{lt-ltb}
use Rattle.rules.specs.Ballot.{ballot_at, five_at}
use Rattle.rules.specs.Tick.{ballots}
use Rattle.rules.proofs.Layouts.Encoding.{five_hold}
use Rattle.codes.proofs.Fives.{array_at}
use Rattle.codes.proofs.ballots.ballot_at.Goals as goal

pub returns-in-Some : goal.returns-in-Some
unfolding ballot_at
returns-in-Some c =
    let found = c.in-Some.ensures.lookup.3 in
    let l = c.args.ballots.now in
    let i = c.args.i in
    let there : i < ballots l = omega (arith, found.0, c.as_chunks.ensures.front_len) in
    let five : c.in-Some.five.now ≡ five_at l i = found.1 [] ∙ ap (λ (f : List (List ℕ)). get_or f i []) c.as_chunks.ensures.front ∙ array_at (ballots l) i l [] there in
    simp (c.from_code.ensures, c.from_code-in-Some.ensures, c.phase_of.ensures, lt-ltb i (ballots l) there, five_hold l i, five)
