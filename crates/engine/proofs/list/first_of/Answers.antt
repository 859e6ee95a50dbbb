use mathlib.Core.Path.{◌≡◌, refl, ap, ◌∙◌}
use mathlib.Core.List.{[]}
use mathlib.Core.Bool.{true, false, ◌&&◌}
use native.Mathlib.Omega.{arith}
use borrow.Author.Tests.{tests}
use lib.Dec.{eqb}
use lib.ListN.{get_or}
use Rattle.std.proofs.Common.{rules}
use Rattle.std.proofs.lemmas.Iterator.{first_from_Range}
use Rattle.rules.specs.declared.Ballot.{Ballot}
use Rattle.rules.proofs.Counting.Below.{search_starts}
use Rattle.engine.specs.Look.{is_of}
use Rattle.engine.proofs.Fives.{search_from, array_of, same_ballot}
use Rattle.engine.proofs.list.first_of.Goals as goal

pub returns : goal.returns
returns c =
    let fives = c.as_chunks.result.0.now in
    let p = c.args.phase in
    let s = c.args.sender in
    c.unwrap_or.ensures
    ∙ search_from (is_of c.args.ballots.now p s) (λ i. is_of (get_or fives i []) p s 0) _ _ _ _
    refl (omega arith) (search_starts _)
    (λ j b. ap (λ (b : Ballot). eqb b.phase p && eqb b.sender s) (same_ballot (array_of j c.as_chunks.ensures.front (omega (arith, b, c.requires)))))
    (first_from_Range _ _ _ c.find.result (λ i. is_of (get_or fives i []) p s 0 ≡ true) (λ i. is_of (get_or fives i []) p s 0 ≡ false) c.find.ensures.ran (λ i q k. search (rules, tests)) (λ i q k. search (rules, tests)))
