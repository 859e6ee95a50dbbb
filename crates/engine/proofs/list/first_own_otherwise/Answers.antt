use mathlib.Core.Path.{◌≡◌, ap, ◌∙◌}
use mathlib.Core.List.{[]}
use mathlib.Core.Bool.{true, false}
use lib.ListN.{get_or}
use borrow.Author.Tests.{tests}
use Rattle.std.proofs.Common.{rules}
use Rattle.std.proofs.lemmas.Iterator.{first_from_Range}
use Rattle.rules.specs.Ballot.{ballot_at}
use Rattle.rules.specs.Tick.{own_otherwise}
use Rattle.engine.proofs.Fives.{search_from, array_of, same_ballot}
use Rattle.engine.proofs.list.first_own_otherwise.Goals as goal

pub returns : goal.returns
returns c =
    let fives = c.as_chunks.result.0.now in
    let h = c.args.head in
    c.unwrap_or.ensures
    ∙ search_from (λ i. own_otherwise h (ballot_at c.args.ballots.now i)) (λ i. own_otherwise h (ballot_at (get_or fives i []) 0)) _ _ _ _
    c.as_chunks.ensures.front_len c.requires.from_bound c.requires.by_index
    (λ j b. ap (own_otherwise h) (same_ballot (array_of j c.as_chunks.ensures.front b)))
    (first_from_Range _ _ _ c.find.result (λ i. own_otherwise h (ballot_at (get_or fives i []) 0) ≡ true) (λ i. own_otherwise h (ballot_at (get_or fives i []) 0) ≡ false) c.find.ensures.ran (λ i q k. search (rules, tests)) (λ i q k. search (rules, tests)))
