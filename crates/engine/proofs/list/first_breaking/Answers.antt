use mathlib.Core.Path.{◌≡◌, ◌∙◌}
use mathlib.Core.List.{[]}
use mathlib.Core.Bool.{true, false}
use lib.ListN.{get_or}
use borrow.Author.Tests.{tests}
use Rattle.std.proofs.Common.{rules}
use Rattle.std.proofs.lemmas.Iterator.{first_from_Range}
use Rattle.rules.specs.Ballot.{breaks_rule}
use Rattle.engine.proofs.Fives.{search_from, array_of, same_rule}
use Rattle.engine.proofs.list.first_breaking.Goals as goal

pub returns : goal.returns
returns c =
    let fives = c.as_chunks.result.0.now in
    c.unwrap_or.ensures
    ∙ search_from (breaks_rule c.args.n c.args.ballots.now) (λ i. breaks_rule c.args.n (get_or fives i []) 0) _ _ _ _
    c.as_chunks.ensures.front_len c.requires.from_bound c.requires.by_index
    (λ j b. same_rule (array_of j c.as_chunks.ensures.front b) c.args.n)
    (first_from_Range _ _ _ c.find.result (λ i. breaks_rule c.args.n (get_or fives i []) 0 ≡ true) (λ i. breaks_rule c.args.n (get_or fives i []) 0 ≡ false) c.find.ensures.ran (λ i q k. search (rules, tests)) (λ i q k. search (rules, tests)))
