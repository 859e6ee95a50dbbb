use Rattle.engine.proofs.Refusing.{stands_clean}
use Rattle.engine.proofs.Gathering.{missed, before_first, not_7, list_6, list_7, list_8}
use Rattle.engine.proofs.ticks.offence.Goals as goal

pub returns-then-breaking-count : goal.returns-then-breaking-count
returns-then-breaking-count c = list_6 _ _ _ c.first_breaking-breaking.ensures c.if-breaking-count.true

pub returns-then-own-count : goal.returns-then-own-count
returns-then-own-count c = list_7 _ _ _ (missed _ _ _ c.first_breaking-breaking.ensures c.if-breaking-count.false) c.first_own_otherwise-own.ensures c.if-own-count.true

pub returns : goal.returns
returns c = list_8 _ _ _ c.requires.at_value c.requires.at_bound (missed _ _ _ c.first_breaking-breaking.ensures c.if-breaking-count.false) (missed _ _ _ c.first_own_otherwise-own.ensures c.if-own-count.false)

pub first_breaking-breaking-requires-clause-by_index : goal.first_breaking-breaking-requires-clause-by_index
first_breaking-breaking-requires-clause-by_index c = λ j b. stands_clean _ _ _ (before_first _ _ _ c.requires.at_value j b)

pub first_own_otherwise-own-requires-clause-by_index : goal.first_own_otherwise-own-requires-clause-by_index
first_own_otherwise-own-requires-clause-by_index c = λ j b. not_7 _ _ _ (before_first _ _ _ c.requires.at_value j b)
