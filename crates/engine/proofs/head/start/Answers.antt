use Rattle.rules.specs.Head.{start_of, start_number}
use Rattle.rules.specs.Number.{first_that_applies}
use borrow.Author.Tests.{lt-ltb, le-ltb, ltb-true, not-false}
use Rattle.rules.proofs.Meaning.Meanings.{heads}
use Rattle.rules.proofs.Counting.Truth.{or_left_false, or_right_false}
use mathlib.Core.Path.{sym, ◌∙◌}
use lib.Dec.{ltb}
use native.Mathlib.Omega.{arith}
use Rattle.engine.proofs.head.start.Goals as goal

pub returns-then-not_heads-own : goal.returns-then-not_heads-own
unfolding start_of start_number first_that_applies
returns-then-not_heads-own c = simp (← c.not_heads.ensures, c.if-not_heads-own.true)

pub returns-then-proposal-gt1 : goal.returns-then-proposal-gt1
unfolding start_of start_number first_that_applies
returns-then-proposal-gt1 c = simp (← c.not_heads.ensures, c.if-not_heads-own.false, lt-ltb _ _ c.if-proposal-gt1.true)

pub overflow_cast-n : goal.overflow_cast-n
overflow_cast-n c = omega (arith, heads c.args.n (sym c.not_heads.ensures ∙ or_left_false _ _ c.if-not_heads-own.false))

pub overflow_cast-own : goal.overflow_cast-own
overflow_cast-own c = omega (arith, heads c.args.n (sym c.not_heads.ensures ∙ or_left_false _ _ c.if-not_heads-own.false), ltb-true c.args.own c.args.n (not-false (ltb c.args.own c.args.n) (or_right_false c.not_heads.result _ c.if-not_heads-own.false)))

pub returns : goal.returns
unfolding start_of start_number first_that_applies
returns c = simp (← c.not_heads.ensures, c.if-not_heads-own.false, le-ltb _ _ c.if-proposal-gt1.false, c.fresh.ensures)
