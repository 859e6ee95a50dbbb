-- Sets of head numbers, and whom a head has heard. Document 01, 'Heads and ballots'. These are tests; what they mean is
-- in Given.
use Rattle.std.specs.Prelude.{ℕ, zero, suc, ◌+◌, ◌*◌, ◌/◌, ◌%◌, ◌^◌, Bool, cond, ◌&&◌, not, ltb, eqb}
use Rattle.rules.specs.declared.Value.{Value}
use Rattle.rules.specs.declared.Value.TheVariants.{Zero, One, Blank}
use Rattle.rules.specs.declared.Ballot.{Ballot}
use Rattle.rules.specs.declared.Head.{Head}
use Rattle.rules.specs.Below.{some, count}
use Rattle.rules.specs.Ballot.{same_value}
use Rattle.rules.specs.Sizes.{heads_most}

-- "lowest bit for head 0": head s is in a set where the set's binary digit at 2 ^ s is 1
abbrev pub member : ℕ → ℕ → Bool
member s set = eqb (set / 2 ^ s % 2) 1

-- the set of the numbers below k of which p holds
unfoldable pub set_of : ℕ → (ℕ → Bool) → ℕ
set_of zero p = 0
set_of (suc k) p = cond (p 0) 1 0 + 2 * set_of k (λ s. p (suc s))

-- how many heads are in a set; there are at most 32
unfoldable pub size : ℕ → ℕ
size set = count heads_most (λ s. member s set)

-- "more than n/2": k, "doubled, exceeds n"
abbrev pub over_half : ℕ → ℕ → Bool
over_half n k = ltb n (k * 2)

-- no head is in both sets
unfoldable pub apart : ℕ → ℕ → Bool
apart a b = not (some heads_most (λ s. member s a && member s b))

-- all members of a set are below n
abbrev pub within : ℕ → ℕ → Bool
within n set = ltb set (2 ^ n)

-- "three sets of head numbers: those heard at its present phase with 0, with 1 and with blank"
abbrev pub heard : Head → Value → ℕ
heard h Zero = h.zeros
heard h One = h.ones
heard h Blank = h.blanks

-- b is a ballot of head s at that phase with that value
unfoldable pub says : ℕ → Value → ℕ → Ballot → Bool
says phase v s b = eqb b.phase phase && (eqb b.sender s && same_value b.value v)
