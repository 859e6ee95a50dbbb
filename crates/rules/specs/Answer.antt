-- What the entries give back: the number, and what comes with it. Document 01, 'Numbers given back': "0 is accepted."
use Rattle.std.specs.Prelude.{ℕ, List}
use Rattle.rules.specs.declared.Head.{Head}

-- of a start
pub record Started : Type 0 where
  pub number : ℕ
  pub head : Head

-- of a tick; at 6, 7 and 8 the index is that of the first offending ballot
pub record Ticked : Type 0 where
  pub number : ℕ
  pub index : ℕ
  pub head : Head

-- of sending: a ballot's five bytes
pub record Written : Type 0 where
  pub number : ℕ
  pub bytes : List ℕ
