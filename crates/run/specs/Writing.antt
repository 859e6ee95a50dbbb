-- What the functions of `run` that write the report hand to one another.
use Rattle.std.specs.Prelude.{ℕ, ◌-◌, List, ◌++◌, length, take}

-- a text with a word at its end; what goes beyond 4,096 bytes is left out
unfoldable pub with_word : List ℕ → List ℕ → List ℕ
with_word text word = text ++ take (4096 - length text) word
