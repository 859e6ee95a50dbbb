-- What a text holds.
use Rattle.std.specs.Prelude.{ℕ, ◌-◌, List, ◌++◌, length, replicate}
use Rattle.run.specs.declared.text.Text.TheInside.{Inside}

-- a text of these bytes, the rest of it zero
abbrev pub text_of : List ℕ → Inside
text_of bytes = record { bytes = bytes ++ replicate (4096 - length bytes) 0; length = length bytes }
