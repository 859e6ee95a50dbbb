-- Document 01's "Numbers given back", of a run file.
use Rattle.std.specs.Prelude.{ℕ}
use Rattle.file.specs.declared.Fault.{Fault}
use Rattle.file.specs.declared.Fault.TheVariants.{EndsInsideCountOrBody, CountBreaksItsRule, BytesBreakTheirRule}
use Rattle.file.specs.declared.Fault.TheVariants.{BytesAfterTheLastSection, TableTooShort}

abbrev pub number_of : Fault → ℕ
number_of EndsInsideCountOrBody = 12
number_of CountBreaksItsRule = 13
number_of BytesBreakTheirRule = 14
number_of BytesAfterTheLastSection = 15
number_of TableTooShort = 16
