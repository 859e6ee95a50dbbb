-- What the derived `==` of values and statuses tells of their codes.
use mathlib.Core.Path.{◌≡◌, refl}
use lib.Dec.{eqb}
use denote.Enum.Bare.{sameb}
use Rattle.rules.specs.declared.Value.{Value}
use Rattle.rules.specs.declared.Value.TheVariants.{Zero, One, Blank}
use Rattle.rules.specs.declared.Status.{Status}
use Rattle.rules.specs.declared.Status.TheVariants.{Undecided, Decided}
use Rattle.rules.specs.Ballot.{status_code, same_value}
use Rattle.rules.specs.contracts.Value as value
use Rattle.rules.specs.contracts.Status as status

pub equal_values : (v w : Value) → sameb value.the_type v w ≡ same_value v w
equal_values Zero Zero = refl
equal_values Zero One = refl
equal_values Zero Blank = refl
equal_values One Zero = refl
equal_values One One = refl
equal_values One Blank = refl
equal_values Blank Zero = refl
equal_values Blank One = refl
equal_values Blank Blank = refl

pub equal_statuses : (s t : Status) → sameb status.the_type s t ≡ eqb (status_code s) (status_code t)
equal_statuses Undecided Undecided = refl
equal_statuses Undecided Decided = refl
equal_statuses Decided Undecided = refl
equal_statuses Decided Decided = refl
