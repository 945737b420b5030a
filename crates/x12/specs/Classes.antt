-- The number of each class.
use Rattle.std.specs.Prelude.{ℕ}
use Rattle.x12.specs.declared.classes.Class.{Class}
use Rattle.x12.specs.declared.classes.Class.TheVariants.{Outside, Capital, Digit, Space, Small, Other}

abbrev pub number_of_class : Class → ℕ
number_of_class Outside = 0
number_of_class Capital = 1
number_of_class Digit = 2
number_of_class Space = 3
number_of_class Small = 4
number_of_class Other = 5
