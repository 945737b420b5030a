-- The control numbers of a group.
use Rattle.std.specs.Prelude.{ℕ, List}
use Rattle.seen.specs.declared.control_numbers.ControlNumbers.{ControlNumbers}

-- the control numbers that came, in their order: what a clause sees of them
abbrev pub numbers_of : ControlNumbers → List (List ℕ)
numbers_of s = s
