-- The line numbers of a set.
use Rattle.std.specs.Prelude.{ℕ, List}
use Rattle.seen.specs.declared.line_numbers.LineNumbers.{LineNumbers}

-- the line numbers that came, in their order: what a clause sees of them
abbrev pub numbers_of : LineNumbers → List (List ℕ)
numbers_of s = s
