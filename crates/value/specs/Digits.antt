-- Digits, and the number that they write.
use Rattle.std.specs.Prelude.{ℕ, ◌+◌, ◌-◌, ◌*◌, Bool, ◌&&◌, List, [], ◌∷◌, length}
use Rattle.x12.specs.Class.{within}
use Rattle.std.specs.List.{list_all}

-- the digits 0 to 9 are the bytes 48 to 57
abbrev pub is_digit : ℕ → Bool
is_digit b = within 48 57 b

-- each byte is a digit
abbrev pub digits : List ℕ → Bool
digits v = list_all is_digit v

-- the number that digits write, where n stands before them
abbrev pub number_from : ℕ → List ℕ → ℕ
number_from n [] = n
number_from n (d ∷ ds) = number_from (10 * n + (d - 48)) ds

-- the number that digits write
abbrev pub number_of : List ℕ → ℕ
number_of v = number_from 0 v

-- a numeral has 1 to 19 digits and nothing else, so its number is below 2 ^ 64
abbrev pub numeral : List ℕ → Bool
numeral v = within 1 19 (length v) && digits v
