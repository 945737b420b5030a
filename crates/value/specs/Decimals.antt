-- Decimal numbers, read byte by byte.
use Rattle.std.specs.Prelude.{ℕ, Bool, true, false, cond, not, ◌&&◌, List, [], ◌∷◌, ◌==◌}
use Rattle.value.specs.Digits.{is_digit}

-- Whether a decimal goes on and ends with these bytes: `first` says that none stands before them, `point` that a point does,
-- and `digit` that a digit does. The point is 46 and the minus is 45.
abbrev pub decimal_from : Bool → Bool → Bool → List ℕ → Bool
decimal_from first point digit [] = digit
decimal_from first point digit (b ∷ bs) =
    let after_digit = decimal_from false point true bs in
    let after_point = decimal_from false true digit bs in
    let after_minus = decimal_from false point digit bs in
    cond (is_digit b) after_digit (cond (b == 46 && not point) after_point (cond (b == 45 && first) after_minus false))

-- a decimal: digits, one point at most and one digit at least, and a minus at most before all of them
abbrev pub decimal : List ℕ → Bool
decimal v = decimal_from true false false v
