-- Days and times.
use Rattle.std.specs.Prelude.{ℕ, ◌+◌, ◌-◌, ◌*◌, ◌%◌, Bool, cond, not, ◌&&◌, ◌||◌, List, length, ◌==◌, nat_le, slice_index}
use Rattle.x12.specs.Class.{within}
use Rattle.value.specs.Digits.{digits}

-- a leap year is divisible by 4, but by 100 only if by 400
abbrev pub leap : ℕ → Bool
leap y = y % 4 == 0 && (not (y % 100 == 0) || y % 400 == 0)

-- the number of days of month m of year y
abbrev pub days_of_month : ℕ → ℕ → ℕ
days_of_month y m = cond (m == 2) (cond (leap y) 29 28) (cond (m == 4 || (m == 6 || (m == 9 || m == 11))) 30 31)

-- day d of month m of year y is a day of the calendar, of the years 1900 to 2099
abbrev pub real_day : ℕ → ℕ → ℕ → Bool
real_day y m d = within 1900 2099 y && (within 1 12 m && within 1 (days_of_month y m) d)

-- the number that the two digits from place i on write
abbrev pub two : List ℕ → ℕ → ℕ
two v i = 10 * (slice_index v i - 48) + (slice_index v (i + 1) - 48)

-- CCYYMMDD
abbrev pub day8 : List ℕ → Bool
day8 v = length v == 8 && (digits v && real_day (100 * two v 0 + two v 2) (two v 4) (two v 6))

-- YYMMDD, where YY is the year 20YY
abbrev pub day6 : List ℕ → Bool
day6 v = length v == 6 && (digits v && real_day (2000 + two v 0) (two v 2) (two v 4))

-- HHMM, with hours from 00 to 23 and minutes from 00 to 59
abbrev pub time : List ℕ → Bool
time v = length v == 4 && (digits v && (nat_le (two v 0) 23 && nat_le (two v 2) 59))
