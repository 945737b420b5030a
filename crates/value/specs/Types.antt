-- The types of elements and their lengths, as tests that compute.
use Rattle.std.specs.Prelude.{ℕ, Bool, true, List, length, ◌==◌, count_by}
use Rattle.x12.specs.Class.{within}
use Rattle.value.specs.declared.forms.Form.{Form}
use Rattle.value.specs.declared.forms.Form.TheVariants.{N0, Q, Id, An, R, D8, D6, Tm, Spaces, Free}
use Rattle.value.specs.Digits.{is_digit, digits}
use Rattle.value.specs.Decimals.{decimal}
use Rattle.value.specs.Dates.{day8, day6, time}
use Rattle.value.specs.Texts.{code, text, spaces}

-- the bytes are those of a value of the form
abbrev pub good_type : Form → List ℕ → Bool
good_type N0 v = digits v
good_type Q v = digits v
good_type Id v = code v
good_type An v = text v
good_type R v = decimal v
good_type D8 v = day8 v
good_type D6 v = day6 v
good_type Tm v = time v
good_type Spaces v = spaces v
good_type Free v = true

-- The length lies from `least` to `greatest`; of a decimal only the digits count, wherever they stand.
-- A day or a time has a length of its own, which no rule changes, and a free value may have any.
abbrev pub good_length : Form → ℕ → ℕ → List ℕ → Bool
good_length N0 least greatest v = within least greatest (length v)
good_length Q least greatest v = within least greatest (length v)
good_length Id least greatest v = within least greatest (length v)
good_length An least greatest v = within least greatest (length v)
good_length R least greatest v = within least greatest (count_by is_digit v)
good_length D8 least greatest v = length v == 8
good_length D6 least greatest v = length v == 6
good_length Tm least greatest v = length v == 4
good_length Spaces least greatest v = within least greatest (length v)
good_length Free least greatest v = true
