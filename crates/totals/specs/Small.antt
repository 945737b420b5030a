-- Row numbers are bytes.
use Rattle.std.specs.Prelude.{ℕ, Bool, true, Some, None, Option, nat_lt}

-- a row number, if there is one, is below 256
abbrev pub is_byte : Option ℕ → Bool
is_byte None = true
is_byte (Some r) = nat_lt r 256
