-- The classes of bytes.
use Rattle.std.specs.Prelude.{ℕ, Bool, cond, ◌&&◌, ◌==◌, nat_le}

-- n lies from a to z
abbrev pub within : ℕ → ℕ → ℕ → Bool
within a z n = nat_le a n && nat_le n z

-- 1 for A to Z, 2 for 0 to 9, 3 for the space, 4 for a to z, 5 for the other bytes from 33 to 126, 0 for the rest
abbrev pub class_of : ℕ → ℕ
class_of b =
    cond (within 65 90 b) 1 (cond (within 48 57 b) 2 (cond (b == 32) 3 (cond (within 97 122 b) 4 (cond (within 33 126 b) 5 0))))
