-- Numbers that came, and whether one came before.
use Rattle.std.specs.Prelude.{ℕ, Bool, false, ◌||◌, List, [], ◌∷◌}
use Rattle.std.specs.Borrow.{Bor}
use Rattle.std.specs.Str.{bytes_eq}

-- the bytes that a reference points to
abbrev pub bytes_of : Bor (List ℕ) → List ℕ
bytes_of r = r.now

-- the number is one of those that came, by bytes
abbrev pub came_before : List ℕ → List (List ℕ) → Bool
came_before number [] = false
came_before number (n ∷ ns) = let more = came_before number ns in bytes_eq number n || more
