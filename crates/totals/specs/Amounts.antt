-- What a segment adds to the sums, as the code keeps it.
use Rattle.std.specs.Prelude.{◌≡◌, ℕ, Bool, true, false, cond, List, codes}
use Rattle.std.specs.Str.{bytes_eq}
use Rattle.totals.specs.declared.amount.Amount.{Amount}
use Rattle.totals.specs.declared.amount.Amount.TheVariants.{Ordered, Acknowledged, Nothing}
use Rattle.totals.specs.Words.{quantity}

-- whether it is a line
abbrev pub is_ordered : Amount → Bool
is_ordered (Ordered q) = true
is_ordered (Acknowledged q) = false
is_ordered Nothing = false

-- what is ordered by it, and what is acknowledged
abbrev pub ordered_in : Amount → ℕ
ordered_in (Ordered q) = q.value
ordered_in (Acknowledged q) = 0
ordered_in Nothing = 0

abbrev pub acknowledged_in : Amount → ℕ
acknowledged_in (Ordered q) = 0
acknowledged_in (Acknowledged q) = q.value
acknowledged_in Nothing = 0

-- that is what a segment with this name and this second element adds
abbrev pub AmountIs : List ℕ → List ℕ → Amount → Type 0
AmountIs name v a = (is_ordered a ≡ bytes_eq name (codes "PO1")) × (ordered_in a ≡ cond (bytes_eq name (codes "PO1")) (quantity v) 0) × (acknowledged_in a ≡ cond (bytes_eq name (codes "ACK")) (quantity v) 0)
