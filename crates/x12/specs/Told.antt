-- How a refusal is told.
use Rattle.std.specs.Prelude.{ℕ, List, ◌∷◌, ◌++◌, decimal}
use Rattle.x12.specs.declared.faults.Fault.{Fault}

-- its number, layer, segment, element and place in decimal, with one space between two
abbrev pub numbers_of : Fault → List ℕ
numbers_of f = decimal f.number ++ 32 ∷ (decimal f.layer ++ 32 ∷ (decimal f.segment ++ 32 ∷ (decimal f.element ++ 32 ∷ decimal f.place)))
