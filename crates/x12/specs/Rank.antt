-- The rank of faults, and the first of those that a file meets.
use Rattle.std.specs.Prelude.{◌≡◌, ℕ, ◌<◌, cond, ◌⊎◌, List, [], ◌∷◌, nat_le}
use Rattle.x12.specs.declared.faults.Fault.{Fault}

-- the order of a dictionary on lists of numbers
abbrev pub Lex : List ℕ → List ℕ → Type 0
Lex [] ys = Unit {0}
Lex (x ∷ xs) [] = ⊥
Lex (x ∷ xs) (y ∷ ys) = (x < y) ⊎ ((x ≡ y) × Lex xs ys)

-- the faults of layers 1 to 4 come before 18 to 21, these before 22, and 22 before 23
abbrev pub phase : ℕ → ℕ
phase n = cond (nat_le n 17) 0 (cond (nat_le n 21) 1 n)

-- within a phase faults rank by segment, layer, element and number
abbrev pub key : Fault → List ℕ
key f = phase f.number ∷ f.segment ∷ f.layer ∷ f.element ∷ f.number ∷ []

-- f ranks before g, or as g does
abbrev pub Before : Fault → Fault → Type 0
Before f g = Lex (key f) (key g)

-- f is the first of the faults that P holds of
abbrev pub First : (Fault → Type 0) → Fault → Type 0
First P f = P f × ((g : Fault) → P g → Before f g)

-- P holds of no fault
abbrev pub NoneOf : (Fault → Type 0) → Type 0
NoneOf P = (f : Fault) → P f → ⊥
