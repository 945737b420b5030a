-- What the code keeps of control numbers and rows, and the tests by that.
use Rattle.std.specs.Prelude.{ℕ, Bool, false, cond, not, ◌&&◌, ◌||◌, List, [], ◌∷◌, Some, None, codes, Option, Result, ◌==◌, slice_index_or}
use Rattle.std.specs.Str.{bytes_eq}
use Rattle.x12.specs.declared.faults.Fault.{Fault}
use Rattle.x12.specs.Lists.{and_then}
use Rattle.guide.specs.Asked.{test}
use Rattle.elements.specs.Checks.{first_of}

-- The control number that element 2 of a segment with this row and this name has to repeat, by ISA13, GS06 and ST02.
abbrev pub repeated_by : List ℕ → List ℕ → List ℕ → ℕ → List ℕ → Option (List ℕ)
repeated_by isa13 gs06 st02 row name =
    cond (bytes_eq name (codes "SE")) (Some st02) (cond (row == 67) (Some gs06) (cond (row == 68) (Some isa13) None))

-- The value is not the control number, if there is one.
abbrev pub unlike_control : Option (List ℕ) → List ℕ → Bool
unlike_control o v = test (λ w. not (bytes_eq v w)) o

-- A segment of this row and this name ends a set that lacks the row that it has to hold; `used` tells which rows the segments before it have.
abbrev pub lacks_by : Option ℕ → List Bool → ℕ → List ℕ → Bool
lacks_by needed used row name = bytes_eq name (codes "SE") && test (λ r. not (slice_index_or used r false || row == r)) needed

-- The first fault of the totals of segment k, by the tests at its name (16), at element 1 (15, 17) and at element 2 (14, 15, 17).
abbrev pub totals_by : ℕ → ℕ → Bool → ℕ → Bool → Bool → ℕ → Bool → Bool → Bool → Result (Unit {0}) Fault
totals_by k place unlike place₁ count₁ again₁ place₂ control₂ sum₂ again₂ =
    and_then (first_of k 0 place ((unlike, 16) ∷ []))
    (λ u. and_then (first_of k 1 place₁ ((count₁, 15) ∷ (again₁, 17) ∷ [])) (λ v. first_of k 2 place₂ ((control₂, 14) ∷ (sum₂, 15) ∷ (again₂, 17) ∷ [])))
