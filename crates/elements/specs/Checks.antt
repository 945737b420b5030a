-- The element layer as a check that computes: the first fault of a segment's elements in the order of judging, or none.
use Rattle.std.specs.Prelude.{◌≡◌, ℕ, suc, ◌-◌, Bool, cond, List, [], ◌∷◌, length, replicate, Ok, Err, Result, MatchResult}
use Rattle.x12.specs.declared.faults.Fault.{Fault}
use Rattle.x12.specs.Lists.{and_then, each}
use Rattle.x12.specs.Segments.{Part, Segment}
use Rattle.x12.specs.Elements.{elements_of, end_of}
use Rattle.x12.specs.Causes.{fault}
use Rattle.guide.specs.Meaning.{Meaning}
use Rattle.elements.specs.Rules.{limit_at}
use Rattle.elements.specs.Tests.{element_tests}

-- what a function answers is what a check computes, its faults told by their cause
abbrev pub Answers : {F : Type 0} → (F → Fault) → Result (Unit {0}) F → Result (Unit {0}) Fault → Type 0
Answers cause r check = MatchResult r (λ u. check ≡ Ok u) (λ f. check ≡ Err (cause f))

-- the first of the tests that holds is the fault of element e of segment k, at this place
abbrev pub first_of : ℕ → ℕ → ℕ → List (Bool × ℕ) → Result (Unit {0}) Fault
first_of k e place [] = Ok tt
first_of k e place (t ∷ ts) = let more = first_of k e place ts in cond t.0 (Err (fault t.1 k e place)) more

abbrev pub behind_first : {A : Type 0} → List A → List A
behind_first [] = []
behind_first (x ∷ xs) = xs

-- the elements that a segment has, without its name
abbrev pub present : ℕ → Segment → List Part
present separator s = behind_first (elements_of separator s)

-- those that it does not have, up to the last that a rule names; they stand at the terminator
abbrev pub absent : Meaning → ℕ → ℕ → Segment → List Part
absent m separator r s = replicate (limit_at m r - length (present separator s)) (end_of s, [])

abbrev pub element_check : Meaning → ℕ → ℕ → ℕ → Segment → ℕ → Part → Result (Unit {0}) Fault
element_check m separator k r s e part = first_of k e part.0 (element_tests m separator r s e part.1)

-- the elements of segment k, of row r: first, at its name, whether its set lacks a row; then element by element
abbrev pub elements_check : Meaning → ℕ → ℕ → Bool → ℕ → Segment → Result (Unit {0}) Fault
elements_check m separator k lacking r s =
    and_then (first_of k 0 s.place ((lacking, 13) ∷ []))
    (λ u. and_then (each (element_check m separator k r s) 1 (present separator s))
    (λ v. each (element_check m separator k r s) (suc (length (present separator s))) (absent m separator r s)))
