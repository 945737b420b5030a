-- Segments with the rows and loops that a derivation gives them, and words for lists of them.
use Rattle.std.specs.Prelude.{◌≡◌, ℕ, ◌+◌, Bool, false, cond, ◌||◌, List, [], ◌∷◌, ◌++◌, map, Some, None, Option, ◌==◌}
use Rattle.x12.specs.Header.{separator_of}
use Rattle.x12.specs.Segments.{Segment, segments_of}
use Rattle.grammar.specs.Marks.{Mark}
use Rattle.grammar.specs.Derivations.{Spot}
use Rattle.grammar.specs.Interchange.{Derivation}
use Rattle.guide.specs.Meaning.{Meaning}
use Rattle.guide.specs.Asked.{rows_of, label_of}
use Rattle.placing.specs.Structure.{marks_in}

-- a segment with its row and loops
abbrev pub PlacedSegment : Type 0
PlacedSegment = Segment × Spot

abbrev pub segments_in : List PlacedSegment → List Segment
segments_in z = map (λ (p : PlacedSegment). p.0) z

abbrev pub spots_in : List PlacedSegment → List Spot
spots_in z = map (λ (p : PlacedSegment). p.1) z

-- Some derivation that begins with these segments gives them these rows and loops.
abbrev pub PlacedSo : Meaning → ℕ → List PlacedSegment → Type 0
PlacedSo m separator z =
    (more : List Mark) × (others : List Spot) × Derivation (label_of m) (rows_of m) (marks_in separator (segments_in z) ++ more) (spots_in z ++ others)

-- Every derivation that begins with these segments gives them these rows and loops.
abbrev pub OnlySo : Meaning → ℕ → List PlacedSegment → Type 0
OnlySo m separator z =
    (more : List Mark) (spots : List Spot) → Derivation (label_of m) (rows_of m) (marks_in separator (segments_in z) ++ more) spots
    → (others : List Spot) × (spots ≡ spots_in z ++ others)

-- These are all segments of an interchange, with the rows and loops of a derivation of it.
abbrev pub DerivedSo : Meaning → List ℕ → List PlacedSegment → Type 0
DerivedSo m I z = (segments_in z ≡ segments_of I) × Derivation (label_of m) (rows_of m) (marks_in (separator_of I) (segments_of I)) (spots_in z)

-- how many of a list pass a test
abbrev pub count_of : {A : Type 0} → (A → Bool) → List A → ℕ
count_of f [] = 0
count_of f (x ∷ xs) = let more = count_of f xs in cond (f x) 1 0 + more

-- the sum of what each of a list counts
abbrev pub sum_of : {A : Type 0} → (A → ℕ) → List A → ℕ
sum_of f [] = 0
sum_of f (x ∷ xs) = let more = sum_of f xs in f x + more

-- some of a list passes a test
abbrev pub any_of : {A : Type 0} → (A → Bool) → List A → Bool
any_of f [] = false
any_of f (x ∷ xs) = let more = any_of f xs in f x || more

-- the last of a list that passes a test
abbrev pub or_else : {A : Type 0} → Option A → Option A → Option A
or_else None o = o
or_else (Some x) o = Some x

abbrev pub last_of : {A : Type 0} → (A → Bool) → List A → Option A
last_of f [] = None
last_of f (x ∷ xs) = let more = last_of f xs in or_else more (cond (f x) (Some x) None)

-- the items from the last that passes a test on; all of them where none does
abbrev pub since_last : {A : Type 0} → (A → Bool) → List A → List A
since_last f [] = []
since_last f (x ∷ xs) = let more = since_last f xs in cond (any_of f xs) more (x ∷ xs)

-- the segment has this row
abbrev pub has_row : ℕ → PlacedSegment → Bool
has_row n p = p.1.row == n
