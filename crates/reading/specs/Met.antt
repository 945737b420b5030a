-- The faults of the layers 1 to 4 that an interchange meets under a guide.
use Rattle.std.specs.Prelude.{◌≡◌, ℕ, suc, ◌⊎◌, List, [], ◌∷◌, ◌++◌, length}
use Rattle.x12.specs.declared.faults.Fault.{Fault}
use Rattle.x12.specs.Header.{separator_of}
use Rattle.x12.specs.Segments.{Segment, segments_of}
use Rattle.x12.specs.Rank.{NoneOf}
use Rattle.guide.specs.Meaning.{Meaning}
use Rattle.placing.specs.Structure.{SegmentMet}
use Rattle.placing.specs.Placed.{PlacedSegment, segments_in, PlacedSo}
use Rattle.elements.specs.Fails.{ElementMet}
use Rattle.totals.specs.Fails.{TotalsMet}

-- p is a segment of the interchange and z are the segments before it, with the rows and loops that some derivation gives them that begins so
pub record Reached (m : Meaning) (I : List ℕ) (z : List PlacedSegment) (p : PlacedSegment) : Type 0 where
  pub behind : List Segment
  pub all : segments_of I ≡ segments_in z ++ (p.0 ∷ behind)
  pub placed : PlacedSo m (separator_of I) (z ++ (p ∷ []))

-- a fault of an element or of a total: of a segment with its row, by the segments before it
abbrev pub UpperMet : Meaning → List ℕ → Fault → Type 0
UpperMet m I f =
    (z : List PlacedSegment) × (p : PlacedSegment) × Reached m I z p
    × (ElementMet m (separator_of I) (suc (length z)) z p f ⊎ TotalsMet m (separator_of I) (suc (length z)) z p f)

-- a fault of bytes, structure, elements or totals
abbrev pub Met : Meaning → List ℕ → Fault → Type 0
Met m I f = SegmentMet m I f ⊎ UpperMet m I f

-- an interchange is regular if it meets none of them
abbrev pub Regular : Meaning → List ℕ → Type 0
Regular m I = NoneOf (Met m I)
