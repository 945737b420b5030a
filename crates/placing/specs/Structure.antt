-- The faults of structure that an interchange meets under a guide, and those of bytes and structure together.
use Rattle.std.specs.Prelude.{◌≡◌, ℕ, suc, ◌⊎◌, List, ◌∷◌, ◌++◌, map, length}
use Rattle.x12.specs.declared.faults.Fault.{Fault}
use Rattle.x12.specs.Header.{separator_of}
use Rattle.x12.specs.Segments.{Segment, segments_of}
use Rattle.x12.specs.Elements.{element_of_segment}
use Rattle.x12.specs.Causes.{fault, cause_of}
use Rattle.x12.specs.Met.{Met}
use Rattle.grammar.specs.Marks.{Mark}
use Rattle.grammar.specs.Theorems.{OnlyBegun}
use Rattle.guide.specs.Meaning.{Meaning}
use Rattle.guide.specs.Asked.{rows_of, label_of}
use Rattle.placing.specs.declared.faults.SegmentFault.{SegmentFault}
use Rattle.placing.specs.declared.faults.SegmentFault.TheVariants.{Bytes, Misplaced, Incomplete}
use Rattle.placing.specs.Stages.{mark}
use Rattle.placing.specs.Placing.{FitsNowhere}

-- a segment's mark is its name with its first element
abbrev pub mark_in : ℕ → Segment → Mark
mark_in separator s = mark (element_of_segment separator s 0).1 (element_of_segment separator s 1).1

abbrev pub marks_in : ℕ → List Segment → List Mark
marks_in separator ss = map (mark_in separator) ss

-- the interchange has the fault of structure n at segment k and this place
pub data Misfits (m : Meaning) (I : List ℕ) : ℕ → ℕ → ℕ → Type 0 where
  -- the marks before the segment begin a derivation, and with its own they begin none
  no_row_takes : (before : List Segment) (s : Segment) (behind : List Segment) → segments_of I ≡ before ++ (s ∷ behind)
      → FitsNowhere m (marks_in (separator_of I) before) (mark_in (separator_of I) s) → Misfits m I 6 (suc (length before)) s.place
  -- all marks begin a derivation and are none: the fault stands behind the last segment, at the end of the input
  ends_early : OnlyBegun (label_of m) (rows_of m) (marks_in (separator_of I) (segments_of I)) → Misfits m I 7 (suc (length (segments_of I))) (length I)

-- a fault of structure that the interchange meets; it stands at element 0
abbrev pub StructureMet : Meaning → List ℕ → Fault → Type 0
StructureMet m I f = (n k place : ℕ) × Misfits m I n k place × (f ≡ fault n k 0 place)

-- a fault of bytes or of structure
abbrev pub SegmentMet : Meaning → List ℕ → Fault → Type 0
SegmentMet m I f = Met I f ⊎ StructureMet m I f

-- every cause of the two layers with its number, layer, segment, element and place
abbrev pub cause_of_segment : SegmentFault → Fault
cause_of_segment (Bytes f) = cause_of f
cause_of_segment (Misplaced segment place) = fault 6 segment 0 place
cause_of_segment (Incomplete segment place) = fault 7 segment 0 place
