-- What reading promises: accepted exactly where the interchange is regular and the rows are enough, with the one derivation in the tables; else
-- the first fault, and both tables as they were.
use Rattle.std.specs.Prelude.{◌≡◌, ℕ, suc, ◌<◌, ◌≤◌, ◌⊎◌, List, ◌∷◌, ◌++◌, length, Ok, Err, Result}
use Rattle.x12.specs.declared.faults.Fault.{Fault}
use Rattle.x12.specs.Header.{separator_of}
use Rattle.x12.specs.Segments.{Segment, segments_of}
use Rattle.x12.specs.Causes.{fault}
use Rattle.x12.specs.Rank.{First}
use Rattle.grammar.specs.Derivations.{Spot}
use Rattle.grammar.specs.Interchange.{Derivation}
use Rattle.guide.specs.Meaning.{Meaning}
use Rattle.guide.specs.Asked.{rows_of, label_of}
use Rattle.placing.specs.Placing.{FitsNowhere}
use Rattle.placing.specs.Structure.{mark_in, marks_in}
use Rattle.placing.specs.Placed.{PlacedSegment, spots_in, DerivedSo, count_of, has_row}
use Rattle.results.specs.declared.rows.SegmentRow.{SegmentRow}
use Rattle.results.specs.declared.rows.LoopRow.{LoopRow}
use Rattle.results.specs.Rows.{loops_in, Filled}
use Rattle.verdict.specs.declared.verdicts.Totals.{Totals}
use Rattle.verdict.specs.declared.verdicts.Verdict.{Verdict}
use Rattle.verdict.specs.declared.verdicts.Verdict.TheVariants.{Accepted, Refused}
use Rattle.totals.specs.Words.{lines_in, sum_in}
use Rattle.totals.specs.Fails.{cause_of_totals}
use Rattle.reading.specs.declared.faults.ReadingFault.{ReadingFault}
use Rattle.reading.specs.declared.faults.ReadingFault.TheVariants.{Judged, FewRows}
use Rattle.reading.specs.Met.{Met, Regular}

-- every cause of a refusal of reading with its number, layer, segment, element and place
abbrev pub cause_of_reading : ReadingFault → Fault
cause_of_reading (Judged f) = cause_of_totals f
cause_of_reading FewRows = fault 23 0 0 0

-- The interchange has a derivation, and it has more segments than there are segment rows, or more loops than there are loop rows.
abbrev pub Outnumbers : Meaning → List ℕ → ℕ → ℕ → Type 0
Outnumbers m I segment_rows loop_rows = (z : List PlacedSegment) × DerivedSo m I z × ((segment_rows < length z) ⊎ (loop_rows < loops_in z))

-- a fault of the layers 1 to 4, or too few rows
abbrev pub ReadingMet : Meaning → List ℕ → ℕ → ℕ → Fault → Type 0
ReadingMet m I segment_rows loop_rows f = Met m I f ⊎ (Outnumbers m I segment_rows loop_rows × (f ≡ fault 23 0 0 0))

-- the totals of an interchange with these segments: segments, sets, PO1 lines, and the sum of PO102
abbrev pub totals_of : List ℕ → List PlacedSegment → Totals
totals_of I z = record { segments = length z; sets = count_of (has_row 1) z; lines = lines_in (separator_of I) z; sum = sum_in (separator_of I) z }

-- The interchange is accepted with these totals, and the tables become these.
pub record Accepts (m : Meaning) (I : List ℕ) (t : Totals) (segments segments' : List SegmentRow) (loops loops' : List LoopRow) : Type 0 where
  -- it meets no fault of the layers 1 to 4
  pub regular : Regular m I
  -- it has a derivation, which gives its segments these rows and loops, and every derivation is that one
  pub derivation : List PlacedSegment
  pub derived : DerivedSo m I derivation
  pub no_second : (others : List Spot) → Derivation (label_of m) (rows_of m) (marks_in (separator_of I) (segments_of I)) others → others ≡ spots_in derivation
  -- the rows are enough, and the tables hold the derivation; rows beyond are as they were
  pub enough : length derivation ≤ length segments
  pub loops_enough : loops_in derivation ≤ length loops
  pub held : Filled derivation segments loops segments' loops'
  -- the totals are those of the derivation
  pub totals : t ≡ totals_of I derivation

-- Segment k has no place: the marks before it begin a derivation, and with its own they begin none.
abbrev pub NoPlace : Meaning → List ℕ → ℕ → Type 0
NoPlace m I k =
    (before : List Segment) × (s : Segment) × (behind : List Segment)
    × (segments_of I ≡ before ++ (s ∷ behind)) × (k ≡ suc (length before)) × FitsNowhere m (marks_in (separator_of I) before) (mark_in (separator_of I) s)

-- The promise of reading, for the tables before and behind.
pub record ReadingIs (m : Meaning) (I : List ℕ) (segments segments' : List SegmentRow) (loops loops' : List LoopRow) (r : Result Totals ReadingFault) : Type 0 where
  -- where it is accepted, it is regular and the rows are enough, and the tables hold its one derivation
  pub accepted : (t : Totals) → r ≡ Ok t → Accepts m I t segments segments' loops loops'
  -- where it is regular and the rows are enough, it is accepted
  pub accepted_if : Regular m I → (Outnumbers m I (length segments) (length loops) → ⊥) → (t : Totals) × (r ≡ Ok t)
  -- where it is refused, the fault is the first that it meets, and both tables are as they were
  pub refused : (f : ReadingFault) → r ≡ Err f → First (ReadingMet m I (length segments) (length loops)) (cause_of_reading f) × (segments' ≡ segments) × (loops' ≡ loops)
  -- a refusal with 6 says that the segment has no place
  pub placement : (f : ReadingFault) → r ≡ Err f → (cause_of_reading f).number ≡ 6 → NoPlace m I (cause_of_reading f).segment

-- The interchange is accepted with these totals where there are so many segment rows and loop rows.
pub record AcceptedWith (m : Meaning) (I : List ℕ) (segment_rows loop_rows : ℕ) (t : Totals) : Type 0 where
  -- it meets no fault of the layers 1 to 4, and the rows are enough
  pub regular : Regular m I
  pub enough : Outnumbers m I segment_rows loop_rows → ⊥
  -- its segments have the rows and loops of a derivation, and every derivation gives them these
  pub derivation : List PlacedSegment
  pub derived : DerivedSo m I derivation
  pub no_second : (others : List PlacedSegment) → DerivedSo m I others → others ≡ derivation
  -- the totals are those of the derivation
  pub totals : t ≡ totals_of I derivation

-- The verdict of reading: accepted with its totals, or refused for the first fault that it meets.
abbrev pub VerdictOf : Meaning → List ℕ → ℕ → ℕ → Verdict → Type 0
VerdictOf m I segment_rows loop_rows (Accepted t) = AcceptedWith m I segment_rows loop_rows t
VerdictOf m I segment_rows loop_rows (Refused f) = First (ReadingMet m I segment_rows loop_rows) f
