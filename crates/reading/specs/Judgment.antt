-- What a judgment says of an interchange that meets no fault of the layers 1 to 4.
use Rattle.std.specs.Prelude.{◌≡◌, ℕ, List, length}
use Rattle.x12.specs.Header.{separator_of}
use Rattle.x12.specs.Segments.{segments_of}
use Rattle.grammar.specs.Theorems.{OneDerivation}
use Rattle.guide.specs.Meaning.{Meaning}
use Rattle.guide.specs.Asked.{rows_of, label_of}
use Rattle.placing.specs.Structure.{marks_in}
use Rattle.placing.specs.Placed.{PlacedSegment, DerivedSo, count_of, has_row}
use Rattle.results.specs.Rows.{loops_in}
use Rattle.totals.specs.Words.{lines_in, sum_in}
use Rattle.reading.specs.declared.judging.Judgment.{Judgment}
use Rattle.reading.specs.Met.{Regular}

-- The interchange is regular, these are its segments with the rows and loops of its one derivation, and the numbers are those of them.
pub record JudgedSo (m : Meaning) (I : List ℕ) (j : Judgment) : Type 0 where
  pub regular : Regular m I
  pub derivation : List PlacedSegment
  pub derived : DerivedSo m I derivation
  pub one : OneDerivation (label_of m) (rows_of m) (marks_in (separator_of I) (segments_of I))
  pub segments : j.totals.segments ≡ length derivation
  pub loops : j.loops ≡ loops_in derivation
  pub sets : j.totals.sets ≡ count_of (has_row 1) derivation
  pub lines : j.totals.lines ≡ lines_in (separator_of I) derivation
  pub sum : j.totals.sum ≡ sum_in (separator_of I) derivation
