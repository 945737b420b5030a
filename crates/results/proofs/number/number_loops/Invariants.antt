use Rattle.std.proofs.Common.{◌≡◌, List}
use Rattle.placing.specs.Placed.{PlacedSegment, spots_in}
use Rattle.results.specs.Steps.{named_rows, closed_rows, Named}
use Rattle.results.proofs.Numbering.{Numbered}
use Rattle.results.proofs.number.number_loops.Given as goal

abbrev pub invariant-loop-i : goal.invariant-loop-i
invariant-loop-i l =
    (z : List PlacedSegment) → Named (spots_in z) → l.initial.segments ≡ named_rows z → l.initial.loops ≡ closed_rows z
    → Numbered z l.i l.opened l.segments l.loops
