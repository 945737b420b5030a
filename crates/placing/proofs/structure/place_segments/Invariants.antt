use Rattle.std.proofs.Common.{◌≡◌, List, ◌++◌, length}
use Rattle.x12.specs.Segments.{Segment, segments_from}
use Rattle.x12.proofs.Walks.{On}
use Rattle.placing.specs.Placing.{HasPlaced}
use Rattle.placing.specs.Structure.{marks_in}
use Rattle.placing.proofs.structure.place_segments.Given as goal

abbrev pub invariant-loop-segment : goal.invariant-loop-segment
invariant-loop-segment g l =
    let z = l.interchange in
    On z l.segment-iterator × (l.segment-iterator.count ≡ l.count)
    × ((done : List Segment) × (segments_from z.delimiters.terminator 0 z.bytes.now ≡ done ++ segments_from z.delimiters.terminator l.segment-iterator.at z.bytes.now)
    × (length done ≡ l.count)
    × HasPlaced (g.G.Guide.meaning l.guide) l.placer (marks_in z.delimiters.separator done))
