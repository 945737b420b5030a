use Rattle.std.proofs.Common.{◌≡◌, List}
use Rattle.x12.proofs.Walks.{On}
use Rattle.placing.specs.Placed.{PlacedSegment}
use Rattle.reading.proofs.Underway.{Underway}
use Rattle.reading.proofs.judging.judge.Given as goal

-- the segments so far are judged
abbrev pub invariant-loop-segment : goal.invariant-loop-segment
invariant-loop-segment g l =
    On l.interchange l.segment-iterator × (l.segment-iterator.count ≡ l.count)
    × ((z : List PlacedSegment) × Underway (g.G.Guide.meaning l.guide) l.interchange.bytes.now l.count l.loops l.segment-iterator.at l.placer l.tally z)
