use Rattle.std.proofs.Common.{◌≡◌, ◌≤◌, List, length}
use Rattle.x12.proofs.Walks.{On}
use Rattle.placing.specs.Placed.{PlacedSegment}
use Rattle.results.specs.Rows.{Fitting}
use Rattle.results.proofs.Writing.{Writes}
use Rattle.results.proofs.write.write_rows.Given as goal

abbrev pub invariant-loop-row : goal.invariant-loop-row
invariant-loop-row g l =
    let x = l.interchange in
    On x l.ahead × (l.ahead.count ≡ l.counts.segments) × (l.counts.segments ≡ l.row-index) × (l.counts.loops ≤ length l.loops)
    × ((z : List PlacedSegment)
    → Fitting (g.G.Guide.meaning l.guide) x.bytes.now x.delimiters.terminator x.delimiters.separator (length l.initial.segments) (length l.initial.loops) z
    → Writes (g.G.Guide.meaning l.guide) x.bytes.now x.delimiters.terminator x.delimiters.separator z l.initial.segments l.initial.loops
    l.ahead.at l.counts.segments l.counts.loops l.placer l.segments l.loops)
