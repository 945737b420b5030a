use Rattle.std.proofs.Common.{◌≡◌, suc, ◌+◌, length}
use Rattle.x12.specs.Lists.{each}
use Rattle.x12.specs.Segments.{segments_from, segments_of}
use Rattle.x12.specs.Checks.{segment_check}
use Rattle.x12.proofs.Walks.{On}
use Rattle.x12.proofs.scans.scan.Given as goal

abbrev pub invariant-loop-segment : goal.invariant-loop-segment
invariant-loop-segment l =
    let z = l.initial.segment-iterator.interchange in
    let check = segment_check z.delimiters.separator z.delimiters.component in
    let ahead = segments_from z.delimiters.terminator l.segment-iterator.at z.bytes.now in
    On z l.segment-iterator × (l.segment-iterator.count ≡ l.count) × (l.count + length ahead ≡ length (segments_of l.interchange))
    × (each check (suc l.segment-iterator.count) ahead ≡ each check 1 (segments_of l.interchange))
