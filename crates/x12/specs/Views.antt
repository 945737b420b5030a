-- A segment of the program as the definitions see it.
use Rattle.x12.specs.declared.parts.Segment.{Segment as SegmentValue}
use Rattle.x12.specs.Segments.{Segment, segment}

abbrev pub plain : SegmentValue → Segment
plain s = segment (s.place, s.bytes.now) s.closed
