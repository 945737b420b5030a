-- The result tables of a reading, by all segments with their rows and loops. Segments count from 1, and so do loops, in the order of their opening segments.
use Rattle.std.specs.Prelude.{◌≡◌, ℕ, suc, ◌+◌, ◌≤◌, Bool, cond, List, [], ◌∷◌, ◌++◌, map, length, take, drop, ◌==◌, nat_le, nat_lt}
use Rattle.x12.specs.Header.{separator_of, terminator_of}
use Rattle.guide.specs.Meaning.{Meaning}
use Rattle.placing.specs.Placed.{PlacedSegment, DerivedSo}
use Rattle.results.specs.declared.rows.SegmentRow.{SegmentRow}
use Rattle.results.specs.declared.rows.LoopRow.{LoopRow}

-- The segment with the number k opens a loop: the loop that it stands in is its own.
abbrev pub opens_at : ℕ → PlacedSegment → Bool
opens_at k p = p.1.loop == k

-- How many loops the segments open, where the first of them has the number k.
abbrev pub loops_from : ℕ → List PlacedSegment → ℕ
loops_from k [] = 0
loops_from k (p ∷ after) = let more = loops_from (suc k) after in cond (opens_at k p) 1 0 + more

-- How many loops all segments open.
abbrev pub loops_in : List PlacedSegment → ℕ
loops_in z = loops_from 1 z

-- The number of the loop that segment j opens: how many loops the segments up to it open. No segment, no loop: 0 for j = 0.
abbrev pub loop_number : List PlacedSegment → ℕ → ℕ
loop_number z j = loops_in (take j z)

-- The guide row that is shown: 0 for the rows of the envelope, which have the numbers from 65 on.
abbrev pub row_shown : ℕ → ℕ
row_shown n = cond (nat_lt n 65) n 0

-- The row of a segment of z: its place, its length, its guide row and the number of its innermost loop.
abbrev pub segment_row : List PlacedSegment → PlacedSegment → SegmentRow
segment_row z p = record { place = p.0.place; length = length p.0.bytes; row = row_shown p.1.row; around = loop_number z p.1.loop }

-- A row for each segment.
abbrev pub rows_of_segments : List PlacedSegment → List SegmentRow
rows_of_segments z = map (segment_row z) z

-- The last segment of the loop that segment j opens, where segment k is one of the loop and these follow it. The loop goes on through the segments
-- that follow directly, as long as their rows stand in a loop that was opened at j or later.
abbrev pub last_from : ℕ → ℕ → List PlacedSegment → ℕ
last_from j k [] = k
last_from j k (p ∷ after) = let more = last_from j (suc k) after in cond (nat_le j p.1.outer) more k

-- A row for each segment that opens a loop, made of its number, the segment and those that follow it. The first segment has the number k.
abbrev pub each_loop : (ℕ → PlacedSegment → List PlacedSegment → LoopRow) → ℕ → List PlacedSegment → List LoopRow
each_loop row_of k [] = []
each_loop row_of k (p ∷ after) = let more = each_loop row_of (suc k) after in cond (opens_at k p) (row_of k p after ∷ more) more

-- The row of the loop of z that segment k opens: that segment, the loop's last segment, the number of the loop around it and the guide row.
abbrev pub loop_row : List PlacedSegment → ℕ → PlacedSegment → List PlacedSegment → LoopRow
loop_row z k p after = record { opening = k; last = last_from k k after; outer = loop_number z p.1.outer; row = p.1.row }

-- A row for each loop.
abbrev pub rows_of_loops : List PlacedSegment → List LoopRow
rows_of_loops z = each_loop (loop_row z) 1 z

-- The segments z are those of the interchange with the rows and loops of a derivation, these are its terminator and its separator, and tables of
-- these lengths have room.
pub record Fitting (m : Meaning) (I : List ℕ) (terminator separator segments loops : ℕ) (z : List PlacedSegment) : Type 0 where
  pub derived : DerivedSo m I z
  pub ends : terminator ≡ terminator_of I
  pub parts : separator ≡ separator_of I
  pub room : length z ≤ segments
  pub loop_room : loops_in z ≤ loops

-- The tables hold the rows of z first, and behind them what they held before.
pub record Filled (z : List PlacedSegment) (segments : List SegmentRow) (loops : List LoopRow) (segments' : List SegmentRow) (loops' : List LoopRow) : Type 0 where
  pub segments_are : segments' ≡ rows_of_segments z ++ drop (length z) segments
  pub loops_are : loops' ≡ rows_of_loops z ++ drop (loops_in z) loops
