-- The tables on the way: loops first go by the segments that open them, and no loop is closed.
use Rattle.std.specs.Prelude.{◌≡◌, ℕ, suc, ◌+◌, cond, ◌&&◌, ◌⊎◌, List, [], ◌∷◌, ◌++◌, map, length, drop, MatchBool, ◌==◌, nat_le, nat_lt, slice_set}
use Rattle.placing.specs.declared.placer.Placed.{Placed}
use Rattle.grammar.specs.Derivations.{Spot}
use Rattle.placing.specs.Placed.{PlacedSegment}
use Rattle.results.specs.declared.rows.SegmentRow.{SegmentRow}
use Rattle.results.specs.declared.rows.LoopRow.{LoopRow}
use Rattle.results.specs.declared.write.Counts.{Counts}
use Rattle.results.specs.Rows.{loops_in, row_shown, last_from, each_loop}

-- A segment's row with the loop that its guide row stands in, named by its opening segment.
abbrev pub row_with_name : PlacedSegment → SegmentRow
row_with_name p = record { place = p.0.place; length = length p.0.bytes; row = row_shown p.1.row; around = p.1.outer }

abbrev pub named_rows : List PlacedSegment → List SegmentRow
named_rows z = map row_with_name z

-- A loop that has just been opened.
abbrev pub open_row : ℕ → PlacedSegment → List PlacedSegment → LoopRow
open_row k p after = record { opening = k; last = k; outer = p.1.outer; row = p.1.row }

abbrev pub open_rows : List PlacedSegment → List LoopRow
open_rows z = each_loop open_row 1 z

-- A loop with its last segment, the loop around it named by its opening segment.
abbrev pub closed_row : ℕ → PlacedSegment → List PlacedSegment → LoopRow
closed_row k p after = record { opening = k; last = last_from k k after; outer = p.1.outer; row = p.1.row }

abbrev pub closed_rows : List PlacedSegment → List LoopRow
closed_rows z = each_loop closed_row 1 z

-- The last segment of the loop that segment j opens, by such rows.
abbrev pub last_by : ℕ → ℕ → List SegmentRow → ℕ
last_by j k [] = k
last_by j k (s ∷ after) = let more = last_by j (suc k) after in cond (nat_le j s.around) more k

-- The loop's row with its last segment, by the rows of all segments.
abbrev pub close_by : List SegmentRow → LoopRow → LoopRow
close_by segments l = record { opening = l.opening; last = last_by l.opening l.opening (drop l.opening segments); outer = l.outer; row = l.row }

-- The row at this index is that of the loop that segment `number` opens.
abbrev pub OpenedAt : List LoopRow → ℕ → ℕ → Type 0
OpenedAt loops next number =
    (front : List LoopRow) × (l : LoopRow) × (behind : List LoopRow) × (loops ≡ front ++ (l ∷ behind)) × (length front ≡ next) × (l.opening ≡ number)

-- The loop j is none, or one of these segments, which are the first, opens it.
abbrev pub IsOpen : List Spot → ℕ → Type 0
IsOpen spots j =
    (j ≡ 0) ⊎ ((front : List Spot) × (s : Spot) × (behind : List Spot) × (spots ≡ front ++ (s ∷ behind)) × (s.loop ≡ j) × (j ≡ suc (length front)))

-- A segment that comes after these: its row stands in none of their loops or in one of them, and its innermost loop is that or its own.
abbrev pub NamesOpen : List Spot → Spot → Type 0
NamesOpen before s = IsOpen before s.outer × ((s.loop ≡ suc (length before)) ⊎ (s.loop ≡ s.outer))

-- Every segment names loops that were opened.
abbrev pub Named : List Spot → Type 0
Named spots = (before : List Spot) (s : Spot) (behind : List Spot) → spots ≡ before ++ (s ∷ behind) → NamesOpen before s

-- A loop is opened by the segment `number` if that is the segment's innermost loop and there is room: its row is written behind those before it.
abbrev pub OpensNext : List LoopRow → ℕ → ℕ → Placed → List LoopRow → ℕ → Type 0
OpensNext loops opened number placed loops' opened' =
    MatchBool (placed.around == number && nat_lt opened (length loops))
    ((loops' ≡ slice_set loops opened (record { opening = number; last = number; outer = placed.outer; row = placed.row })) × (opened' ≡ opened + 1))
    ((loops' ≡ loops) × (opened' ≡ opened))

-- The rows of z are written first, and behind them is what the tables held before.
pub record Begun (z : List PlacedSegment) (segments : List SegmentRow) (loops : List LoopRow) (segments' : List SegmentRow) (loops' : List LoopRow) (counts : Counts) : Type 0 where
  pub many : counts.segments ≡ length z
  pub loops_many : counts.loops ≡ loops_in z
  pub segments_are : segments' ≡ named_rows z ++ drop (length z) segments
  pub loops_are : loops' ≡ open_rows z ++ drop (loops_in z) loops
