-- The tables of the rule book's worked interchanges, by their segments with their rows and loops.
use Rattle.std.proofs.Common.{◌≡◌, ℕ, true, List, [], ◌∷◌, replicate, refl}
use Rattle.placing.specs.Placed.{PlacedSegment}
use Rattle.results.specs.declared.rows.SegmentRow.{SegmentRow}
use Rattle.results.specs.declared.rows.LoopRow.{LoopRow}
use Rattle.results.specs.Rows.{loops_in, rows_of_segments, rows_of_loops}

-- a segment at this place, so many bytes long, with its row, its innermost loop and the loop that its row stands in
abbrev put : ℕ → ℕ → ℕ → ℕ → ℕ → PlacedSegment
put place size row around outer = (record { place = place; bytes = replicate size 65; closed = true }, record { row = row; loop = around; outer = outer })

abbrev segment_is : ℕ → ℕ → ℕ → ℕ → SegmentRow
segment_is place size row around = record { place = place; length = size; row = row; around = around }

abbrev loop_is : ℕ → ℕ → ℕ → ℕ → LoopRow
loop_is opening last outer row = record { opening = opening; last = last; outer = outer; row = row }

abbrev base : List PlacedSegment
base =
    put 0 105 65 0 0 ∷ put 106 51 66 0 0 ∷ put 158 11 1 0 0 ∷ put 170 35 2 0 0 ∷ put 206 10 3 0 0 ∷ put 217 17 4 0 0 ∷ put 235 17 5 0 0 ∷ put 253 17 6 0 0
    ∷ put 271 29 7 9 0 ∷ put 301 44 10 10 9 ∷ put 346 7 12 0 0 ∷ put 354 10 13 0 0 ∷ put 365 6 67 0 0 ∷ put 372 15 68 0 0 ∷ []

pub base_segments : rows_of_segments base
    ≡ segment_is 0 105 0 0 ∷ segment_is 106 51 0 0 ∷ segment_is 158 11 1 0 ∷ segment_is 170 35 2 0 ∷ segment_is 206 10 3 0 ∷ segment_is 217 17 4 0 ∷ segment_is 235 17 5 0
    ∷ segment_is 253 17 6 0 ∷ segment_is 271 29 7 1 ∷ segment_is 301 44 10 2 ∷ segment_is 346 7 12 0 ∷ segment_is 354 10 13 0 ∷ segment_is 365 6 0 0 ∷ segment_is 372 15 0 0 ∷ []
base_segments = refl

pub base_loops : rows_of_loops base ≡ loop_is 9 10 0 7 ∷ loop_is 10 10 1 10 ∷ []
base_loops = refl

-- PO1, ACK, ACK and SCH, then CTT, SE, GE and IEA
abbrev twice : List PlacedSegment
twice =
    put 0 105 65 0 0 ∷ put 106 51 66 0 0 ∷ put 158 11 1 0 0 ∷ put 170 35 2 0 0 ∷ put 206 10 3 0 0 ∷ put 217 17 4 0 0 ∷ put 235 17 5 0 0 ∷ put 253 17 6 0 0
    ∷ put 271 29 7 9 0 ∷ put 301 44 10 10 9 ∷ put 346 44 10 11 9 ∷ put 391 26 11 11 11 ∷ put 418 7 12 0 0 ∷ put 426 10 13 0 0 ∷ put 437 6 67 0 0 ∷ put 444 15 68 0 0 ∷ []

pub twice_loops : rows_of_loops twice ≡ loop_is 9 12 0 7 ∷ loop_is 10 10 1 10 ∷ loop_is 11 12 1 10 ∷ []
twice_loops = refl

pub twice_count : loops_in twice ≡ 3
twice_count = refl
