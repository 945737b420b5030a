-- The tables are filled by writing rows, closing loops and numbering loops.
use Rattle.std.proofs.Common.{◌≡◌, ℕ, List, ◌++◌, map, length, take, drop, sym, ap, ◌∙◌}
use Rattle.std.proofs.lemmas.List.{take_at, drop_at, length-map}
use Rattle.x12.specs.Header.{separator_of}
use Rattle.x12.specs.Segments.{segments_of}
use Rattle.guide.specs.Meaning.{Meaning}
use Rattle.guide.specs.Asked.{rows_of, label_of}
use Rattle.placing.specs.Structure.{marks_in}
use Rattle.placing.specs.Placed.{PlacedSegment, spots_in}
use Rattle.results.specs.declared.rows.SegmentRow.{SegmentRow}
use Rattle.results.specs.declared.rows.LoopRow.{LoopRow}
use Rattle.results.specs.declared.write.Counts.{Counts}
use Rattle.results.specs.Rows.{loops_in, rows_of_segments, rows_of_loops, Fitting, Filled}
use Rattle.results.specs.Steps.{row_with_name, named_rows, open_row, open_rows, closed_rows, close_by, Named, Begun}
use Rattle.results.proofs.Counting.{length_each_loop}
use Rattle.results.proofs.Closing.{close_all}
use Rattle.results.proofs.Names.{derivation_named}

module _ {m : Meaning} {I : List ℕ} {t x : ℕ} {z : List PlacedSegment} {old : List SegmentRow} {old_loops : List LoopRow} {counts : Counts} {written : List SegmentRow} {written_loops : List LoopRow}
    (fit : Fitting m I t x (length old) (length old_loops) z) (begun : Begun z old old_loops written written_loops counts) where
  -- as many rows are used as there are segments and loops
  front_is : (n : ℕ) → n ≡ counts.segments → take n written ≡ named_rows z
  front_is n e = ap (take n) begun.segments_are ∙ take_at (named_rows z) (drop (length z) old) n (length-map z row_with_name ∙ sym (e ∙ begun.many))

  behind_is : (n : ℕ) → n ≡ counts.segments → drop n written ≡ drop (length z) old
  behind_is n e = ap (drop n) begun.segments_are ∙ drop_at (named_rows z) (drop (length z) old) n (length-map z row_with_name ∙ sym (e ∙ begun.many))

  loops_front : (k : ℕ) → k ≡ counts.loops → take k written_loops ≡ open_rows z
  loops_front k e = ap (take k) begun.loops_are ∙ take_at (open_rows z) (drop (loops_in z) old_loops) k (length_each_loop open_row 1 z ∙ sym (e ∙ begun.loops_many))

  loops_behind : (k : ℕ) → k ≡ counts.loops → drop k written_loops ≡ drop (loops_in z) old_loops
  loops_behind k e = ap (drop k) begun.loops_are ∙ drop_at (open_rows z) (drop (loops_in z) old_loops) k (length_each_loop open_row 1 z ∙ sym (e ∙ begun.loops_many))

  pub all_filled : (n k : ℕ) (closed numbered_loops : List LoopRow) (numbered : List SegmentRow) → n ≡ counts.segments → k ≡ counts.loops
      → closed ≡ map (close_by (take n written)) (take k written_loops)
      → ((y : List PlacedSegment) → Named (spots_in y) → take n written ≡ named_rows y → closed ≡ closed_rows y → (numbered ≡ rows_of_segments y) × (numbered_loops ≡ rows_of_loops y))
      → Filled z old old_loops (numbered ++ drop n written) (numbered_loops ++ drop k written_loops)
  all_filled n k closed numbered_loops numbered en ek close number =
      record {
        segments_are = (λ j. done.0 j ++ behind_is n en j);
        loops_are = (λ j. done.1 j ++ loops_behind k ek j);
      }
    where
      closed_are : closed ≡ closed_rows z
      closed_are = close ∙ (λ j. map (close_by (front_is n en j)) (loops_front k ek j)) ∙ close_all z

      named : Named (spots_in z)
      named = derivation_named (label_of m) (rows_of m) (marks_in (separator_of I) (segments_of I)) (spots_in z) fit.derived.1

      done : (numbered ≡ rows_of_segments z) × (numbered_loops ≡ rows_of_loops z)
      done = number z named (front_is n en) closed_are
