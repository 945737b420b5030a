-- How many segments and loops there are rows for.
use Rattle.std.proofs.Common.{◌≡◌, ℕ, suc, ◌+◌, ◌≤◌, Bool, true, false, cond, List, [], ◌∷◌, ◌++◌, length, refl, ap, ◌∙◌, arith}
use Rattle.std.proofs.lemmas.List.{length-map}
use Rattle.placing.specs.Placed.{PlacedSegment}
use Rattle.results.specs.declared.rows.LoopRow.{LoopRow}
use Rattle.results.specs.Rows.{opens_at, loops_from, loops_in, segment_row, rows_of_segments, each_loop, loop_row, rows_of_loops}

pub loops_from_append : (k : ℕ) (a b : List PlacedSegment) → loops_from k (a ++ b) ≡ loops_from k a + loops_from (k + length a) b
loops_from_append k [] b = (ap (λ (n : ℕ). loops_from n b) n0) ∙ (omega arith)
  where
    n0 : k ≡ k + 0
    n0 = omega arith
loops_from_append k (p ∷ a) b =
    let e = loops_from_append (suc k) a b in
    let s : suc k + length a ≡ k + suc (length a) = omega arith in
    let t = ap (λ (n : ℕ). loops_from n b) s in
    omega arith

-- one segment more
pub loops_in_push : (z : List PlacedSegment) (p : PlacedSegment) → loops_in (z ++ (p ∷ [])) ≡ loops_in z + cond (opens_at (suc (length z)) p) 1 0
loops_in_push z p =
    let e = loops_from_append 1 z (p ∷ []) in
    let s : 1 + length z ≡ suc (length z) = omega arith in
    let t : loops_from (1 + length z) (p ∷ []) ≡ cond (opens_at (suc (length z)) p) 1 0 + 0 = ap (λ (n : ℕ). loops_from n (p ∷ [])) s in
    omega arith

one_row : (b : Bool) (l : LoopRow) (more : List LoopRow) (n : ℕ) → length more ≡ n → length (cond b (l ∷ more) more) ≡ cond b 1 0 + n
one_row true l more n e = omega arith
one_row false l more n e = omega arith

pub length_each_loop : (row_of : ℕ → PlacedSegment → List PlacedSegment → LoopRow) (k : ℕ) (z : List PlacedSegment) → length (each_loop row_of k z) ≡ loops_from k z
length_each_loop row_of k [] = refl
length_each_loop row_of k (p ∷ after) = one_row (opens_at k p) (row_of k p after) (each_loop row_of (suc k) after) (loops_from (suc k) after) (length_each_loop row_of (suc k) after)

-- no more loops than segments
pub loops_within : (k : ℕ) (z : List PlacedSegment) → loops_from k z ≤ length z
loops_within k [] = omega arith
loops_within k (p ∷ after) = one_more (opens_at k p) (loops_from (suc k) after) (length after) (loops_within (suc k) after)
  where
    one_more : (b : Bool) (m n : ℕ) → m ≤ n → cond b 1 0 + m ≤ suc n
    one_more true m n h = omega arith
    one_more false m n h = omega arith
