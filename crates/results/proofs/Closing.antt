-- The last segment of a loop, one segment on.
use Rattle.std.proofs.Common.{◌≡◌, ℕ, suc, ◌+◌, ◌<◌, Bool, true, false, cond, leb, List, [], ◌∷◌, ◌++◌, map, length, get_or, take, drop, set, sym, refl, ap, ◌∙◌, add-zero, nat_le, arith}
use Rattle.std.proofs.lemmas.List.{set_at, get_or_at, map_more, drop_more, append_assoc, length-map, length-take-le, length_push, drop-map, drop_at}
use Rattle.std.specs.List.{prefix_len}
use Rattle.results.specs.declared.rows.SegmentRow.{SegmentRow}
use Rattle.results.specs.declared.rows.LoopRow.{LoopRow}
use Rattle.placing.specs.Placed.{PlacedSegment}
use Rattle.results.specs.Rows.{opens_at, last_from, each_loop}
use Rattle.results.specs.Steps.{row_with_name, named_rows, open_row, open_rows, closed_row, closed_rows, last_by, close_by}

-- the last segment lies as many rows on as stand in the loop
pub last_by_is : (j k : ℕ) (xs : List SegmentRow) → last_by j k xs ≡ k + prefix_len (λ s. nat_le j s.around) xs
last_by_is j k [] = sym (add-zero k)
last_by_is j k (s ∷ after) = go (nat_le j s.around) (last_by_is j (suc k) after)
  where
    go : (t : Bool) → last_by j (suc k) after ≡ suc k + prefix_len (λ s. nat_le j s.around) after
        → cond t (last_by j (suc k) after) k ≡ k + cond t (1 + prefix_len (λ s. nat_le j s.around) after) 0
    go true h = h ∙ omega arith
    go false h = sym (add-zero k)

-- one more row is closed
pub closes_more : (f : LoopRow → LoopRow) (table old : List LoopRow) (i : ℕ) (d : LoopRow) → i < length old → table ≡ map f (take i old) ++ drop i old
    → set table i (f (get_or old i d)) ≡ map f (take (i + 1) old) ++ drop (i + 1) old
closes_more f table old i d l e =
    let front = map f (take i old) in
    let rest = drop (i + 1) old in
    let x = get_or old i d in
    ap (λ (t : List LoopRow). set t i (f x)) (e ∙ ap (λ (t : List LoopRow). front ++ t) (drop_more old i d l))
    ∙ set_at front x rest (f x) i (length-map (take i old) f ∙ length-take-le i old (omega arith))
    ∙ sym (append_assoc front (f x ∷ []) rest)
    ∙ ap (λ (t : List LoopRow). t ++ rest) (sym (map_more f old i d l))

-- the row that is next to be closed is as it was
pub next_row : (f : LoopRow → LoopRow) (table old : List LoopRow) (i : ℕ) (d : LoopRow) → i < length old → table ≡ map f (take i old) ++ drop i old → get_or table i d ≡ get_or old i d
next_row f table old i d l e =
    let front = map f (take i old) in
    ap (λ (t : List LoopRow). get_or t i d) (e ∙ ap (λ (t : List LoopRow). front ++ t) (drop_more old i d l))
    ∙ get_or_at front (get_or old i d) (drop (i + 1) old) d i (length-map (take i old) f ∙ length-take-le i old (omega arith))

-- the last segment, by the segments
pub last_by_lem : (j k : ℕ) (z : List PlacedSegment) → last_by j k (named_rows z) ≡ last_from j k z
last_by_lem j k [] = refl
last_by_lem j k (p ∷ after) = ap (λ (n : ℕ). cond (leb j p.1.outer) n k) (last_by_lem j (suc k) after)

map_cond : (f : LoopRow → LoopRow) (b : Bool) (x : LoopRow) (xs : List LoopRow) → map f (cond b (x ∷ xs) xs) ≡ cond b (f x ∷ map f xs) (map f xs)
map_cond f true x xs = refl
map_cond f false x xs = refl

module _ (all front : List PlacedSegment) (p : PlacedSegment) (after : List PlacedSegment) (k : ℕ) (e : all ≡ front ++ (p ∷ after)) (n : k ≡ suc (length front)) where
  one_on : all ≡ (front ++ (p ∷ [])) ++ after
  one_on = e ∙ sym (append_assoc front (p ∷ []) after)

  many_on : length (front ++ (p ∷ [])) ≡ k
  many_on = let l = length_push front p in omega arith

  last_is : last_by k k (drop k (named_rows all)) ≡ last_from k k after
  last_is =
      ap (last_by k k) (drop-map row_with_name k all ∙ ap (λ (t : List PlacedSegment). named_rows (drop k t)) one_on ∙ ap named_rows (drop_at (front ++ (p ∷ [])) after k many_on))
      ∙ last_by_lem k k after

  close_one : close_by (named_rows all) (open_row k p after) ≡ closed_row k p after
  close_one = (λ i. record { opening = k; last = last_is i; outer = p.1.outer; row = p.1.row })

-- loops that were opened are closed
close_each : (all front z : List PlacedSegment) (k : ℕ) → all ≡ front ++ z → k ≡ suc (length front) → map (close_by (named_rows all)) (each_loop open_row k z) ≡ each_loop closed_row k z
close_each all front [] k e n = refl
close_each all front (p ∷ after) k e n =
    let more : map (close_by (named_rows all)) (each_loop open_row (suc k) after) ≡ each_loop closed_row (suc k) after =
    close_each all (front ++ (p ∷ [])) after (suc k) (one_on all front p after k e n) (ap suc (sym (many_on all front p after k e n))) in
    map_cond (close_by (named_rows all)) (opens_at k p) (open_row k p after) (each_loop open_row (suc k) after)
    ∙ (λ i. cond (opens_at k p) (close_one all front p after k e n i ∷ more i) (more i))

pub close_all : (z : List PlacedSegment) → map (close_by (named_rows z)) (open_rows z) ≡ closed_rows z
close_all z = close_each z [] z 1 refl refl
