-- Loops are given their numbers, one segment after the other.
use Rattle.std.proofs.Common.{◌≡◌, ℕ, suc, ◌+◌, ◌<◌, ◌≤◌, Bool, true, false, cond, eqb, ◌⊎◌, List, [], ◌∷◌, ◌++◌, map, length, Some, None, Option, get_or, take, drop, set, MatchBool, MatchOption, Bor, sym, refl, ap, ◌∙◌, subst, inl, inr, add-one, arith, length-append}
use Rattle.std.proofs.lemmas.List.{set_at, get_or_at, take_at, drop_at, drop_more, length_push, append_assoc, append-nil, length-map, length-take-le, map-append, take-append-drop}
use Rattle.std.proofs.lemmas.Bool.{eqb-true, eqb-false, cond-true, cond-false}
use Rattle.std.specs.Slice.{IsItemAt}
use Rattle.grammar.specs.Derivations.{Spot}
use Rattle.placing.specs.Placed.{PlacedSegment, spots_in}
use Rattle.results.specs.declared.rows.SegmentRow.{SegmentRow}
use Rattle.results.specs.declared.rows.LoopRow.{LoopRow}
use Rattle.results.specs.Rows.{opens_at, loops_in, loop_number, segment_row, rows_of_segments, each_loop, loop_row, rows_of_loops}
use Rattle.results.specs.Steps.{row_with_name, named_rows, closed_row, closed_rows, OpenedAt, IsOpen, NamesOpen, Named}
use Rattle.results.proofs.Parting.{never_empty, Parted, part_map}
use Rattle.results.proofs.Counting.{loops_in_push}

abbrev pub no_loop : LoopRow
no_loop = record { opening = 0; last = 0; outer = 0; row = 0 }

abbrev pub no_segment : SegmentRow
no_segment = record { place = 0; length = 0; row = 0; around = 0 }

-- a row within the table is that of the segment's loop, or no row at this index is
row_opened : (loops : List LoopRow) (next number : ℕ) (x : LoopRow) → next < length loops → x ≡ get_or loops next x → (b : Bool) → b ≡ eqb x.opening number
    → MatchBool b (OpenedAt loops next number) (OpenedAt loops next number → ⊥)
row_opened loops next number x l same true e =
    (take next loops, x, drop (next + 1) loops, there, length-take-le next loops (omega arith), eqb-true x.opening number (sym e))
  where
    there : loops ≡ take next loops ++ (x ∷ drop (next + 1) loops)
    there = sym (take-append-drop next loops) ∙ ap (λ (t : List LoopRow). take next loops ++ t) (drop_more loops next x l ∙ ap (λ (y : LoopRow). y ∷ drop (next + 1) loops) (sym same))
row_opened loops next number x l same false e = λ (front, y, behind, s, m, o).
    eqb-false x.opening number (sym e) (ap (λ (z : LoopRow). z.opening) (same ∙ ap (λ (t : List LoopRow). get_or t next x) s ∙ get_or_at front y behind x next m) ∙ o)

-- no row behind the table is
none_opened : (loops : List LoopRow) (next number : ℕ) → length loops ≤ next → OpenedAt loops next number → ⊥
none_opened loops next number l (front, y, behind, s, m, o) = let e = ap length s ∙ length-append front (y ∷ behind) in omega arith

-- the row at this index, if there is one, says whether it is that of the segment's loop
pub opened_there : (loops : List LoopRow) (next number : ℕ) (r : Option (Bor LoopRow)) (b : Bool) → IsItemAt loops next r → MatchOption r (b ≡ false) (λ x. b ≡ eqb x.now.opening number)
    → MatchBool b (OpenedAt loops next number) (OpenedAt loops next number → ⊥)
opened_there loops next number None b item e = subst (λ (x : Bool). MatchBool x (OpenedAt loops next number) (OpenedAt loops next number → ⊥)) (sym e) (none_opened loops next number item.3)
opened_there loops next number (Some x) b item e = row_opened loops next number x.now item.3.0 item.1 b e

-- the loops of later segments are opened later
pub opened_later : (k : ℕ) (z : List PlacedSegment) (l : LoopRow) (more : List LoopRow) → each_loop closed_row k z ≡ l ∷ more → k ≤ l.opening
opened_later k [] l more e = absurd (never_empty l more e)
opened_later k (p ∷ after) l more e = by_test (opens_at k p) e (opened_later (suc k) after l more)
  where
    by_test : (b : Bool) → cond b (closed_row k p after ∷ each_loop closed_row (suc k) after) (each_loop closed_row (suc k) after) ≡ l ∷ more
        → (each_loop closed_row (suc k) after ≡ l ∷ more → suc k ≤ l.opening) → k ≤ l.opening
    by_test true e f = let s : closed_row k p after ≡ l = cc in let o = ap (λ (y : LoopRow). y.opening) s in omega arith
    by_test false e f = let h = f e in omega arith

-- The first i segments of z have their loops by number, and so have the loops that they opened.
pub record Numbered (z : List PlacedSegment) (i opened : ℕ) (segments : List SegmentRow) (loops : List LoopRow) : Type 0 where
  pub done : List PlacedSegment
  pub rest : List PlacedSegment
  pub front : List LoopRow
  pub split : z ≡ done ++ rest
  pub many : length done ≡ i
  pub counted : loops_in done ≡ opened
  pub written : length front ≡ opened
  pub segments_are : segments ≡ map (segment_row z) done ++ map row_with_name rest
  pub loops_are : loops ≡ front ++ each_loop closed_row (suc i) rest
  pub all_loops : rows_of_loops z ≡ front ++ each_loop (loop_row z) (suc i) rest

pub none_numbered : (z : List PlacedSegment) (segments : List SegmentRow) (loops : List LoopRow) → segments ≡ named_rows z → loops ≡ closed_rows z → Numbered z 0 0 segments loops
none_numbered z segments loops s l =
    record { done = []; rest = z; front = []; split = refl; many = refl; counted = refl; written = refl; segments_are = s; loops_are = l; all_loops = refl }

-- what loop_at answers
abbrev pub AnswersLoop : List SegmentRow → ℕ → ℕ → Type 0
AnswersLoop segments opening r =
    (opening ≡ 0 → r ≡ 0)
    × ((front : List SegmentRow) (s : SegmentRow) (behind : List SegmentRow) → segments ≡ front ++ (s ∷ behind) → opening ≡ suc (length front) → r ≡ s.around)

-- the row of a segment with another loop
abbrev pub in_loop : SegmentRow → ℕ → SegmentRow
in_loop s n = record { place = s.place; length = s.length; row = s.row; around = n }

abbrev pub in_outer : LoopRow → ℕ → LoopRow
in_outer l n = record { opening = l.opening; last = l.last; outer = n; row = l.row }

module _ (z done : List PlacedSegment) (p : PlacedSegment) (after : List PlacedSegment) (i opened : ℕ) (front : List LoopRow) (segments : List SegmentRow) (loops : List LoopRow)
    (split : z ≡ done ++ (p ∷ after)) (many : length done ≡ i) (counted : loops_in done ≡ opened) (written : length front ≡ opened)
    (segments_are : segments ≡ map (segment_row z) done ++ (row_with_name p ∷ map row_with_name after))
    (loops_are : loops ≡ front ++ each_loop closed_row (suc i) (p ∷ after))
    (all_loops : rows_of_loops z ≡ front ++ each_loop (loop_row z) (suc i) (p ∷ after)) where
  places : length (map (segment_row z) done) ≡ i
  places = length-map done (segment_row z) ∙ many

  -- the row that is next
  pub this_row : get_or segments i no_segment ≡ row_with_name p
  this_row = ap (λ (t : List SegmentRow). get_or t i no_segment) segments_are ∙ get_or_at (map (segment_row z) done) (row_with_name p) (map row_with_name after) no_segment i places

  -- its segment names loops that were opened
  pub names : Named (spots_in z) → NamesOpen (spots_in done) p.1
  names n = n (spots_in done) p.1 (spots_in after) (ap spots_in split ∙ map-append (λ (q : PlacedSegment). q.1) done (p ∷ after))

  -- the answer for a loop that is open is its number
  number_of : (j r : ℕ) → AnswersLoop segments j r → IsOpen (spots_in done) j → r ≡ loop_number z j
  number_of j r f (inl e) = f.0 e ∙ ap (loop_number z) (sym e)
  number_of j r f (inr (a, s, b, e, o, n)) = go (part_map (λ (q : PlacedSegment). q.1) done a s b e)
    where
      go : Parted (λ (q : PlacedSegment). q.1) done a s → r ≡ loop_number z j
      go h =
          f.1 (map (segment_row z) h.before) (segment_row z h.item) (map (segment_row z) h.behind ++ (row_with_name p ∷ map row_with_name after))
          (segments_are
          ∙ ap (λ (d : List PlacedSegment). map (segment_row z) d ++ (row_with_name p ∷ map row_with_name after)) h.split
          ∙ ap (λ (t : List SegmentRow). t ++ (row_with_name p ∷ map row_with_name after)) (map-append (segment_row z) h.before (h.item ∷ h.behind))
          ∙ append_assoc (map (segment_row z) h.before) (segment_row z h.item ∷ map (segment_row z) h.behind) (row_with_name p ∷ map row_with_name after))
          (n ∙ ap suc (sym h.many ∙ sym (length-map h.before (segment_row z))))
          ∙ ap (λ (x : Spot). loop_number z x.loop) h.same
          ∙ ap (loop_number z) o

  -- the rows of the loops that are still to be numbered
  opened_rows : opens_at (suc i) p ≡ true → loops ≡ front ++ (closed_row (suc i) p after ∷ each_loop closed_row (suc (suc i)) after)
  opened_rows h =
      loops_are
      ∙ ap (λ (t : List LoopRow). front ++ t) (cond-true (opens_at (suc i) p) (closed_row (suc i) p after ∷ each_loop closed_row (suc (suc i)) after) (each_loop closed_row (suc (suc i)) after) h)

  other_rows : opens_at (suc i) p ≡ false → loops ≡ front ++ each_loop closed_row (suc (suc i)) after
  other_rows h =
      loops_are
      ∙ ap (λ (t : List LoopRow). front ++ t) (cond-false (opens_at (suc i) p) (closed_row (suc i) p after ∷ each_loop closed_row (suc (suc i)) after) (each_loop closed_row (suc (suc i)) after) h)

  -- the next loop of the table is this segment's if and only if the segment opens one
  if_opened : OpenedAt loops opened (i + 1) → opens_at (suc i) p ≡ true
  if_opened (a, l, b, e, m, o) = go (opens_at (suc i) p) refl
    where
      next : opens_at (suc i) p ≡ false → each_loop closed_row (suc (suc i)) after ≡ l ∷ b
      next h = sym (drop_at front (each_loop closed_row (suc (suc i)) after) opened written) ∙ ap (drop opened) (sym (other_rows h) ∙ e) ∙ drop_at a (l ∷ b) opened m

      go : (t : Bool) → opens_at (suc i) p ≡ t → t ≡ true
      go true h = refl
      go false h = let late = opened_later (suc (suc i)) after l b (next h) in absurd (omega arith)

  not_opened : (OpenedAt loops opened (i + 1) → ⊥) → opens_at (suc i) p ≡ false
  not_opened f = go (opens_at (suc i) p) refl
    where
      go : (t : Bool) → opens_at (suc i) p ≡ t → t ≡ false
      go false h = refl
      go true h = absurd (f (front, closed_row (suc i) p after, each_loop closed_row (suc (suc i)) after, opened_rows h, written, sym (add-one i)))

  -- the segment's row is written
  row_written : (x : SegmentRow) → x ≡ segment_row z p → set segments i x ≡ map (segment_row z) (done ++ (p ∷ [])) ++ map row_with_name after
  row_written x e =
      (λ j. set (segments_are j) i (e j))
      ∙ set_at (map (segment_row z) done) (row_with_name p) (map row_with_name after) (segment_row z p) i places
      ∙ sym (append_assoc (map (segment_row z) done) (segment_row z p ∷ []) (map row_with_name after))
      ∙ ap (λ (t : List SegmentRow). t ++ map row_with_name after) (sym (map-append (segment_row z) done (p ∷ [])))

  split_on : z ≡ (done ++ (p ∷ [])) ++ after
  split_on = split ∙ sym (append_assoc done (p ∷ []) after)

  many_on : length (done ++ (p ∷ [])) ≡ suc i
  many_on = length_push done p ∙ ap (λ (n : ℕ). n + 1) many ∙ add-one i

  opens_now : opens_at (suc (length done)) p ≡ opens_at (suc i) p
  opens_now = ap (λ (n : ℕ). opens_at (suc n) p) many

  -- a segment that opens no loop
  pub numbers_inside : (r : ℕ) → Named (spots_in z) → AnswersLoop segments (get_or segments i no_segment).around r → (OpenedAt loops opened (i + 1) → ⊥)
      → Numbered z (i + 1) opened (set segments i (in_loop (get_or segments i no_segment) r)) loops
  numbers_inside r n f g =
      subst (λ (k : ℕ). Numbered z k opened (set segments i (in_loop (get_or segments i no_segment) r)) loops) (sym (add-one i))
      (record {
        done = done ++ (p ∷ []);
        rest = after;
        front = front;
        split = split_on;
        many = many_on;
        counted = loops_in_push done p ∙ ap (λ (b : Bool). loops_in done + cond b 1 0) (opens_now ∙ h) ∙ counted_so;
        written = written;
        segments_are = row_written (in_loop (get_or segments i no_segment) r) row_is;
        loops_are = other_rows h;
        all_loops = all_loops ∙ ap (λ (t : List LoopRow). front ++ t) (cond-false (opens_at (suc i) p) (loop_row z (suc i) p after ∷ each_loop (loop_row z) (suc (suc i)) after) (each_loop (loop_row z) (suc (suc i)) after) h);
      })
    where
      h : opens_at (suc i) p ≡ false
      h = not_opened g

      counted_so : loops_in done + 0 ≡ opened
      counted_so = let c = counted in omega arith

      outer_number : r ≡ loop_number z p.1.outer
      outer_number = number_of p.1.outer r (subst (λ (x : SegmentRow). AnswersLoop segments x.around r) this_row f) (names n).0

      same_loop : ((p.1.loop ≡ suc (length (spots_in done))) ⊎ (p.1.loop ≡ p.1.outer)) → p.1.loop ≡ p.1.outer
      same_loop (inl e) = absurd (eqb-false p.1.loop (suc i) h (e ∙ ap suc (length-map done (λ (q : PlacedSegment). q.1) ∙ many)))
      same_loop (inr e) = e

      row_is : in_loop (get_or segments i no_segment) r ≡ segment_row z p
      row_is = (λ j. in_loop (this_row j) ((outer_number ∙ ap (loop_number z) (sym (same_loop (names n).1))) j))

  -- a segment that opens one
  pub numbers_opening : (r : ℕ) → Named (spots_in z) → AnswersLoop segments (get_or segments i no_segment).around r → OpenedAt loops opened (i + 1)
      → Numbered z (i + 1) (opened + 1) (set segments i (in_loop (get_or segments i no_segment) (opened + 1))) (set loops opened (in_outer (get_or loops opened no_loop) r))
  numbers_opening r n f g =
      subst (λ (k : ℕ). Numbered z k (opened + 1) (set segments i (in_loop (get_or segments i no_segment) (opened + 1))) (set loops opened (in_outer (get_or loops opened no_loop) r))) (sym (add-one i))
      (record {
        done = done ++ (p ∷ []);
        rest = after;
        front = front ++ (loop_row z (suc i) p after ∷ []);
        split = split_on;
        many = many_on;
        counted = counted_on;
        written = length_push front (loop_row z (suc i) p after) ∙ ap (λ (k : ℕ). k + 1) written;
        segments_are = row_written (in_loop (get_or segments i no_segment) (opened + 1)) (λ j. in_loop (this_row j) (own_number j));
        loops_are =
            (λ j. set (opened_rows h j) opened (loop_is_lem j))
            ∙ set_at front (closed_row (suc i) p after) (each_loop closed_row (suc (suc i)) after) (loop_row z (suc i) p after) opened written
            ∙ sym (append_assoc front (loop_row z (suc i) p after ∷ []) (each_loop closed_row (suc (suc i)) after));
        all_loops =
            all_loops
            ∙ ap (λ (t : List LoopRow). front ++ t) (cond-true (opens_at (suc i) p) (loop_row z (suc i) p after ∷ each_loop (loop_row z) (suc (suc i)) after) (each_loop (loop_row z) (suc (suc i)) after) h)
            ∙ sym (append_assoc front (loop_row z (suc i) p after ∷ []) (each_loop (loop_row z) (suc (suc i)) after));
      })
    where
      h : opens_at (suc i) p ≡ true
      h = if_opened g

      counted_on : loops_in (done ++ (p ∷ [])) ≡ opened + 1
      counted_on = loops_in_push done p ∙ ap (λ (b : Bool). loops_in done + cond b 1 0) (opens_now ∙ h) ∙ ap (λ (k : ℕ). k + 1) counted

      own_number : opened + 1 ≡ loop_number z p.1.loop
      own_number =
          sym counted_on
          ∙ ap loops_in (sym (ap (take (suc i)) split_on ∙ take_at (done ++ (p ∷ [])) after (suc i) many_on))
          ∙ ap (loop_number z) (sym (eqb-true p.1.loop (suc i) h))

      outer_number : r ≡ loop_number z p.1.outer
      outer_number = number_of p.1.outer r (subst (λ (x : SegmentRow). AnswersLoop segments x.around r) this_row f) (names n).0

      this_loop : get_or loops opened no_loop ≡ closed_row (suc i) p after
      this_loop = ap (λ (t : List LoopRow). get_or t opened no_loop) (opened_rows h) ∙ get_or_at front (closed_row (suc i) p after) (each_loop closed_row (suc (suc i)) after) no_loop opened written

      loop_is_lem : in_outer (get_or loops opened no_loop) r ≡ loop_row z (suc i) p after
      loop_is_lem = (λ j. in_outer (this_loop j) (outer_number j))

-- no segment is left where the table is at its end
all_done : (z : List PlacedSegment) (i opened : ℕ) (segments : List SegmentRow) (loops : List LoopRow) (s : Numbered z i opened segments loops)
    → segments ≡ map (segment_row z) s.done ++ [] → i < length segments → ⊥
all_done z i opened segments loops s b l =
    let e = ap length b ∙ length-append (map (segment_row z) s.done) [] ∙ ap (λ (n : ℕ). n + 0) (length-map s.done (segment_row z) ∙ s.many) in omega arith

one_left : (z : List PlacedSegment) (i opened : ℕ) (segments : List SegmentRow) (loops : List LoopRow) (s : Numbered z i opened segments loops) (p : PlacedSegment) (after : List PlacedSegment)
    → segments ≡ map (segment_row z) s.done ++ (row_with_name p ∷ map row_with_name after) → length segments ≤ i → ⊥
one_left z i opened segments loops s p after b l =
    let m = length-map s.done (segment_row z) ∙ s.many in
    let e = ap length b ∙ length-append (map (segment_row z) s.done) (row_with_name p ∷ map row_with_name after) in omega arith

module _ (z : List PlacedSegment) (i opened : ℕ) (segments : List SegmentRow) (loops : List LoopRow) (s : Numbered z i opened segments loops) where
  pub inside_on : (r : ℕ) → i < length segments → Named (spots_in z) → AnswersLoop segments (get_or segments i no_segment).around r → (OpenedAt loops opened (i + 1) → ⊥)
      → Numbered z (i + 1) opened (set segments i (in_loop (get_or segments i no_segment) r)) loops
  inside_on r l n f g = go s.rest s.split s.segments_are s.loops_are s.all_loops
    where
      go : (rest : List PlacedSegment) → z ≡ s.done ++ rest → segments ≡ map (segment_row z) s.done ++ map row_with_name rest → loops ≡ s.front ++ each_loop closed_row (suc i) rest
          → rows_of_loops z ≡ s.front ++ each_loop (loop_row z) (suc i) rest → Numbered z (i + 1) opened (set segments i (in_loop (get_or segments i no_segment) r)) loops
      go [] a b d e = absurd (all_done z i opened segments loops s b l)
      go (p ∷ after) a b d e = numbers_inside z s.done p after i opened s.front segments loops a s.many s.counted s.written b d e r n f g

  pub opening_on : (r : ℕ) → i < length segments → Named (spots_in z) → AnswersLoop segments (get_or segments i no_segment).around r → OpenedAt loops opened (i + 1)
      → Numbered z (i + 1) (opened + 1) (set segments i (in_loop (get_or segments i no_segment) (opened + 1))) (set loops opened (in_outer (get_or loops opened no_loop) r))
  opening_on r l n f g = go s.rest s.split s.segments_are s.loops_are s.all_loops
    where
      go : (rest : List PlacedSegment) → z ≡ s.done ++ rest → segments ≡ map (segment_row z) s.done ++ map row_with_name rest → loops ≡ s.front ++ each_loop closed_row (suc i) rest
          → rows_of_loops z ≡ s.front ++ each_loop (loop_row z) (suc i) rest
          → Numbered z (i + 1) (opened + 1) (set segments i (in_loop (get_or segments i no_segment) (opened + 1))) (set loops opened (in_outer (get_or loops opened no_loop) r))
      go [] a b d e = absurd (all_done z i opened segments loops s b l)
      go (p ∷ after) a b d e = numbers_opening z s.done p after i opened s.front segments loops a s.many s.counted s.written b d e r n f g
