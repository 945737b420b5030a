-- The rows are written, one segment after the other.
use Rattle.std.proofs.Common.{◌≡◌, ℕ, suc, ◌+◌, ◌<◌, ◌≤◌, List, [], ◌∷◌, ◌++◌, length, drop, set, Some, None, sym, refl, ap, ◌∙◌, subst, arith, length-append}
use Rattle.std.proofs.lemmas.List.{append_assoc, append-nil, length-map, length_push, map-append}
use Rattle.x12.specs.Header.{separator_of}
use Rattle.x12.specs.Segments.{Segment, segments_of, segments_from}
use Rattle.grammar.specs.Marks.{Mark}
use Rattle.grammar.specs.Derivations.{Spot}
use Rattle.grammar.specs.Interchange.{Begins, Derivation}
use Rattle.guide.specs.Meaning.{Meaning}
use Rattle.guide.specs.Asked.{rows_of, label_of}
use Rattle.placing.specs.declared.placer.Placed.{Placed}
use Rattle.placing.specs.declared.placer.Placer.{Placer}
use Rattle.placing.specs.Stages.{spot_for}
use Rattle.placing.specs.Structure.{mark_in, marks_in}
use Rattle.placing.specs.Placing.{HasPlaced, PlacesNext, EveryDerivationGives, FitsNowhere}
use Rattle.placing.specs.Placed.{PlacedSegment, segments_in, spots_in}
use Rattle.results.specs.declared.rows.SegmentRow.{SegmentRow}
use Rattle.results.specs.declared.rows.LoopRow.{LoopRow}
use Rattle.results.specs.Rows.{loops_in, each_loop, Fitting}
use Rattle.results.specs.Steps.{row_with_name, named_rows, open_row, open_rows, OpensNext, Begun}
use Rattle.results.proofs.Parting.{never_empty, same_item}
use Rattle.results.proofs.Counting.{length_each_loop}
use Rattle.results.proofs.Opening.{row_written, LoopsOn, loops_on}

-- The first `count` segments of z are placed and their rows are written, and so are the rows of the `opened` loops that they open.
pub record Writes (m : Meaning) (I : List ℕ) (terminator separator : ℕ) (z : List PlacedSegment) (old : List SegmentRow) (old_loops : List LoopRow)
    (at count opened : ℕ) (placer : Placer) (segments : List SegmentRow) (loops : List LoopRow) : Type 0 where
  pub done : List PlacedSegment
  pub rest : List PlacedSegment
  pub front : List LoopRow
  pub split : z ≡ done ++ rest
  pub many : length done ≡ count
  pub written : length front ≡ opened
  pub placed : HasPlaced m placer (marks_in separator (segments_in done))
  pub ahead : segments_in rest ≡ segments_from terminator at I
  pub segments_are : segments ≡ named_rows done ++ drop count old
  pub loops_are : loops ≡ front ++ drop opened old_loops
  pub all_loops : open_rows z ≡ front ++ each_loop open_row (suc count) rest

marks_many : (separator : ℕ) (z : List PlacedSegment) → length (marks_in separator (segments_in z)) ≡ length z
marks_many separator [] = refl
marks_many separator (p ∷ z) = ap suc (marks_many separator z)

-- the marks of segments, parted at one of them
marks_push : (separator : ℕ) (done : List PlacedSegment) (p : PlacedSegment) → marks_in separator (segments_in (done ++ (p ∷ []))) ≡ marks_in separator (segments_in done) ++ (mark_in separator p.0 ∷ [])
marks_push separator [] p = refl
marks_push separator (q ∷ done) p = ap (λ (l : List Mark). mark_in separator q.0 ∷ l) (marks_push separator done p)

marks_part : (separator : ℕ) (done after : List PlacedSegment) (p : PlacedSegment)
    → marks_in separator (segments_in (done ++ (p ∷ after))) ≡ (marks_in separator (segments_in done) ++ (mark_in separator p.0 ∷ [])) ++ marks_in separator (segments_in after)
marks_part separator [] after p = refl
marks_part separator (q ∷ done) after p = ap (λ (l : List Mark). mark_in separator q.0 ∷ l) (marks_part separator done after p)

module _ (m : Meaning) (I : List ℕ) (t x : ℕ) (z : List PlacedSegment) (old : List SegmentRow) (old_loops : List LoopRow) (fit : Fitting m I t x (length old) (length old_loops) z) where
  -- nothing is written before the first segment
  pub none_written : (placer : Placer) → ((m : Meaning) → HasPlaced m placer []) → Writes m I t x z old old_loops 0 0 0 placer old old_loops
  none_written placer h =
      record {
        done = [];
        rest = z;
        front = [];
        split = refl;
        many = refl;
        written = refl;
        placed = h m;
        ahead = fit.derived.0 ∙ ap (λ (k : ℕ). segments_from k 0 I) (sym fit.ends);
        segments_are = refl;
        loops_are = refl;
        all_loops = refl;
      }

  module _ (done : List PlacedSegment) (p : PlacedSegment) (after : List PlacedSegment) (split : z ≡ done ++ (p ∷ after)) where
    -- the derivation of z is one that begins with the marks up to this segment's
    marks_are : marks_in (separator_of I) (segments_of I) ≡ (marks_in x (segments_in done) ++ (mark_in x p.0 ∷ [])) ++ marks_in x (segments_in after)
    marks_are =
        (λ j. marks_in (sym fit.parts j) (sym fit.derived.0 j)) ∙ ap (λ (y : List PlacedSegment). marks_in x (segments_in y)) split ∙ marks_part x done after p

    goes_so : Derivation (label_of m) (rows_of m) ((marks_in x (segments_in done) ++ (mark_in x p.0 ∷ [])) ++ marks_in x (segments_in after)) (spots_in z)
    goes_so = subst (λ (ms : List Mark). Derivation (label_of m) (rows_of m) ms (spots_in z)) marks_are fit.derived.1

    pub not_nowhere : FitsNowhere m (marks_in x (segments_in done)) (mark_in x p.0) → ⊥
    not_nowhere (b, n) = n (marks_in x (segments_in after), spots_in z, goes_so)

    pub spot_is : (spot : Spot) → EveryDerivationGives m (marks_in x (segments_in done)) (mark_in x p.0) spot → p.1 ≡ spot
    spot_is spot f = go (f (marks_in x (segments_in after)) (spots_in z) goes_so)
      where
        go : ((front behind : List Spot) × (spots_in z ≡ front ++ (spot ∷ behind)) × (length front ≡ length (marks_in x (segments_in done)))) → p.1 ≡ spot
        go (a, b, e, l) =
            same_item (spots_in done) a (spots_in after) b p.1 spot
            (length-map done (λ (q : PlacedSegment). q.1) ∙ sym (l ∙ marks_many x done))
            (sym (ap spots_in split ∙ map-append (λ (q : PlacedSegment). q.1) done (p ∷ after)) ∙ e)

module _ {m : Meaning} {I : List ℕ} {t x : ℕ} {z : List PlacedSegment} {old : List SegmentRow} {old_loops : List LoopRow} {at count opened : ℕ} {placer : Placer} {segments : List SegmentRow} {loops : List LoopRow}
    (fit : Fitting m I t x (length old) (length old_loops) z) (w : Writes m I t x z old old_loops at count opened placer segments loops) where
  -- all of z is done: the rows are its rows
  done_all : w.rest ≡ [] → Begun z old old_loops segments loops (record { segments = count; loops = opened })
  done_all e =
      let d : z ≡ w.done = w.split ∙ ap (λ (l : List PlacedSegment). w.done ++ l) e ∙ append-nil w.done in
      let r : open_rows z ≡ w.front = w.all_loops ∙ ap (λ (l : List PlacedSegment). w.front ++ each_loop open_row (suc count) l) e ∙ append-nil w.front in
      let n : count ≡ length z = sym w.many ∙ ap length (sym d) in
      let k : opened ≡ loops_in z = sym w.written ∙ ap length (sym r) ∙ length_each_loop open_row 1 z in
      record {
        many = n;
        loops_many = k;
        segments_are = w.segments_are ∙ (λ j. named_rows (sym d j) ++ drop (n j) old);
        loops_are = w.loops_are ∙ (λ j. sym r j ++ drop (k j) old_loops);
      }

  -- no segment is left
  pub all_written : segments_from t at I ≡ [] → Begun z old old_loops segments loops (record { segments = count; loops = opened })
  all_written e = done_all (none_left w.rest (w.ahead ∙ e))
    where
      none_left : (rest : List PlacedSegment) → segments_in rest ≡ [] → rest ≡ []
      none_left [] e = refl
      none_left (p ∷ after) e = absurd (never_empty p.0 (segments_in after) (sym e))

  -- no row is left, and so no segment is
  pub filled_up : length old ≤ count → Begun z old old_loops segments loops (record { segments = count; loops = opened })
  filled_up l = done_all (none_left w.rest (let n = ap length w.split ∙ length-append w.done w.rest in let d = w.many in let r = fit.room in omega (arith, l)))
    where
      none_left : (rest : List PlacedSegment) → length rest ≤ 0 → rest ≡ []
      none_left [] l = refl
      none_left (p ∷ after) l = absurd (omega (arith, l))

  -- the next segment of z
  pub record Next (s : Segment) (more : List Segment) : Type 0 where
    pub this : PlacedSegment
    pub after : List PlacedSegment
    pub split : z ≡ w.done ++ (this ∷ after)
    pub same : this.0 ≡ s
    pub ahead : segments_in after ≡ more
    pub all_loops : open_rows z ≡ w.front ++ each_loop open_row (suc count) (this ∷ after)

  pub next_of : (s : Segment) (more : List Segment) → segments_from t at I ≡ s ∷ more → Next s more
  next_of s more e = go w.rest (w.ahead ∙ e) w.split w.all_loops
    where
      go : (rest : List PlacedSegment) → segments_in rest ≡ s ∷ more → z ≡ w.done ++ rest → open_rows z ≡ w.front ++ each_loop open_row (suc count) rest → Next s more
      go [] e a b = absurd (never_empty s more e)
      go (p ∷ after) e a b = record { this = p; after = after; split = a; same = cc; ahead = cc; all_loops = b }

  module _ {s : Segment} {more : List Segment} (next : segments_from t at I ≡ s ∷ more) where
    n : Next s more
    n = next_of s more next

    -- there is room for it
    has_row_lem : count < length old
    has_row_lem = let l = ap length n.split ∙ length-append w.done (n.this ∷ n.after) in let d = w.many in let r = fit.room in omega arith

    number : count + 1 ≡ suc (length (marks_in x (segments_in w.done)))
    number = let l = marks_many x w.done in let d = w.many in omega arith

    mark_is : {mk : Mark} → mk ≡ mark_in x s → mk ≡ mark_in x n.this.0
    mark_is same-mark = same-mark ∙ ap (mark_in x) (sym n.same)

    -- it has a place
    pub never_refused : {placer' : Placer} {mk : Mark} → mk ≡ mark_in x s → PlacesNext m placer placer' (count + 1) mk None → ⊥
    never_refused same-mark f =
        not_nowhere m I t x z old old_loops fit w.done n.this n.after n.split
        (subst (FitsNowhere m (marks_in x (segments_in w.done))) (mark_is same-mark) (f (marks_in x (segments_in w.done)) w.placed number).0)

    -- and is given that
    pub written_on : {at' opened' : ℕ} {placer' : Placer} {placed : Placed} {mk : Mark} {row : SegmentRow} {loops' : List LoopRow} → more ≡ segments_from t at' I → length loops ≡ length old_loops → mk ≡ mark_in x s
        → PlacesNext m placer placer' (count + 1) mk (Some placed) → row ≡ row_with_name (s, spot_for placed) → OpensNext loops opened (count + 1) placed loops' opened'
        → Writes m I t x z old old_loops at' (count + 1) opened' placer' (set segments count row) loops'
    written_on {opened' = opened'} {placer' = placer'} {placed = placed} {mk = mk} {row = row} {loops' = loops'} ahead kept same-mark f row_is opens =
        record {
          done = w.done ++ (n.this ∷ []);
          rest = n.after;
          front = on.front;
          split = n.split ∙ sym (append_assoc w.done (n.this ∷ []) n.after);
          many = length_push w.done n.this ∙ ap (λ (k : ℕ). k + 1) w.many;
          written = on.written;
          placed = subst (HasPlaced m placer') ((λ j. marks_in x (segments_in w.done) ++ (mark_is same-mark j ∷ [])) ∙ sym (marks_push x w.done n.this)) gives.2;
          ahead = n.ahead ∙ ahead;
          segments_are =
              ap (set segments count) row_so
              ∙ row_written segments (named_rows w.done) old count (row_with_name n.this) w.segments_are (length-map w.done row_with_name ∙ w.many) has_row_lem
              ∙ ap (λ (l : List SegmentRow). l ++ drop (count + 1) old) (sym (map-append row_with_name w.done (n.this ∷ [])));
          loops_are = on.loops_are;
          all_loops = on.all_loops;
        }
      where
        gives : Begins (label_of m) (rows_of m) (marks_in x (segments_in w.done) ++ (mk ∷ [])) × EveryDerivationGives m (marks_in x (segments_in w.done)) mk (spot_for placed) × HasPlaced m placer' (marks_in x (segments_in w.done) ++ (mk ∷ []))
        gives = f (marks_in x (segments_in w.done)) w.placed number

        spot : n.this.1 ≡ spot_for placed
        spot =
            spot_is m I t x z old old_loops fit w.done n.this n.after n.split (spot_for placed)
            (subst (λ (k : Mark). EveryDerivationGives m (marks_in x (segments_in w.done)) k (spot_for placed)) (mark_is same-mark) gives.1)

        row_so : row ≡ row_with_name n.this
        row_so = row_is ∙ (λ j. row_with_name (sym n.same j, sym spot j))

        on : LoopsOn z n.after old_loops loops' count opened'
        on = loops_on z n.this n.after w.front old_loops loops loops' count opened opened' placed spot w.written w.loops_are n.all_loops fit.loop_room kept opens
