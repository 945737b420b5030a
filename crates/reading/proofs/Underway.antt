-- A judgment under way: what holds between two segments.
use Rattle.std.proofs.Common.{◌≡◌, ℕ, suc, ◌+◌, ◌*◌, ◌<◌, ◌≤◌, Bool, true, false, cond, eqb, ◌⊎◌, List, [], ◌∷◌, ◌++◌, length, Some, Ok, Err, codes, Option, sym, refl, ap, ◌∙◌, subst, inl, inr, append_assoc, append-nil, arith, length-append}
use Rattle.std.proofs.lemmas.Slice.Eq.{bytes_eq-Decides}
use Rattle.std.proofs.lemmas.Bool.{cases_Bool, cases_lt, cond-true, cond-false}
use Rattle.x12.specs.declared.faults.Fault.{Fault}
use Rattle.x12.specs.Header.{separator_of, component_of, terminator_of}
use Rattle.x12.specs.Segments.{Part, Segment, parts_of, push, segments_of, segments_from}
use Rattle.x12.specs.Elements.{end_of, part_at}
use Rattle.x12.specs.Causes.{fault}
use Rattle.x12.specs.Checks.{header_check}
use Rattle.x12.specs.Rank.{First}
use Rattle.x12.proofs.Follows.{none_at}
use Rattle.x12.proofs.Headers.{check_sound}
use Rattle.grammar.specs.Derivations.{Spot}
use Rattle.grammar.specs.Theorems.{OneDerivation, OnlyBegun}
use Rattle.guide.specs.Meaning.{Meaning}
use Rattle.guide.specs.Asked.{rows_of, label_of}
use Rattle.placing.specs.declared.placer.Placed.{Placed}
use Rattle.placing.specs.declared.placer.Placer.{Placer}
use Rattle.placing.specs.Stages.{spot_for}
use Rattle.placing.specs.Placing.{HasPlaced}
use Rattle.placing.specs.Structure.{mark_in, marks_in}
use Rattle.placing.specs.Placed.{PlacedSegment, segments_in, OnlySo}
use Rattle.placing.proofs.Placements.{only_none, segments_more, marks_more, derived_whole}
use Rattle.results.specs.Rows.{loops_in}
use Rattle.results.proofs.Counting.{loops_in_push}
use Rattle.elements.specs.Rules.{value}
use Rattle.totals.specs.declared.tally.Tally.{Tally}
use Rattle.totals.specs.Words.{is_line, lines_in}
use Rattle.totals.specs.Tally.{TallyIs}
use Rattle.totals.proofs.Pushes.{count_push}
use Rattle.reading.specs.declared.judging.Judgment.{Judgment}
use Rattle.reading.specs.Met.{Met}
use Rattle.reading.specs.Turns.{Placement, check_by, Stands}
use Rattle.reading.specs.Judgment.{JudgedSo}
use Rattle.reading.proofs.Quiets.{Quiet, quiet_start, turn_refused, turn_passed, ends_regular, ends_refused}

-- the segments z are judged, and byte `at` is the next
pub record Underway (m : Meaning) (I : List ℕ) (count loops at : ℕ) (placer : Placer) (tally : Tally) (z : List PlacedSegment) : Type 0 where
  pub parted : segments_of I ≡ segments_in z ++ segments_from (terminator_of I) at I
  pub number : length z ≡ count
  pub few : count ≤ at
  pub within : at ≤ length I + 1
  pub placed : HasPlaced m placer (marks_in (separator_of I) (segments_in z))
  pub counted : TallyIs m (separator_of I) z tally
  pub only : OnlySo m (separator_of I) z
  pub quiet : Quiet m I (suc count)
  pub opened : loops ≡ loops_in z
  pub room : 4 * lines_in (separator_of I) z ≤ at

-- a name is no longer than its segment
head_short : (mark at : ℕ) (xs : List ℕ) (stop : ℕ) → length (part_at stop (parts_of mark at xs) 0).1 ≤ length xs
head_short mark at [] stop = omega arith
head_short mark at (x ∷ xs) stop = go (eqb x mark) (parts_of mark (suc at) xs) (head_short mark (suc at) xs stop)
  where
    go : (b : Bool) (ps : List Part) → length (part_at stop ps 0).1 ≤ length xs → length (part_at stop (cond b ((at, []) ∷ ps) (push at x ps)) 0).1 ≤ suc (length xs)
    go true ps h = omega arith
    go false [] h = omega arith
    go false (p ∷ ps) h = omega arith

-- a line has at least the three bytes of its name
line_long : (x : ℕ) (p : PlacedSegment) → is_line x p ≡ true → 3 ≤ length p.0.bytes
line_long x p e =
    let same : value x p 0 ≡ codes "PO1" = (bytes_eq-Decides (value x p 0) (codes "PO1")).0 e in
    let n : length (value x p 0) ≡ 3 = ap length same in
    let h : length (value x p 0) ≤ length p.0.bytes = head_short x p.0.place p.0.bytes (end_of p.0) in
    omega arith

no_more : (s : Segment) (rest : List Segment) → s ∷ rest ≡ [] → ⊥
no_more s rest e = let z : ◌≡◌ {A = ℕ} 0 1 = cc in omega arith

module _ (m : Meaning) (I : List ℕ) (u : Unit {0}) (sound : header_check I ≡ Ok u) where
  pub few_bytes : length I ≤ 65536
  few_bytes = (check_sound I u sound).0.1

  pub underway_start : (placer : Placer) (tally : Tally) → HasPlaced m placer [] → TallyIs m (separator_of I) [] tally → Underway m I 0 0 0 placer tally []
  underway_start placer tally h t = record {
    parted = refl;
    number = refl;
    few = omega arith;
    within = omega arith;
    placed = h;
    counted = t;
    only = only_none m (separator_of I);
    quiet = quiet_start m I u sound;
    opened = refl;
    room = omega arith;
  }

  module _ (count loops at : ℕ) (placer : Placer) (tally : Tally) (z : List PlacedSegment) (on : Underway m I count loops at placer tally z) where
    -- the next segment
    module _ (s : Segment) (next : segments_from (terminator_of I) at I ≡ s ∷ segments_from (terminator_of I) (s.place + length s.bytes + 1) I)
        (low : at ≤ s.place) (inside : s.place + length s.bytes ≤ length I) where
      before_end : at < length I
      before_end = elim (cases_lt at (length I)) [ inl l ↦ l | inr g ↦ absurd (no_more s _ (sym next ∙ none_at I (terminator_of I) at g)) ]

      pub stands : Stands m (separator_of I) (count + 1) z placer tally
      stands =
          let n = on.number in
          let f = on.few in
          let r = on.room in
          let l = before_end in
          let b = few_bytes in
          record { placed = on.placed; counted = on.counted; only = on.only; number = omega arith; few = omega arith; few_lines = omega arith }

      all : segments_of I ≡ segments_in z ++ (s ∷ segments_from (terminator_of I) (s.place + length s.bytes + 1) I)
      all = on.parted ∙ ap (λ (l : List Segment). segments_in z ++ l) next

      at_number : count + 1 ≡ suc (length z)
      at_number = let n = on.number in omega arith

      quiet_now : Quiet m I (count + 1)
      quiet_now = let e : suc count ≡ count + 1 = omega arith in subst (Quiet m I) e on.quiet

      pub refused : (o : Option Spot) (f : Fault) → Placement m (separator_of I) z s o → check_by m (separator_of I) (component_of I) (count + 1) z s o ≡ Err f → First (Met m I) f
      refused o f h e = turn_refused m I u sound z s (segments_from (terminator_of I) (s.place + length s.bytes + 1) I) all on.only o h (count + 1) at_number quiet_now f e

      pub passed : (placed : Placed) (placer' : Placer) (tally' : Tally) (loops' : ℕ) → check_by m (separator_of I) (component_of I) (count + 1) z s (Some (spot_for placed)) ≡ Ok (spot_for placed)
          → Placement m (separator_of I) z s (Some (spot_for placed)) → HasPlaced m placer' (marks_in (separator_of I) (segments_in z) ++ (mark_in (separator_of I) s ∷ [])) → TallyIs m (separator_of I) (z ++ ((s, spot_for placed) ∷ [])) tally'
          → loops' ≡ loops + cond (eqb placed.around (count + 1)) 1 0
          → Underway m I (count + 1) loops' (s.place + length s.bytes + 1) placer' tally' (z ++ ((s, spot_for placed) ∷ []))
      passed placed placer' tally' loops' e h p t o =
          let q : PlacedSegment = (s, spot_for placed) in
          let turn = turn_passed m I u sound z s (segments_from (terminator_of I) (s.place + length s.bytes + 1) I) all on.only (Some (spot_for placed)) h (count + 1) at_number quiet_now (spot_for placed) e in
          let n = on.number in
          let f = on.few in
          let r = on.room in
          record {
            parted = all ∙ sym (append_assoc (segments_in z) (s ∷ []) (segments_from (terminator_of I) (s.place + length s.bytes + 1) I)) ∙ ap (λ (l : List Segment). l ++ segments_from (terminator_of I) (s.place + length s.bytes + 1) I) (sym (segments_more z q));
            number = length-append z (q ∷ []) ∙ (let k = on.number in omega arith);
            few = omega arith;
            within = omega arith;
            placed = subst (HasPlaced m placer') (sym (marks_more (separator_of I) z q)) p;
            counted = t;
            only = turn.2;
            quiet = turn.0;
            opened = o ∙ (λ i. on.opened i + cond (eqb placed.around (at_number i)) 1 0) ∙ sym (loops_in_push z q);
            room = more_room q refl;
          }
        where
          more_room : (q : PlacedSegment) → q.0 ≡ s → 4 * lines_in (separator_of I) (z ++ (q ∷ [])) ≤ s.place + length s.bytes + 1
          more_room q same = go (cases_Bool (is_line (separator_of I) q))
            where
              go : (is_line (separator_of I) q ≡ true) ⊎ (is_line (separator_of I) q ≡ false) → 4 * lines_in (separator_of I) (z ++ (q ∷ [])) ≤ s.place + length s.bytes + 1
              go (inl y) =
                  let c = count_push (is_line (separator_of I)) z q in
                  let one : ◌≡◌ {A = ℕ} (cond (is_line (separator_of I) q) 1 0) 1 = cond-true (is_line (separator_of I) q) 1 0 y in
                  let long : 3 ≤ length s.bytes = subst (λ (v : Segment). 3 ≤ length v.bytes) same (line_long (separator_of I) q y) in
                  let r = on.room in
                  omega arith
              go (inr y) =
                  let c = count_push (is_line (separator_of I)) z q in
                  let none : ◌≡◌ {A = ℕ} (cond (is_line (separator_of I) q) 1 0) 0 = cond-false (is_line (separator_of I) q) 1 0 y in
                  let r = on.room in
                  omega arith

    -- the end
    module _ (end : segments_from (terminator_of I) at I ≡ []) where
      all_judged : segments_in z ≡ segments_of I
      all_judged = sym (on.parted ∙ ap (λ (l : List Segment). segments_in z ++ l) end ∙ append-nil (segments_in z))

      quiet_end : Quiet m I (suc (length z))
      quiet_end = subst (λ (n : ℕ). Quiet m I (suc n)) (sym on.number) on.quiet

      pub begun : OnlyBegun (label_of m) (rows_of m) (marks_in (separator_of I) (segments_in z)) → First (Met m I) (fault 7 (count + 1) 0 (length I))
      begun d =
          let e : suc (length z) ≡ count + 1 = (let n = on.number in omega arith) in
          subst (λ (k : ℕ). First (Met m I) (fault 7 k 0 (length I))) e
          (ends_refused m I u sound z all_judged quiet_end (subst (λ (l : List Segment). OnlyBegun (label_of m) (rows_of m) (marks_in (separator_of I) l)) all_judged d))

      pub whole : (j : Judgment) → j.totals.segments ≡ count → j.loops ≡ loops → j.totals.sets ≡ tally.counts.sets → j.totals.lines ≡ tally.counts.lines → j.totals.sum ≡ tally.counts.sum
          → OneDerivation (label_of m) (rows_of m) (marks_in (separator_of I) (segments_in z)) → JudgedSo m I j
      whole j a b c d e one =
          let one' = subst (λ (l : List Segment). OneDerivation (label_of m) (rows_of m) (marks_in (separator_of I) l)) all_judged one in
          record {
            regular = ends_regular m I u sound z all_judged quiet_end one';
            derivation = z;
            derived = (derived_whole m I z on.only all_judged one').0;
            one = one';
            segments = a ∙ sym on.number;
            loops = b ∙ on.opened;
            sets = c ∙ on.counted.sets;
            lines = d ∙ on.counted.lines;
            sum = e ∙ on.counted.sum;
          }
