-- The answers of the layers one after the other, and the check of all four.
use Rattle.std.proofs.Common.{◌≡◌, ℕ, suc, ◌<◌, ◌≤◌, Bool, true, false, cond, leb, List, [], ◌∷◌, ◌++◌, length, IfSome, Some, None, Ok, Err, Option, Result, sym, refl, ap, ◌∙◌, subst, arith}
use Rattle.x12.specs.declared.faults.Fault.{Fault}
use Rattle.x12.specs.Lists.{and_then}
use Rattle.x12.specs.Segments.{Segment}
use Rattle.x12.specs.Causes.{fault}
use Rattle.x12.specs.Checks.{segment_check}
use Rattle.grammar.specs.Derivations.{Spot}
use Rattle.guide.specs.Meaning.{Meaning}
use Rattle.guide.specs.Law.{Lawful}
use Rattle.guide.specs.Asked.{over}
use Rattle.placing.specs.declared.placer.Placed.{Placed}
use Rattle.placing.specs.declared.placer.Placer.{Placer}
use Rattle.placing.specs.Stages.{spot_for}
use Rattle.placing.specs.Placing.{HasPlaced, PlacesNext}
use Rattle.placing.specs.Structure.{mark_in, marks_in}
use Rattle.placing.specs.Placed.{PlacedSegment, segments_in, OnlySo, sum_of, has_row}
use Rattle.placing.proofs.FewSets.{few_sets}
use Rattle.placing.proofs.Placements.{only_more, placed_more, segments_length, marks_length}
use Rattle.elements.specs.Rules.{value}
use Rattle.elements.specs.Tests.{is_row_lacking}
use Rattle.elements.specs.Checks.{elements_check}
use Rattle.seen.specs.ControlNumbers.{numbers_of as control_numbers_of}
use Rattle.seen.specs.LineNumbers.{numbers_of as line_numbers_of}
use Rattle.totals.specs.declared.open_line.OpenLine.{OpenLine}
use Rattle.totals.specs.declared.tally.Tally.{Tally}
use Rattle.totals.specs.Words.{quantity, set_of, group_of, is_line, lines_in, acknowledged, Line, last_line}
use Rattle.totals.specs.Tests.{totals_check, every_of}
use Rattle.totals.specs.Tally.{open_in, TallyIs}
use Rattle.totals.proofs.Pushes.{count_since, values_length}
use Rattle.totals.proofs.More.{sum_small, acknowledged_small, line_short}
use Rattle.reading.specs.Judge.{spot_check}
use Rattle.reading.specs.Turns.{Placement, or_misplaced, check_by}

never : {A : Type 0} (a : A) (f : Fault) → Ok a ≡ Err f → ⊥
never a f e = let z : ◌≡◌ {A = ℕ} 0 1 = cc in omega arith

never' : {A : Type 0} (a : A) (f : Fault) → Err f ≡ Ok a → ⊥
never' a f e = let z : ◌≡◌ {A = ℕ} 0 1 = cc in omega arith

same_ok : {A : Type 0} (a b : A) → ◌≡◌ {A = Result A Fault} (Ok a) (Ok b) → a ≡ b
same_ok a b e = cc

same_err : {A B : Type 0} (f h : Fault) → ◌≡◌ {A = Result A Fault} (Err f) (Err h) → ◌≡◌ {A = Result B Fault} (Err f) (Err h)
same_err f h e = let q : f ≡ h = cc in ap Err q

module _ (m : Meaning) (x c k : ℕ) (z : List PlacedSegment) (s : Segment) where
  abbrev elements_at : Placed → Result (Unit {0}) Fault
  elements_at p = elements_check m x k (is_row_lacking m x z (s, spot_for p)) p.row s

  abbrev totals_at : Placed → Result (Unit {0}) Fault
  totals_at p = totals_check m x k z (s, spot_for p)

  -- up to the elements
  abbrev lower : Result (Unit {0}) Fault → Option Placed → Result Placed Fault
  lower r o = and_then (and_then r (λ u. or_misplaced k s.place o)) (λ p. and_then (elements_at p) (λ u. Ok p))

  -- all four
  abbrev whole : Result (Unit {0}) Fault → Option Spot → Result Spot Fault
  whole r o = and_then r (λ u. spot_check m x k z s o)

  refused_at : (r : Result (Unit {0}) Fault) (o : Option Placed) (f : Fault) → lower r o ≡ Err f → whole r (over spot_for o) ≡ Err f
  refused_at (Err h) o f e = same_err h f e
  refused_at (Ok u) None f e = same_err (fault 6 k 0 s.place) f e
  refused_at (Ok u) (Some p) f e = go (elements_at p) refl
    where
      go : (r : Result (Unit {0}) Fault) → elements_at p ≡ r → and_then (and_then (elements_at p) (λ u. totals_at p)) (λ u. Ok (spot_for p)) ≡ Err f
      go (Ok v) q = absurd (never p f (sym (ap (λ (t : Result (Unit {0}) Fault). and_then t (λ u. Ok p)) q) ∙ e))
      go (Err h) q = ap (λ (t : Result (Unit {0}) Fault). and_then (and_then t (λ u. totals_at p)) (λ u. Ok (spot_for p))) q ∙ same_err h f (sym (ap (λ (t : Result (Unit {0}) Fault). and_then t (λ u. Ok p)) q) ∙ e)

  -- where the elements pass, the segment has this place
  passed_at : (r : Result (Unit {0}) Fault) (o : Option Placed) (p : Placed) → lower r o ≡ Ok p → (r ≡ Ok tt) × (o ≡ Some p) × (elements_at p ≡ Ok tt)
  passed_at (Err h) o p e = absurd (never' p h e)
  passed_at (Ok u) None p e = absurd (never' p (fault 6 k 0 s.place) e)
  passed_at (Ok u) (Some q) p e = go (elements_at q) refl
    where
      go : (r : Result (Unit {0}) Fault) → elements_at q ≡ r → (◌≡◌ {A = Result (Unit {0}) Fault} (Ok u) (Ok tt)) × (Some q ≡ Some p) × (elements_at p ≡ Ok tt)
      go (Ok v) h =
          let same : q ≡ p = same_ok q p (sym (ap (λ (t : Result (Unit {0}) Fault). and_then t (λ u. Ok q)) h) ∙ e) in
          (refl, ap Some same, subst (λ (a : Placed). elements_at a ≡ Ok tt) same h)
      go (Err f) h = absurd (never' p f (sym (ap (λ (t : Result (Unit {0}) Fault). and_then t (λ u. Ok q)) h) ∙ e))

  pub lower_refused : (o : Option Placed) (f : Fault) → lower (segment_check x c k s) o ≡ Err f → check_by m x c k z s (over spot_for o) ≡ Err f
  lower_refused o f e = refused_at (segment_check x c k s) o f e

  pub lower_passed : (o : Option Placed) (p : Placed) → lower (segment_check x c k s) o ≡ Ok p → (segment_check x c k s ≡ Ok tt) × (o ≡ Some p) × (elements_at p ≡ Ok tt)
  lower_passed o p e = passed_at (segment_check x c k s) o p e

  -- then the totals decide
  pub upper_refused : (p : Placed) (f : Fault) → segment_check x c k s ≡ Ok tt → elements_at p ≡ Ok tt → totals_at p ≡ Err f → check_by m x c k z s (Some (spot_for p)) ≡ Err f
  upper_refused p f a b t =
      (λ i. and_then (a i) (λ u. and_then (and_then (b i) (λ u. totals_at p)) (λ u. Ok (spot_for p)))) ∙ ap (λ (r : Result (Unit {0}) Fault). and_then r (λ u. Ok (spot_for p))) t

  pub upper_passed : (p : Placed) (u : Unit {0}) → segment_check x c k s ≡ Ok tt → elements_at p ≡ Ok tt → totals_at p ≡ Ok u → check_by m x c k z s (Some (spot_for p)) ≡ Ok (spot_for p)
  upper_passed p u a b t =
      (λ i. and_then (a i) (λ u. and_then (and_then (b i) (λ u. totals_at p)) (λ u. Ok (spot_for p)))) ∙ ap (λ (r : Result (Unit {0}) Fault). and_then r (λ u. Ok (spot_for p))) t

-- what placing gave, in the words of the reading
module _ (m : Meaning) (x k : ℕ) (z : List PlacedSegment) (s : Segment) (p p' : Placer) (old : HasPlaced m p (marks_in x (segments_in z))) (at : k ≡ suc (length z)) where
  as_marks : k ≡ suc (length (marks_in x (segments_in z)))
  as_marks = at ∙ ap suc (sym (marks_length x (segments_in z) ∙ segments_length z))

  pub placement : (o : Option Placed) → PlacesNext m p p' k (mark_in x s) o → Placement m x z s (over spot_for o)
  placement None h = (h (marks_in x (segments_in z)) old as_marks).0
  placement (Some q) h = let t = h (marks_in x (segments_in z)) old as_marks in (t.0, t.1)

  pub placed_behind : (q : Placed) → PlacesNext m p p' k (mark_in x s) (Some q) → HasPlaced m p' (marks_in x (segments_in z) ++ (mark_in x s ∷ []))
  placed_behind q h = (h (marks_in x (segments_in z)) old as_marks).2

-- the tally has room for one segment more
module _ (m : Meaning) (x : ℕ) (z : List PlacedSegment) (t : Tally) (is : TallyIs m x z t) where
  pub few_control_numbers : Lawful m → (s : Segment) (spot : Spot) → OnlySo m x z → Placement m x z s (Some spot) → spot.row ≡ 1 → length (control_numbers_of t.set_numbers) < 256
  few_control_numbers w s spot only h e =
      let n = ap length is.numbers_of_set ∙ values_length x (has_row 1) 2 (group_of z) in
      let f = few_sets m w x z (s, spot) (placed_more m x z s spot (only_more m x z s spot only h.1) h.0) e in
      omega arith

  pub few_line_numbers : lines_in x z < 16384 → length (line_numbers_of t.line_numbers) < 16384
  few_line_numbers l =
      let n = ap length is.numbers_of_lines ∙ values_length x (is_line x) 1 (set_of z) in
      let f = count_since (is_line x) (has_row 1) z in
      omega arith

  pub small_given : length z ≤ 65536 → IfSome t.line (λ l. l.given ≤ 655370000000000)
  small_given few = subst (λ (o : Option OpenLine). IfSome o (λ l. l.given ≤ 655370000000000)) (sym is.line) (go (last_line x z) (line_short x 1 z))
    where
      kept : (b : Bool) (l : Line) → length l.behind ≤ 65536 → IfSome {T = OpenLine} (cond b (Some (record { number = l.number; asked = quantity (value x l.line 2); given = sum_of (acknowledged x) l.behind })) None) (λ o. o.given ≤ 655370000000000)
      kept true l h = omega (arith, sum_small (acknowledged x) (acknowledged_small x) l.behind)
      kept false l h = tt

      go : (o : Option Line) → ((l : Line) → o ≡ Some l → length l.behind ≤ length z) → IfSome (open_in x o) (λ l. l.given ≤ 655370000000000)
      go None h = tt
      go (Some l) h = let b = h l refl in kept (every_of (λ (q : PlacedSegment). leb l.number q.1.outer) l.behind) l (omega arith)
