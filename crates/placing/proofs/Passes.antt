-- One segment after the other: what was placed so far, and what follows of it.
use Rattle.std.proofs.Common.{◌≡◌, ℕ, suc, true, false, List, [], ◌∷◌, ◌++◌, length, is_some, Some, None, Option, Ok, Err, Result, refl, sym, ap, ◌∙◌, subst, true≢false, append_assoc, append-nil}
use Rattle.std.specs.Option.{ok_or}
use Rattle.std.specs.Result.{is_ok}
use Rattle.x12.specs.Header.{separator_of, terminator_of}
use Rattle.x12.specs.Segments.{Segment, segments_of, segments_from}
use Rattle.x12.specs.Causes.{fault}
use Rattle.x12.specs.Rank.{First, NoneOf}
use Rattle.grammar.specs.Marks.{Mark}
use Rattle.grammar.specs.Theorems.{OneDerivation, OnlyBegun}
use Rattle.guide.specs.Meaning.{Meaning}
use Rattle.guide.specs.Asked.{rows_of, label_of}
use Rattle.placing.specs.declared.faults.SegmentFault.{SegmentFault}
use Rattle.placing.specs.declared.placer.Placed.{Placed}
use Rattle.placing.specs.declared.placer.Placer.{Placer}
use Rattle.placing.specs.Placing.{HasPlaced, FitsNowhere, PlacesNext}
use Rattle.placing.specs.Structure.{mark_in, marks_in, no_row_takes, ends_early, StructureMet}
use Rattle.placing.proofs.Placements.{marks_length}
use Rattle.placing.proofs.Structures.{map-append, misfit_first, no_misfit}

-- the segments of an interchange, those that were placed first
pub one_on : (all done rest behind : List Segment) (s : Segment) → all ≡ done ++ rest → rest ≡ s ∷ behind → all ≡ (done ++ (s ∷ [])) ++ behind
one_on all done rest behind s e n = e ∙ ap (λ (l : List Segment). done ++ l) n ∙ sym (append_assoc done (s ∷ []) behind)

module _ (m : Meaning) (p p' : Placer) (separator n : ℕ) (mk : Mark) (r : Option Placed) (done : List Segment) (s : Segment)
    (next : PlacesNext m p p' n mk r) (old : HasPlaced m p (marks_in separator done)) (e : n ≡ suc (length done)) (same : mk ≡ mark_in separator s) where
  number : n ≡ suc (length (marks_in separator done))
  number = e ∙ ap suc (sym (marks_length separator done))

  pub placed_on : is_some r ≡ true → HasPlaced m p' (marks_in separator (done ++ (s ∷ [])))
  placed_on h =
      subst (HasPlaced m p') ((λ i. marks_in separator done ++ (same i ∷ [])) ∙ sym (map-append separator done (s ∷ []))) (go r h next)
    where
      go : (r : Option Placed) → is_some r ≡ true → PlacesNext m p p' n mk r → HasPlaced m p' (marks_in separator done ++ (mk ∷ []))
      go None h x = absurd (true≢false (sym h))
      go (Some y) h x = (x (marks_in separator done) old number).2

  pub not_placed : is_some r ≡ false → FitsNowhere m (marks_in separator done) (mark_in separator s)
  not_placed h = subst (FitsNowhere m (marks_in separator done)) same (go r h next)
    where
      go : (r : Option Placed) → is_some r ≡ false → PlacesNext m p p' n mk r → FitsNowhere m (marks_in separator done) mk
      go None h x = (x (marks_in separator done) old number).0
      go (Some y) h x = absurd (true≢false h)

-- whether there is a place, by the answer that has a fault in its stead
abbrev fault_in : SegmentFault → Result Placed SegmentFault → SegmentFault
fault_in d (Ok y) = d
fault_in d (Err f) = f

pub placed_if : (r : Option Placed) (y : Placed) (f : SegmentFault) → Ok y ≡ ok_or r f → is_some r ≡ true
placed_if None y f e = absurd (true≢false (ap is_ok e))
placed_if (Some x) y f e = refl

pub misplaced_if : (r : Option Placed) (f g : SegmentFault) → Err g ≡ ok_or r f → (is_some r ≡ false) × (g ≡ f)
misplaced_if None f g e = (refl, ap (fault_in f) e)
misplaced_if (Some x) f g e = absurd (true≢false (sym (ap is_ok e)))

-- in the words of the interchange
module _ (m : Meaning) (I : List ℕ) (terminator separator : ℕ) (et : terminator ≡ terminator_of I) (es : separator ≡ separator_of I) (done : List Segment) where
  pub refused_at : (s : Segment) (at k : ℕ) (behind : List Segment) → segments_from terminator 0 I ≡ done ++ segments_from terminator at I → segments_from terminator at I ≡ s ∷ behind → k ≡ suc (length done)
      → FitsNowhere m (marks_in separator done) (mark_in separator s) → First (StructureMet m I) (fault 6 k 0 s.place)
  refused_at s at k behind e n c f =
      misfit_first m I 6 (suc (length done)) s.place (fault 6 k 0 s.place)
      (no_row_takes done s behind
      (ap (λ (t : ℕ). segments_from t 0 I) (sym et) ∙ e ∙ ap (λ (l : List Segment). done ++ l) n)
      (subst (λ (x : ℕ). FitsNowhere m (marks_in x done) (mark_in x s)) es f))
      (λ i. fault 6 (c i) 0 s.place)

  all_done : (at : ℕ) → segments_from terminator 0 I ≡ done ++ segments_from terminator at I → segments_from terminator at I ≡ [] → done ≡ segments_of I
  all_done at e n = sym (ap (λ (t : ℕ). segments_from t 0 I) (sym et) ∙ e ∙ ap (λ (l : List Segment). done ++ l) n ∙ append-nil done)

  pub ended_early : (at k : ℕ) → segments_from terminator 0 I ≡ done ++ segments_from terminator at I → segments_from terminator at I ≡ [] → k ≡ suc (length done)
      → OnlyBegun (label_of m) (rows_of m) (marks_in separator done) → First (StructureMet m I) (fault 7 k 0 (length I))
  ended_early at k e n c o =
      let d = all_done at e n in
      misfit_first m I 7 (suc (length (segments_of I))) (length I) (fault 7 k 0 (length I))
      (ends_early (subst (λ (x : ℕ × List Segment). OnlyBegun (label_of m) (rows_of m) (marks_in x.0 x.1)) (λ i. (es i, d i)) o))
      (λ i. fault 7 ((c ∙ ap (λ (l : List Segment). suc (length l)) d) i) 0 (length I))

  pub all_placed : (at k : ℕ) → segments_from terminator 0 I ≡ done ++ segments_from terminator at I → segments_from terminator at I ≡ [] → length done ≡ k
      → OneDerivation (label_of m) (rows_of m) (marks_in separator done) → NoneOf (StructureMet m I) × (k ≡ length (segments_of I))
  all_placed at k e n c o =
      let d = all_done at e n in (
        no_misfit m I (subst (λ (x : ℕ × List Segment). OneDerivation (label_of m) (rows_of m) (marks_in x.0 x.1)) (λ i. (es i, d i)) o),
        sym c ∙ ap length d,
      )
