-- The faults of structure at one segment, and those at the end of an interchange.
use Rattle.std.proofs.Common.{◌≡◌, ℕ, suc, List, [], ◌∷◌, ◌++◌, length, sym, refl, ap, ◌∙◌, subst, inl, inr, arith, length-append}
use Rattle.x12.specs.declared.faults.Fault.{Fault}
use Rattle.x12.specs.Header.{separator_of}
use Rattle.x12.specs.Segments.{Segment, segments_of}
use Rattle.x12.specs.Causes.{fault}
use Rattle.x12.specs.Rank.{First, NoneOf}
use Rattle.grammar.specs.Interchange.{Begins}
use Rattle.grammar.specs.Theorems.{OnlyBegun}
use Rattle.guide.specs.Meaning.{Meaning}
use Rattle.guide.specs.Asked.{rows_of, label_of}
use Rattle.placing.specs.Placing.{FitsNowhere}
use Rattle.placing.specs.Structure.{mark_in, marks_in, Misfits, no_row_takes, ends_early, StructureMet}
use Rattle.placing.proofs.Structures.{Parted, parted, misfit_first}

-- lists of the same length that part a list at an item are the same, and so are the items
pub same_part : {X : Type 0} (a b : List X) (x y : X) → length a ≡ length b → Parted a x b y → (a ≡ b) × (x ≡ y)
same_part a b x y l (inl t) = let h = ap length t.1 ∙ length-append a (x ∷ t.0) in absurd (omega arith)
same_part a b x y l (inr (inl t)) = let h = ap length t.1 ∙ length-append b (y ∷ t.0) in absurd (omega arith)
same_part a b x y l (inr (inr t)) = t

module _ (m : Meaning) (I : List ℕ) where
  module _ (before : List Segment) (s : Segment) (after : List Segment) (all : segments_of I ≡ before ++ (s ∷ after)) where
    -- where the segment fits nowhere, its fault is the first of those at it
    pub misfit_here : FitsNowhere m (marks_in (separator_of I) before) (mark_in (separator_of I) s)
        → First (λ f. StructureMet m I f × (f.segment ≡ suc (length before))) (fault 6 (suc (length before)) 0 s.place)
    misfit_here h =
        let t = misfit_first m I 6 (suc (length before)) s.place (fault 6 (suc (length before)) 0 s.place) (no_row_takes before s after all h) refl in
        ((t.0, refl), λ g x. t.1 g x.0)

    fits_here : {n k p : ℕ} → Begins (label_of m) (rows_of m) (marks_in (separator_of I) before ++ (mark_in (separator_of I) s ∷ [])) → Misfits m I n k p → k ≡ suc (length before) → ⊥
    fits_here b (no_row_takes a y u q f) e =
        let t = same_part a before y s (omega arith) (parted a y u before s after (sym q ∙ all)) in
        f.1 (subst (λ (z : List Segment × Segment). Begins (label_of m) (rows_of m) (marks_in (separator_of I) z.0 ++ (mark_in (separator_of I) z.1 ∷ []))) (λ i. (sym t.0 i, sym t.1 i)) b)
    fits_here b (ends_early o) e = let h = ap length all ∙ length-append before (s ∷ after) in omega arith

    -- where the marks up to the segment begin a derivation, no fault of structure stands at it
    pub no_misfit_here : Begins (label_of m) (rows_of m) (marks_in (separator_of I) before ++ (mark_in (separator_of I) s ∷ []))
        → NoneOf (λ f. StructureMet m I f × (f.segment ≡ suc (length before)))
    no_misfit_here b f ((n, k, p, x, q), e) = fits_here b x (sym (ap (λ (g : Fault). g.segment) q) ∙ e)

  -- where all marks only begin a derivation, the fault stands behind the last segment
  pub misfit_at_end : OnlyBegun (label_of m) (rows_of m) (marks_in (separator_of I) (segments_of I)) → First (StructureMet m I) (fault 7 (suc (length (segments_of I))) 0 (length I))
  misfit_at_end o = misfit_first m I 7 (suc (length (segments_of I))) (length I) (fault 7 (suc (length (segments_of I))) 0 (length I)) (ends_early o) refl
