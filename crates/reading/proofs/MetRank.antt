-- Where the faults that an interchange meets lie, and how they rank by it.
use Rattle.std.proofs.Common.{◌≡◌, ℕ, suc, ◌<◌, ◌≤◌, List, ◌∷◌, ◌++◌, length, sym, ◌∙◌, inl, inr, arith}
use Rattle.x12.specs.declared.faults.Fault.{Fault}
use Rattle.x12.specs.Header.{separator_of}
use Rattle.x12.specs.Segments.{Segment, segments_of}
use Rattle.x12.specs.Rank.{phase, Before}
use Rattle.x12.proofs.SegmentFaults.{met_rank}
use Rattle.guide.specs.Meaning.{Meaning}
use Rattle.placing.specs.Placed.{PlacedSegment, segments_in}
use Rattle.placing.proofs.Joined.{misfit_rank}
use Rattle.placing.proofs.SegmentMisfits.{same_part}
use Rattle.placing.proofs.Structures.{parted}
use Rattle.placing.proofs.Placements.{segments_length}
use Rattle.elements.proofs.ElementsLie.{element_lies}
use Rattle.totals.proofs.TotalsLie.{totals_lie}
use Rattle.reading.specs.Met.{UpperMet, Met}

-- faults of phase 0 rank by segment, and at one segment by layer
pub by_segment : (f g : Fault) → phase f.number ≡ 0 → phase g.number ≡ 0 → f.segment < g.segment → Before f g
by_segment f g a b l = inr (a ∙ sym b, inl l)

pub by_layer : (f g : Fault) → phase f.number ≡ 0 → phase g.number ≡ 0 → f.segment ≡ g.segment → f.layer < g.layer → Before f g
by_layer f g a b s l = inr (a ∙ sym b, inr (s, inl l))

module _ (m : Meaning) (I : List ℕ) where
  -- a fault of an element or of a total is of phase 0 and layer 3 or 4, at the segment behind those before it
  pub upper_rank : (f : Fault) (u : UpperMet m I f) → (phase f.number ≡ 0) × (3 ≤ f.layer) × (f.segment ≡ suc (length u.0))
  upper_rank f (z, p, r, inl x) = let t = element_lies m (separator_of I) (suc (length z)) z p f x in let l = t.1 in (t.0, omega arith, t.2)
  upper_rank f (z, p, r, inr x) = let t = totals_lie m (separator_of I) (suc (length z)) z p f x in let l = t.1 in (t.0, omega arith, t.2)

  -- all faults of the layers 1 to 4 are of phase 0
  pub met_phase : (f : Fault) → Met m I f → phase f.number ≡ 0
  met_phase f (inl (inl x)) = (met_rank I f x).0
  met_phase f (inl (inr x)) = (misfit_rank m I f x).0
  met_phase f (inr x) = (upper_rank f x).0

  -- the segments that stand behind as many are the same, and so are those before them
  pub same_parting : (z z' : List PlacedSegment) (s s' : Segment) (after after' : List Segment) → segments_of I ≡ segments_in z ++ (s ∷ after) → segments_of I ≡ segments_in z' ++ (s' ∷ after')
      → length z' ≡ length z → (segments_in z' ≡ segments_in z) × (s' ≡ s)
  same_parting z z' s s' after after' e e' l =
      same_part (segments_in z') (segments_in z) s' s (segments_length z' ∙ (l ∙ sym (segments_length z))) (parted (segments_in z') s' after' (segments_in z) s after (sym e' ∙ e))
