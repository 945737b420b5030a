-- The turns of a loop over the segments: no fault is met before segment k.
use Rattle.std.proofs.Common.{◌≡◌, ℕ, suc, ◌<◌, ◌≤◌, ◌⊎◌, List, [], ◌∷◌, ◌++◌, length, Some, Ok, Err, Option, sym, ap, ◌∙◌, subst, inl, inr, arith, length-append}
use Rattle.std.proofs.lemmas.Bool.{cases_lt}
use Rattle.x12.specs.declared.faults.Fault.{Fault}
use Rattle.x12.specs.Header.{separator_of}
use Rattle.x12.specs.Segments.{Segment, segments_of}
use Rattle.x12.specs.Causes.{fault}
use Rattle.x12.specs.Checks.{header_check}
use Rattle.x12.specs.Rank.{Before, First, NoneOf}
use Rattle.x12.specs.Met.{Met as BytesMet}
use Rattle.x12.proofs.Judged.{Judged}
use Rattle.x12.proofs.Meets.{header_refused}
use Rattle.x12.proofs.SegmentFaults.{met_rank, met_from_one}
use Rattle.grammar.specs.Derivations.{Spot}
use Rattle.grammar.specs.Theorems.{OneDerivation, OnlyBegun}
use Rattle.guide.specs.Meaning.{Meaning}
use Rattle.guide.specs.Asked.{rows_of, label_of}
use Rattle.placing.specs.Structure.{marks_in, StructureMet}
use Rattle.placing.specs.Placed.{PlacedSegment, segments_in, OnlySo}
use Rattle.placing.proofs.Joined.{misfit_rank, header_low, header_first as lower-header-first}
use Rattle.placing.proofs.SegmentMisfits.{misfit_at_end}
use Rattle.placing.proofs.Structures.{no_misfit}
use Rattle.placing.proofs.Placements.{segments_length, only_more}
use Rattle.reading.specs.Met.{UpperMet, Met, Regular}
use Rattle.reading.specs.Judge.{full_check}
use Rattle.reading.proofs.MetRank.{by_segment, by_layer, upper_rank, met_phase}
use Rattle.reading.specs.Turns.{Placement}
use Rattle.reading.proofs.AtSegment.{Here, full_judged}

-- every fault that is met stands at segment k or behind it
abbrev pub Quiet : Meaning → List ℕ → ℕ → Type 0
Quiet m I k = (f : Fault) → Met m I f → k ≤ f.segment

module _ (m : Meaning) (I : List ℕ) where
  -- behind a sound header all faults stand at segments
  pub quiet_start : (u : Unit {0}) → header_check I ≡ Ok u → Quiet m I 1
  quiet_start u sound f (inl (inl x)) = (met_from_one I u sound f x).0
  quiet_start u sound f (inl (inr x)) = (misfit_rank m I f x).2
  quiet_start u sound f (inr x) = let q = (upper_rank m I f x).2 in omega arith

  -- a segment without a fault is passed
  pub quiet_on : (k : ℕ) → Quiet m I k → NoneOf (Here m I k) → Quiet m I (suc k)
  quiet_on k q n f x = go (cases_lt k f.segment)
    where
      go : (k < f.segment) ⊎ (f.segment ≤ k) → suc k ≤ f.segment
      go (inl l) = l
      go (inr l) = let h = q f x in absurd (n f (x, omega arith))

  -- the first fault of segment k is the first of all
  pub first_here : (k : ℕ) (f : Fault) → Quiet m I k → First (Here m I k) f → First (Met m I) f
  first_here k f q h = (h.0.0, λ g y. go g y (cases_lt k g.segment))
    where
      go : (g : Fault) → Met m I g → (k < g.segment) ⊎ (g.segment ≤ k) → Before f g
      go g y (inl l) = let e : f.segment ≡ k = h.0.1 in by_segment f g (met_phase m I f h.0.0) (met_phase m I g y) (omega arith)
      go g y (inr l) = let a = q g y in h.1 g (y, omega arith)

  -- a fault of the header is the first of all
  pub header_first : (f : Fault) → header_check I ≡ Err f → First (Met m I) f
  header_first f e = (inl lower.0, λ g y. elim y [ inl a ↦ lower.1 g a | inr b ↦ before_upper g b (cases_lt f.segment g.segment) ])
    where
      lower : First (λ g. BytesMet I g ⊎ StructureMet m I g) f
      lower = lower-header-first m I f e

      before_upper : (g : Fault) → UpperMet m I g → (f.segment < g.segment) ⊎ (g.segment ≤ f.segment) → Before f g
      before_upper g b (inl l) = by_segment f g (met_rank I f (header_refused I f e).0).0 (upper_rank m I g b).0 l
      before_upper g b (inr l) =
          let r = met_rank I f (header_refused I f e).0 in
          let t = upper_rank m I g b in
          let low = header_low m I f e in
          let c = r.1 in
          let d = t.1 in
          let k = t.2 in
          by_layer f g r.0 t.0 (omega arith) (omega arith)

  -- one turn: the check of segment k, which is s and follows the segments z
  module _ (u : Unit {0}) (sound : header_check I ≡ Ok u) (z : List PlacedSegment) (s : Segment) (after : List Segment) (all : segments_of I ≡ segments_in z ++ (s ∷ after))
      (only : OnlySo m (separator_of I) z) (o : Option Spot) (placed : Placement m (separator_of I) z s o) (k : ℕ) (at : k ≡ suc (length z)) (quiet : Quiet m I k) where
    turn_judged : Judged (Here m I k) (λ spot. o ≡ Some spot) (full_check m I k z s o)
    turn_judged = subst (λ (n : ℕ). Judged (Here m I n) (λ spot. o ≡ Some spot) (full_check m I n z s o)) (sym at) (full_judged m I z s after all only u sound o placed)

    -- a fault that it gives is the first of all
    pub turn_refused : (f : Fault) → full_check m I k z s o ≡ Err f → First (Met m I) f
    turn_refused f e = first_here k f quiet (subst (Judged (Here m I k) (λ spot. o ≡ Some spot)) e turn_judged)

    -- where it gives none the segment is passed, and placing gave it this row and these loops
    pub turn_passed : (spot : Spot) → full_check m I k z s o ≡ Ok spot → Quiet m I (suc k) × (o ≡ Some spot) × OnlySo m (separator_of I) (z ++ ((s, spot) ∷ []))
    turn_passed spot e =
        let j = subst (Judged (Here m I k) (λ spot. o ≡ Some spot)) e turn_judged in
        let h : Placement m (separator_of I) z s (Some spot) = subst (Placement m (separator_of I) z s) j.1 placed in
        (quiet_on k quiet j.0, j.1, only_more m (separator_of I) z s spot only h.1)

  -- the end: all segments are passed
  module _ (u : Unit {0}) (sound : header_check I ≡ Ok u) (z : List PlacedSegment) (all : segments_in z ≡ segments_of I) (quiet : Quiet m I (suc (length z))) where
    as_many : length z ≡ length (segments_of I)
    as_many = sym (segments_length z) ∙ ap length all

    -- no fault of bytes, elements or totals stands behind the last segment
    no_bytes : NoneOf (BytesMet I)
    no_bytes f x = let h = (met_from_one I u sound f x).1 in let q = quiet f (inl (inl x)) in let l = as_many in omega arith

    no_upper : NoneOf (UpperMet m I)
    no_upper f x =
        let r = (upper_rank m I f x).2 in
        let q = quiet f (inr x) in
        let l = as_many in
        let p = ap length x.2.all ∙ length-append (segments_in x.0) (x.1.0 ∷ x.2.behind) in
        let n = segments_length x.0 in
        omega arith

    -- one derivation: no fault at all
    pub ends_regular : OneDerivation (label_of m) (rows_of m) (marks_in (separator_of I) (segments_of I)) → Regular m I
    ends_regular d f (inl (inl x)) = no_bytes f x
    ends_regular d f (inl (inr x)) = no_misfit m I d f x
    ends_regular d f (inr x) = no_upper f x

    -- no derivation yet: the fault at the end is the first
    pub ends_refused : OnlyBegun (label_of m) (rows_of m) (marks_in (separator_of I) (segments_of I)) → First (Met m I) (fault 7 (suc (length z)) 0 (length I))
    ends_refused d = (inl (inr end.0), λ g y. elim y [ inl (inl a) ↦ absurd (no_bytes g a) | inl (inr b) ↦ end.1 g b | inr c ↦ absurd (no_upper g c) ])
      where
        end : First (StructureMet m I) (fault 7 (suc (length z)) 0 (length I))
        end = subst (λ (n : ℕ). First (StructureMet m I) (fault 7 (suc n) 0 (length I))) (sym as_many) (misfit_at_end m I d)
