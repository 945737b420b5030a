-- The faults of the four layers at one segment: the check of a segment gives the first of them.
use Rattle.std.proofs.Common.{◌≡◌, ℕ, suc, List, [], ◌∷◌, ◌++◌, length, Some, None, Ok, Err, Option, Result, sym, refl, ◌∙◌, subst, inl, inr, arith}
use Rattle.x12.specs.declared.faults.Fault.{Fault}
use Rattle.x12.specs.Header.{separator_of, component_of}
use Rattle.x12.specs.Lists.{and_then}
use Rattle.x12.specs.Segments.{Segment, segments_of}
use Rattle.x12.specs.Causes.{fault}
use Rattle.x12.specs.Checks.{header_check, segment_check}
use Rattle.x12.specs.Rank.{First, NoneOf}
use Rattle.x12.specs.Met.{Met as BytesMet}
use Rattle.x12.proofs.Judged.{Or, Judged, Earlier, Anything, judged_then, judged_as}
use Rattle.x12.proofs.SegmentFaults.{met_rank, segment_met}
use Rattle.grammar.specs.Marks.{Mark}
use Rattle.grammar.specs.Derivations.{Spot}
use Rattle.grammar.specs.Interchange.{Derivation, Begins}
use Rattle.guide.specs.Meaning.{Meaning}
use Rattle.guide.specs.Asked.{rows_of, label_of}
use Rattle.placing.specs.Structure.{mark_in, marks_in, StructureMet}
use Rattle.placing.specs.Placed.{PlacedSegment, segments_in, spots_in, OnlySo}
use Rattle.placing.proofs.Joined.{misfit_rank}
use Rattle.placing.proofs.SegmentMisfits.{same_part, misfit_here, no_misfit_here}
use Rattle.placing.proofs.Structures.{parted}
use Rattle.placing.proofs.Placements.{segments_more, marks_more, segments_length, only_more, placed_more, same_placed}
use Rattle.elements.specs.Tests.{is_row_lacking}
use Rattle.elements.specs.Checks.{elements_check}
use Rattle.elements.specs.Fails.{ElementMet}
use Rattle.elements.proofs.Causes.{elements_judged}
use Rattle.elements.proofs.ElementsLie.{element_lies}
use Rattle.elements.proofs.Words.{some_not_none}
use Rattle.totals.specs.Tests.{totals_check}
use Rattle.totals.specs.Fails.{TotalsMet}
use Rattle.totals.proofs.TotalsJudged.{totals_judged}
use Rattle.totals.proofs.TotalsLie.{totals_lie}
use Rattle.reading.specs.Met.{Reached, UpperMet, Met}
use Rattle.reading.specs.Judge.{placed_check, spot_check, full_check}
use Rattle.reading.specs.Turns.{Placement}
use Rattle.reading.proofs.MetRank.{by_layer, upper_rank, same_parting}

-- the faults at segment k
abbrev pub Here : Meaning → List ℕ → ℕ → Fault → Type 0
Here m I k f = Met m I f × (f.segment ≡ k)

-- a check that hands on what was known before it
handed : {A : Type 0} (P : Fault → Type 0) (J : A → Type 0) (a : A) → J a → (r : Result (Unit {0}) Fault) → Judged P Anything r → Judged P J (and_then r (λ u. Ok a))
handed P J a j (Ok u) h = (h.0, j)
handed P J a j (Err f) h = h

-- a segment that is reached begins a derivation
reached_begins : (m : Meaning) (I : List ℕ) (z : List PlacedSegment) (p : PlacedSegment) → Reached m I z p
    → Begins (label_of m) (rows_of m) (marks_in (separator_of I) (segments_in z) ++ (mark_in (separator_of I) p.0 ∷ []))
reached_begins m I z p r =
    let t = r.placed in
    let spots : List Spot = spots_in (z ++ (p ∷ [])) ++ t.1 in
    (t.0, spots, subst (λ (l : List Mark). Derivation (label_of m) (rows_of m) (l ++ t.0) spots) (marks_more (separator_of I) z p) t.2)

module _ (m : Meaning) (I : List ℕ) (z : List PlacedSegment) (s : Segment) (after : List Segment) (all : segments_of I ≡ segments_in z ++ (s ∷ after)) (only : OnlySo m (separator_of I) z) where
  -- the segment with what placing gives it is reached
  reached_here : (spot : Spot) → Placement m (separator_of I) z s (Some spot) → Reached m I z (s, spot)
  reached_here spot h = record { behind = after; all = all; placed = placed_more m (separator_of I) z s spot (only_more m (separator_of I) z s spot only h.1) h.0 }

  -- and no other segment with that number
  reached_only : (spot : Spot) → Placement m (separator_of I) z s (Some spot) → (z' : List PlacedSegment) (p : PlacedSegment) → Reached m I z' p → length z' ≡ length z → (z' ≡ z) × (p ≡ (s, spot))
  reached_only spot h z' p r l =
      let t = same_parting m I z z' s p.0 after r.behind all r.all l in
      let e : segments_in (z' ++ (p ∷ [])) ≡ segments_in (z ++ ((s, spot) ∷ [])) = segments_more z' p ∙ ((λ i. t.0 i ++ (t.1 i ∷ [])) ∙ sym (segments_more z (s, spot))) in
      let same = same_placed m (separator_of I) (z ++ ((s, spot) ∷ [])) (z' ++ (p ∷ [])) (only_more m (separator_of I) z s spot only h.1) r.placed e in
      same_part z' z p (s, spot) l (parted z' p [] z (s, spot) [] same)

  abbrev Upper : Spot → Fault → Type 0
  Upper spot = Or (ElementMet m (separator_of I) (suc (length z)) z (s, spot)) (TotalsMet m (separator_of I) (suc (length z)) z (s, spot))

  -- a fault of an element or of a total at this number is one of this segment, by what placing gives it
  upper_here : (o : Option Spot) → Placement m (separator_of I) z s o → (f : Fault) → UpperMet m I f → f.segment ≡ suc (length z) → (spot : Spot) × (o ≡ Some spot) × Upper spot f
  upper_here o h f (z', p, r, x) e = go o h
    where
      l : length z' ≡ length z
      l = let q = (upper_rank m I f (z', p, r, x)).2 in omega (arith, e)

      go : (o : Option Spot) → Placement m (separator_of I) z s o → (spot : Spot) × (o ≡ Some spot) × Upper spot f
      go None h =
          let t = same_parting m I z z' s p.0 after r.behind all r.all l in
          absurd (h.1 (subst (λ (y : List Segment × Segment). Begins (label_of m) (rows_of m) (marks_in (separator_of I) y.0 ++ (mark_in (separator_of I) y.1 ∷ []))) (λ i. (t.0 i, t.1 i)) (reached_begins m I z' p r)))
      go (Some spot) h =
          let t = reached_only spot h z' p r l in
          (spot, refl, subst (λ (y : List PlacedSegment × PlacedSegment). Or (ElementMet m (separator_of I) (suc (length y.0)) y.0 y.1) (TotalsMet m (separator_of I) (suc (length y.0)) y.0 y.1) f) (λ i. (t.0 i, t.1 i)) x)

  -- the faults of the segment by layers
  abbrev BytesAt : Fault → Type 0
  BytesAt f = BytesMet I f × (f.segment ≡ suc (length z))

  abbrev StructureAt : Fault → Type 0
  StructureAt f = StructureMet m I f × (f.segment ≡ suc (length z))

  abbrev UpperAt : Fault → Type 0
  UpperAt f = UpperMet m I f × (f.segment ≡ suc (length z))

  bytes_earlier : Earlier BytesAt (Or StructureAt UpperAt)
  bytes_earlier f g a (inl b) =
      let x = met_rank I f a.0 in
      let y = misfit_rank m I g b.0 in
      let c = x.1 in
      let d = y.1 in
      by_layer f g x.0 y.0 (a.1 ∙ sym b.1) (omega arith)
  bytes_earlier f g a (inr b) =
      let x = met_rank I f a.0 in
      let y = upper_rank m I g b.0 in
      let c = x.1 in
      let d = y.1 in
      by_layer f g x.0 y.0 (a.1 ∙ sym b.1) (omega arith)

  elements_earlier : (spot : Spot) → Earlier (ElementMet m (separator_of I) (suc (length z)) z (s, spot)) (TotalsMet m (separator_of I) (suc (length z)) z (s, spot))
  elements_earlier spot f g a b =
      let x = element_lies m (separator_of I) (suc (length z)) z (s, spot) f a in
      let y = totals_lie m (separator_of I) (suc (length z)) z (s, spot) g b in
      let c = x.1 in
      let d = y.1 in
      by_layer f g x.0 y.0 (x.2 ∙ sym y.2) (omega arith)

  -- elements, and then totals
  placed_judged : (spot : Spot) → Judged (Upper spot) Anything (placed_check m (separator_of I) (suc (length z)) z (s, spot))
  placed_judged spot =
      judged_then (ElementMet m (separator_of I) (suc (length z)) z (s, spot)) (TotalsMet m (separator_of I) (suc (length z)) z (s, spot)) Anything Anything
      (elements_check m (separator_of I) (suc (length z)) (is_row_lacking m (separator_of I) z (s, spot)) spot.row s) (λ u. totals_check m (separator_of I) (suc (length z)) z (s, spot))
      (elements_earlier spot) (elements_judged m (separator_of I) (s, spot) (suc (length z)) z) (λ u n j. totals_judged m (separator_of I) (suc (length z)) z (s, spot))

  -- structure, and then those
  spot_judged : (o : Option Spot) → Placement m (separator_of I) z s o → Judged (Or StructureAt UpperAt) (λ spot. o ≡ Some spot) (spot_check m (separator_of I) (suc (length z)) z s o)
  spot_judged None h =
      let t = subst (λ (n : ℕ). First (λ f. StructureMet m I f × (f.segment ≡ suc n)) (fault 6 (suc n) 0 s.place)) (segments_length z) (misfit_here m I (segments_in z) s after all h) in
      (inl t.0, λ g y. elim y [ inl a ↦ t.1 g a | inr b ↦ (let u = upper_here None h g b.0 b.1 in absurd (some_not_none u.0 (sym u.1))) ])
  spot_judged (Some spot) h =
      judged_as (Upper spot) (Or StructureAt UpperAt) (λ x. Some spot ≡ Some x) (spot_check m (separator_of I) (suc (length z)) z s (Some spot)) to from
      (handed (Upper spot) (λ x. Some spot ≡ Some x) spot refl (placed_check m (separator_of I) (suc (length z)) z (s, spot)) (placed_judged spot))
    where
      to : (f : Fault) → Upper spot f → Or StructureAt UpperAt f
      to f x = let u : UpperMet m I f = (z, (s, spot), reached_here spot h, x) in inr (u, (upper_rank m I f u).2)

      from : (f : Fault) → Or StructureAt UpperAt f → Upper spot f
      from f (inl a) = absurd (subst (λ (n : ℕ). NoneOf (λ f. StructureMet m I f × (f.segment ≡ suc n))) (segments_length z) (no_misfit_here m I (segments_in z) s after all h.0) f a)
      from f (inr b) = let u = upper_here (Some spot) h f b.0 b.1 in subst (λ (x : Spot). Upper x f) (let e = u.1 in cc) u.2

  -- the four layers
  pub full_judged : (u : Unit {0}) → header_check I ≡ Ok u → (o : Option Spot) → Placement m (separator_of I) z s o
      → Judged (Here m I (suc (length z))) (λ spot. o ≡ Some spot) (full_check m I (suc (length z)) z s o)
  full_judged u sound o h =
      judged_as (Or BytesAt (Or StructureAt UpperAt)) (Here m I (suc (length z))) (λ spot. o ≡ Some spot) (full_check m I (suc (length z)) z s o) to from
      (judged_then BytesAt (Or StructureAt UpperAt) Anything (λ spot. o ≡ Some spot) (segment_check (separator_of I) (component_of I) (suc (length z)) s)
      (λ v. spot_check m (separator_of I) (suc (length z)) z s o) bytes_earlier bytes_judged (λ v n j. spot_judged o h))
    where
      bytes_judged : Judged BytesAt Anything (segment_check (separator_of I) (component_of I) (suc (length z)) s)
      bytes_judged =
          subst (λ (n : ℕ). Judged (λ f. BytesMet I f × (f.segment ≡ suc n)) Anything (segment_check (separator_of I) (component_of I) (suc n) s)) (segments_length z)
          (segment_met I u sound (segments_in z) s after all)

      to : (f : Fault) → Or BytesAt (Or StructureAt UpperAt) f → Here m I (suc (length z)) f
      to f (inl a) = (inl (inl a.0), a.1)
      to f (inr (inl b)) = (inl (inr b.0), b.1)
      to f (inr (inr c)) = (inr c.0, c.1)

      from : (f : Fault) → Here m I (suc (length z)) f → Or BytesAt (Or StructureAt UpperAt) f
      from f (inl (inl a), e) = inl (a, e)
      from f (inl (inr b), e) = inr (inl (b, e))
      from f (inr c, e) = inr (inr (c, e))
