-- Faults of bytes and faults of structure in one rank: the segment comes first, and then the layer.
use Rattle.std.proofs.Common.{◌≡◌, ℕ, ◌<◌, ◌≤◌, Bool, true, false, cond, List, Ok, Err, Result, sym, refl, ap, ◌∙◌, subst, inl, inr, arith}
use Rattle.std.proofs.lemmas.Bool.{cases_lt}
use Rattle.x12.specs.declared.faults.Fault.{Fault}
use Rattle.x12.specs.Header.{sized, headed, delimited}
use Rattle.x12.specs.Causes.{fault}
use Rattle.x12.specs.Checks.{header_check}
use Rattle.x12.specs.Rank.{phase, key, Before, First, NoneOf}
use Rattle.x12.specs.Met.{Met}
use Rattle.x12.proofs.Rank.{lex_trans}
use Rattle.x12.proofs.Meets.{header_refused}
use Rattle.x12.proofs.SegmentFaults.{met_rank}
use Rattle.guide.specs.Meaning.{Meaning}
use Rattle.placing.specs.Structure.{Misfits, no_row_takes, ends_early, StructureMet, SegmentMet}

abbrev segment_in : Result (Unit {0}) Fault → ℕ
segment_in (Ok u) = 0
segment_in (Err f) = f.segment

module _ (m : Meaning) (I : List ℕ) where
  -- a fault of structure is of phase 0 and layer 2, at a segment from 1 on
  structure_rank : {n k p : ℕ} → Misfits m I n k p → (phase n ≡ 0) × ((fault n k 0 p).layer ≡ 2) × (1 ≤ k)
  structure_rank (no_row_takes a s b e f) = (refl, refl, omega arith)
  structure_rank (ends_early o) = (refl, refl, omega arith)

  pub misfit_rank : (g : Fault) → StructureMet m I g → (phase g.number ≡ 0) × (g.layer ≡ 2) × (1 ≤ g.segment)
  misfit_rank g (n, k, p, x, q) =
      let r = structure_rank x in
      (ap (λ (z : Fault). phase z.number) q ∙ r.0, ap (λ (z : Fault). z.layer) q ∙ r.1, subst (λ (z : Fault). 1 ≤ z.segment) (sym q) r.2)

  bytes_before : (f g : Fault) → Met I f → StructureMet m I g → f.segment ≤ g.segment → Before f g
  bytes_before f g x y h =
      let a = met_rank I f x in
      let b = misfit_rank g y in
      let l : f.layer < g.layer = (let c = a.1 in let d = b.1 in omega arith) in
      inr (a.0 ∙ sym b.0, elim (cases_lt f.segment g.segment) [ inl lt ↦ inl lt | inr le ↦ inr (omega arith, inl l) ])

  structure_before : (g f : Fault) → StructureMet m I g → Met I f → g.segment < f.segment → Before g f
  structure_before g f y x h = inr ((misfit_rank g y).0 ∙ sym (met_rank I f x).0, inl h)

  -- the first of both sorts
  pub bytes_first : (f : Fault) → First (Met I) f → ((g : Fault) → StructureMet m I g → f.segment ≤ g.segment) → First (SegmentMet m I) f
  bytes_first f x h = (inl x.0, λ g y. elim y [ inl p ↦ x.1 g p | inr q ↦ bytes_before f g x.0 q (h g q) ])

  pub bytes_only : (f : Fault) → First (Met I) f → NoneOf (StructureMet m I) → First (SegmentMet m I) f
  bytes_only f x n = bytes_first f x (λ g y. absurd (n g y))

  pub bytes_earlier : (f g : Fault) → First (Met I) f → First (StructureMet m I) g → f.segment ≤ g.segment → First (SegmentMet m I) f
  bytes_earlier f g x y h = (inl x.0, λ z w. elim w [ inl p ↦ x.1 z p | inr q ↦ lex_trans (key f) (key g) (key z) (bytes_before f g x.0 y.0 h) (y.1 z q) ])

  pub structure_earlier : (f g : Fault) → First (Met I) f → First (StructureMet m I) g → g.segment < f.segment → First (SegmentMet m I) g
  structure_earlier f g x y h = (inr y.0, λ z w. elim w [ inl p ↦ lex_trans (key g) (key f) (key z) (structure_before g f y.0 x.0 h) (x.1 z p) | inr q ↦ y.1 z q ])

  pub structure_only : (g : Fault) → NoneOf (Met I) → First (StructureMet m I) g → First (SegmentMet m I) g
  structure_only g n y = (inr y.0, λ z w. elim w [ inl p ↦ absurd (n z p) | inr q ↦ y.1 z q ])

  pub neither : NoneOf (Met I) → NoneOf (StructureMet m I) → NoneOf (SegmentMet m I)
  neither a b f x = elim x [ inl p ↦ a f p | inr q ↦ b f q ]

  -- a fault of the header stands at segment 0 or 1
  pub header_low : (f : Fault) → header_check I ≡ Err f → f.segment ≤ 1
  header_low f = go (sized I) (headed I) (delimited I)
    where
      go : (a b c : Bool) → cond a (cond b (cond c (Ok (tt {0})) (Err (fault 3 1 0 0))) (Err (fault 2 1 0 0))) (Err (fault 1 0 0 0)) ≡ Err f → f.segment ≤ 1
      go true true true e = let q : 0 ≡ f.segment = ap segment_in e in omega arith
      go true true false e = let q : 1 ≡ f.segment = ap segment_in e in omega arith
      go true false c e = let q : 1 ≡ f.segment = ap segment_in e in omega arith
      go false b c e = let q : 0 ≡ f.segment = ap segment_in e in omega arith

  pub header_first : (f : Fault) → header_check I ≡ Err f → First (SegmentMet m I) f
  header_first f e = bytes_first f (header_refused I f e) (λ g y. let a = header_low f e in let b = (misfit_rank g y).2 in omega arith)
