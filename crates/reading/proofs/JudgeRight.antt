-- The judgment that computes gives the first fault of all, or the one derivation of a regular interchange.
use Rattle.std.proofs.Common.{◌≡◌, ℕ, suc, Bool, true, false, cond, ◌⊎◌, List, [], ◌∷◌, ◌++◌, length, Some, None, Ok, Err, MatchBool, Option, Result, sym, refl, ap, ◌∙◌, subst, inl, inr, append_assoc, append-nil, arith, length-append, MatchOption}
use Rattle.x12.specs.declared.faults.Fault.{Fault}
use Rattle.x12.specs.Header.{separator_of}
use Rattle.x12.specs.Lists.{and_then}
use Rattle.x12.specs.Segments.{Segment, segments_of}
use Rattle.x12.specs.Causes.{fault}
use Rattle.x12.specs.Checks.{header_check}
use Rattle.x12.specs.Rank.{First}
use Rattle.x12.proofs.Judged.{Judged}
use Rattle.grammar.specs.Marks.{Mark}
use Rattle.grammar.specs.Derivations.{Spot}
use Rattle.grammar.specs.Interchange.{Begins}
use Rattle.grammar.specs.Theorems.{OneDerivation, OnlyBegun}
use Rattle.guide.specs.Meaning.{Meaning}
use Rattle.guide.specs.Asked.{rows_of, label_of}
use Rattle.guide.specs.Law.{Lawful}
use Rattle.placing.specs.Placing.{EveryDerivationGives, FitsNowhere}
use Rattle.placing.specs.Structure.{mark_in, marks_in}
use Rattle.placing.specs.Placed.{PlacedSegment, segments_in, OnlySo, DerivedSo}
use Rattle.placing.specs.Next.{PlacingState, start_state, next_spot, may_end}
use Rattle.placing.proofs.NextRow.{start_right, next_right, end_right}
use Rattle.placing.proofs.Runs.{LeadsTo}
use Rattle.placing.proofs.Placements.{segments_more, marks_more, segments_length, marks_length, only_none, only_more, derived_whole}
use Rattle.elements.proofs.Words.{some_not_none}
use Rattle.reading.specs.Met.{Met, Regular}
use Rattle.reading.specs.Laws.{OneAnswer}
use Rattle.reading.specs.Judge.{full_check, spot_in, state_in, judge_from, judge}
use Rattle.reading.specs.Turns.{Placement}
use Rattle.reading.proofs.AtSegment.{Here, full_judged}
use Rattle.reading.proofs.Quiets.{Quiet, quiet_start, quiet_on, first_here, header_first, ends_regular, ends_refused}
use Rattle.reading.proofs.OneAnswer.{first_one}

-- these are the segments of the interchange, with the rows and loops of its one derivation
abbrev pub OnlyDerived : Meaning → List ℕ → List PlacedSegment → Type 0
OnlyDerived m I z = DerivedSo m I z × ((z' : List PlacedSegment) → DerivedSo m I z' → z' ≡ z)

module _ (m : Meaning) (w : Lawful m) (I : List ℕ) (u : Unit {0}) (sound : header_check I ≡ Ok u) where
  -- the segments ss are still to come: the judgment goes on rightly from what is placed
  abbrev Onward : List Segment → Type 0
  Onward ss =
      (z : List PlacedSegment) (spots : List Spot) (S : PlacingState) → segments_of I ≡ segments_in z ++ ss → OnlySo m (separator_of I) z → LeadsTo m (marks_in (separator_of I) (segments_in z)) spots S
      → (k : ℕ) → k ≡ suc (length z) → Quiet m I k → Judged (Met m I) (OnlyDerived m I) (judge_from m I k z S ss)

  end_judged : Onward []
  end_judged z spots S e only run k at q = go (may_end S) (end_right m w (marks_in (separator_of I) (segments_in z)) spots S run)
    where
      all : segments_in z ≡ segments_of I
      all = sym (e ∙ append-nil (segments_in z))

      quiet : Quiet m I (suc (length z))
      quiet = subst (Quiet m I) at q

      go : (b : Bool) → MatchBool b (OneDerivation (label_of m) (rows_of m) (marks_in (separator_of I) (segments_in z))) (OnlyBegun (label_of m) (rows_of m) (marks_in (separator_of I) (segments_in z)))
          → Judged (Met m I) (OnlyDerived m I) (cond b (Ok z) (Err (fault 7 k 0 (length I))))
      go true d =
          let d₁ = subst (λ (l : List Segment). OneDerivation (label_of m) (rows_of m) (marks_in (separator_of I) l)) all d in
          (ends_regular m I u sound z all quiet d₁, derived_whole m I z only all d₁)
      go false d =
          subst (λ (n : ℕ). Judged (Met m I) (OnlyDerived m I) (Err (fault 7 n 0 (length I)))) (sym at)
          (ends_refused m I u sound z all quiet (subst (λ (l : List Segment). OnlyBegun (label_of m) (rows_of m) (marks_in (separator_of I) l)) all d))

  segment_judged : (s : Segment) (ss : List Segment) → Onward ss → Onward (s ∷ ss)
  segment_judged s ss onward z spots S e only run k at q =
      go (next_spot m S k (mark_in (separator_of I) s)) (next_right m w (marks_in (separator_of I) (segments_in z)) spots S run k (mark_in (separator_of I) s) (at ∙ ap suc (sym marked)))
    where
      marked : length (marks_in (separator_of I) (segments_in z)) ≡ length z
      marked = marks_length (separator_of I) (segments_in z) ∙ segments_length z

      turn : (o : Option Spot) → Placement m (separator_of I) z s o → Judged (Here m I k) (λ spot. o ≡ Some spot) (full_check m I k z s o)
      turn o h = subst (λ (n : ℕ). Judged (Here m I n) (λ spot. o ≡ Some spot) (full_check m I n z s o)) (sym at) (full_judged m I z s ss e only u sound o h)

      -- the segments behind
      behind : (spot : Spot) (V : PlacingState) → EveryDerivationGives m (marks_in (separator_of I) (segments_in z)) (mark_in (separator_of I) s) spot
          → LeadsTo m (marks_in (separator_of I) (segments_in z) ++ (mark_in (separator_of I) s ∷ [])) (spots ++ (spot ∷ [])) V → Quiet m I (suc k)
          → Judged (Met m I) (OnlyDerived m I) (judge_from m I (suc k) (z ++ ((s, spot) ∷ [])) V ss)
      behind spot V gives leads quiet =
          let l = length-append z ((s, spot) ∷ []) in
          onward (z ++ ((s, spot) ∷ [])) (spots ++ (spot ∷ [])) V
          (e ∙ (sym (append_assoc (segments_in z) (s ∷ []) ss) ∙ ap (λ (y : List Segment). y ++ ss) (sym (segments_more z (s, spot)))))
          (only_more m (separator_of I) z s spot only gives)
          (subst (λ (y : List Mark). LeadsTo m y (spots ++ (spot ∷ [])) V) (sym (marks_more (separator_of I) z (s, spot))) leads)
          (suc k) (omega (arith, at)) quiet

      go : (next : Option (Spot × PlacingState)) → MatchOption next (FitsNowhere m (marks_in (separator_of I) (segments_in z)) (mark_in (separator_of I) s))
          (λ r. Begins (label_of m) (rows_of m) (marks_in (separator_of I) (segments_in z) ++ (mark_in (separator_of I) s ∷ []))
          × EveryDerivationGives m (marks_in (separator_of I) (segments_in z)) (mark_in (separator_of I) s) r.0
          × LeadsTo m (marks_in (separator_of I) (segments_in z) ++ (mark_in (separator_of I) s ∷ [])) (spots ++ (r.0 ∷ [])) r.1)
          → Judged (Met m I) (OnlyDerived m I) (and_then (full_check m I k z s (spot_in next)) (λ spot. judge_from m I (suc k) (z ++ ((s, spot) ∷ [])) (state_in next) ss))
      go None h = on (full_check m I k z s None) (turn None h)
        where
          on : (r : Result Spot Fault) → Judged (Here m I k) (λ spot. None ≡ Some spot) r
              → Judged (Met m I) (OnlyDerived m I) (and_then r (λ spot. judge_from m I (suc k) (z ++ ((s, spot) ∷ [])) (state_in None) ss))
          on (Ok spot) j = absurd (some_not_none spot (sym j.1))
          on (Err f) j = first_here m I k f q j
      go (Some t) h = on (full_check m I k z s (Some t.0)) (turn (Some t.0) (h.0, h.1))
        where
          on : (r : Result Spot Fault) → Judged (Here m I k) (λ spot. Some t.0 ≡ Some spot) r
              → Judged (Met m I) (OnlyDerived m I) (and_then r (λ spot. judge_from m I (suc k) (z ++ ((s, spot) ∷ [])) t.1 ss))
          on (Ok spot) j =
              let same : t.0 ≡ spot = (let i = j.1 in cc) in
              subst (λ (x : Spot). Judged (Met m I) (OnlyDerived m I) (judge_from m I (suc k) (z ++ ((s, x) ∷ [])) t.1 ss)) same (behind t.0 t.1 h.1 h.2 (quiet_on m I k q j.0))
          on (Err f) j = first_here m I k f q j

  from_judged : (ss : List Segment) → Onward ss
  from_judged [] = end_judged
  from_judged (s ∷ ss) = segment_judged s ss (from_judged ss)

  pub body_judged : Judged (Met m I) (OnlyDerived m I) (judge_from m I 1 [] (start_state m) (segments_of I))
  body_judged = from_judged (segments_of I) [] [] (start_state m) refl (only_none m (separator_of I)) (start_right m w) 1 refl (quiet_start m I u sound)

pub judge_right : (m : Meaning) → Lawful m → (I : List ℕ) → Judged (Met m I) (OnlyDerived m I) (judge m I)
judge_right m w I = go (header_check I) (λ u e. body_judged m w I u e) (λ f e. header_first m I f e)
  where
    go : (r : Result (Unit {0}) Fault) → ((u : Unit {0}) → r ≡ Ok u → Judged (Met m I) (OnlyDerived m I) (judge_from m I 1 [] (start_state m) (segments_of I)))
        → ((f : Fault) → r ≡ Err f → Judged (Met m I) (OnlyDerived m I) (Err f)) → Judged (Met m I) (OnlyDerived m I) (and_then r (λ u. judge_from m I 1 [] (start_state m) (segments_of I)))
    go (Ok u) a b = a u refl
    go (Err f) a b = b f refl

-- so every interchange is regular or has one first fault
pub one_answer : OneAnswer
one_answer m w I = go (judge m I) (judge_right m w I)
  where
    go : (r : Result (List PlacedSegment) Fault) → Judged (Met m I) (OnlyDerived m I) r → Regular m I ⊎ ((f : Fault) × First (Met m I) f × ((g : Fault) → First (Met m I) g → g ≡ f))
    go (Ok z) j = inl j.0
    go (Err f) j = inr (f, j, λ g h. first_one m I g f h j)
