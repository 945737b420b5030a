-- From the judgment of the four layers to what reading promises.
use Rattle.std.proofs.Common.{◌≡◌, ℕ, ◌<◌, ◌≤◌, ◌⊎◌, List, length, Ok, Err, Result, sym, refl, ap, ◌∙◌, subst, inl, inr, arith}
use Rattle.x12.specs.declared.faults.Fault.{Fault}
use Rattle.x12.specs.Header.{separator_of}
use Rattle.x12.specs.Segments.{segments_of}
use Rattle.x12.specs.Causes.{layer_of, fault}
use Rattle.x12.specs.Rank.{phase, key, Before, First}
use Rattle.x12.specs.Met.{Met as BytesMet}
use Rattle.x12.proofs.Rank.{lex_refl, same_rank}
use Rattle.x12.proofs.SegmentFaults.{met_rank}
use Rattle.grammar.specs.Theorems.{OneDerivation}
use Rattle.guide.specs.Meaning.{Meaning}
use Rattle.guide.specs.Asked.{rows_of, label_of}
use Rattle.placing.specs.Structure.{marks_in, Misfits, no_row_takes, ends_early}
use Rattle.placing.specs.Placed.{PlacedSegment, spots_in, DerivedSo}
use Rattle.results.specs.declared.rows.SegmentRow.{SegmentRow}
use Rattle.results.specs.declared.rows.LoopRow.{LoopRow}
use Rattle.results.specs.Rows.{loops_in, Filled}
use Rattle.totals.specs.declared.faults.TotalsFault.{TotalsFault}
use Rattle.totals.specs.Fails.{cause_of_totals}
use Rattle.reading.specs.declared.faults.ReadingFault.{ReadingFault}
use Rattle.reading.specs.declared.faults.ReadingFault.TheVariants.{Judged, FewRows}
use Rattle.reading.specs.Met.{UpperMet, Met, Regular}
use Rattle.reading.specs.Promise.{cause_of_reading, Outnumbers, ReadingMet, totals_of, NoPlace, ReadingIs}
use Rattle.reading.proofs.MetRank.{upper_rank, met_phase}
use Rattle.reading.proofs.OneAnswer.{first_one}

-- no answer is both accepted and refused
ok_not_err : {A F : Type 0} (a : A) (f : F) (r : Result A F) → r ≡ Ok a → r ≡ Err f → ⊥
ok_not_err a f r p q = let z : ◌≡◌ {A = ℕ} 0 1 = cc in omega arith

module _ (m : Meaning) (I : List ℕ) where
  -- the layer of a fault of bytes is that of its number
  bytes_layer : (f : Fault) → BytesMet I f → f.layer ≡ layer_of f.number
  bytes_layer f (n, k, e, x, q) = ap (λ (g : Fault). g.layer) q ∙ ap layer_of (sym (ap (λ (g : Fault). g.number) q))

  -- and so is that of a fault of an element or of a total
  upper_layer : (f : Fault) → UpperMet m I f → f.layer ≡ layer_of f.number
  upper_layer f (z, p, r, inl (n, e, x, q)) = ap (λ (g : Fault). g.layer) q ∙ ap layer_of (sym (ap (λ (g : Fault). g.number) q))
  upper_layer f (z, p, r, inr (n, e, x, q)) = ap (λ (g : Fault). g.layer) q ∙ ap layer_of (sym (ap (λ (g : Fault). g.number) q))

  -- of the faults of structure 6 says that the segment has no place
  misfit_place : {n k place : ℕ} → Misfits m I n k place → n ≡ 6 → NoPlace m I k
  misfit_place (no_row_takes before s behind all fits) e = (before, s, behind, all, refl, fits)
  misfit_place (ends_early o) e = absurd (omega arith)

  -- and 6 is a fault of structure
  six_no_place : (f : Fault) → Met m I f → f.number ≡ 6 → NoPlace m I f.segment
  six_no_place f (inl (inl x)) e =
      let l : f.layer ≡ layer_of 6 = bytes_layer f x ∙ ap layer_of e in
      let r = (met_rank I f x).1 in
      absurd (omega arith)
  six_no_place f (inl (inr (n, k, place, x, q))) e =
      let h : n ≡ 6 = sym (ap (λ (g : Fault). g.number) q) ∙ e in
      subst (NoPlace m I) (sym (ap (λ (g : Fault). g.segment) q)) (misfit_place x h)
  six_no_place f (inr x) e =
      let l : f.layer ≡ layer_of 6 = upper_layer f x ∙ ap layer_of e in
      let r = (upper_rank m I f x).1 in
      absurd (omega arith)

  -- a fault of the layers 1 to 4 ranks before 23
  before_few : (f g : Fault) → Met m I f → g ≡ fault 23 0 0 0 → Before f g
  before_few f g x e = let p = met_phase m I f x in let q : phase g.number ≡ 23 = ap (λ (h : Fault). phase h.number) e in inl (omega arith)

  -- the first of the layers 1 to 4 is the first of a reading
  pub judged_first : (n l : ℕ) (f : Fault) → First (Met m I) f → First (ReadingMet m I n l) f
  judged_first n l f h = (inl h.0, λ g y. elim y [ inl x ↦ h.1 g x | inr x ↦ before_few f g h.0 x.1 ])

  -- where there is none, too few rows are the first
  pub few_first : (n l : ℕ) → Regular m I → Outnumbers m I n l → First (ReadingMet m I n l) (fault 23 0 0 0)
  few_first n l regular few =
      (inr (few, refl), λ g y. elim y [ inl x ↦ absurd (regular g x) | inr x ↦ subst (Before (fault 23 0 0 0)) (sym x.1) (lex_refl (key (fault 23 0 0 0))) ])

  -- no reading has two first faults
  pub reading_first_one : (n l : ℕ) (f g : Fault) → First (ReadingMet m I n l) f → First (ReadingMet m I n l) g → f ≡ g
  reading_first_one n l f g a b = go a.0 b.0
    where
      same : f.number ≡ g.number
      same = (same_rank f g (a.1 g b.0) (b.1 f a.0)).0

      -- 23 is no fault of the layers 1 to 4
      apart : (h : Fault) → Met m I h → h.number ≡ 23 → ⊥
      apart h x e = let p = met_phase m I h x in let q : phase h.number ≡ 23 = ap phase e in omega arith

      go : ReadingMet m I n l f → ReadingMet m I n l g → f ≡ g
      go (inl x) (inl y) = first_one m I f g (x, λ h z. a.1 h (inl z)) (y, λ h z. b.1 h (inl z))
      go (inl x) (inr y) = absurd (apart f x (same ∙ ap (λ (h : Fault). h.number) y.1))
      go (inr x) (inl y) = absurd (apart g y (sym same ∙ ap (λ (h : Fault). h.number) x.1))
      go (inr x) (inr y) = x.1 ∙ sym y.1

  -- accepted: no fault, the rows are enough, and the tables hold the one derivation
  pub promise_accepted : (S S' : List SegmentRow) (L L' : List LoopRow) → Regular m I → (z : List PlacedSegment) → DerivedSo m I z
      → OneDerivation (label_of m) (rows_of m) (marks_in (separator_of I) (segments_of I)) → length z ≤ length S → loops_in z ≤ length L → Filled z S L S' L'
      → ReadingIs m I S S' L L' (Ok (totals_of I z))
  promise_accepted S S' L L' regular z derived one enough loops_enough held = record {
    accepted = λ t e. record {
      regular = regular;
      derivation = z;
      derived = derived;
      no_second = λ others d. one.2 others d ∙ sym (one.2 (spots_in z) derived.1);
      enough = enough;
      loops_enough = loops_enough;
      held = held;
      totals = cc;
    };
    accepted_if = λ r o. (totals_of I z, refl);
    refused = λ f e. absurd (ok_not_err (totals_of I z) f (Ok (totals_of I z)) refl e);
    placement = λ f e n. absurd (ok_not_err (totals_of I z) f (Ok (totals_of I z)) refl e);
  }

  -- refused for too few rows: the tables stay as they were
  pub promise_few : (S : List SegmentRow) (L : List LoopRow) → Regular m I → (z : List PlacedSegment) → DerivedSo m I z
      → OneDerivation (label_of m) (rows_of m) (marks_in (separator_of I) (segments_of I)) → (length S < length z) ⊎ (length L < loops_in z)
      → ReadingIs m I S S L L (Err FewRows)
  promise_few S L regular z derived one over = record {
    accepted = λ t e. absurd (ok_not_err t FewRows (Err FewRows) e refl);
    accepted_if = λ r o. absurd (o (z, derived, over));
    refused = λ f e. let same : FewRows ≡ f = cc in
        (subst (λ (g : ReadingFault). First (ReadingMet m I (length S) (length L)) (cause_of_reading g)) same (few_first (length S) (length L) regular (z, derived, over)), refl, refl);
    placement = λ f e n. let same : FewRows ≡ f = cc in let h : 23 ≡ (cause_of_reading f).number = ap (λ (g : ReadingFault). (cause_of_reading g).number) same in absurd (omega arith);
  }

  -- refused for the first fault of the layers 1 to 4: the tables stay as they were
  pub promise_refused : (S : List SegmentRow) (L : List LoopRow) (f : TotalsFault) → First (Met m I) (cause_of_totals f) → ReadingIs m I S S L L (Err (Judged f))
  promise_refused S L f first = record {
    accepted = λ t e. absurd (ok_not_err t (Judged f) (Err (Judged f)) e refl);
    accepted_if = λ r o. absurd (r (cause_of_totals f) first.0);
    refused = λ g e. let same : Judged f ≡ g = cc in
        (subst (λ (h : ReadingFault). First (ReadingMet m I (length S) (length L)) (cause_of_reading h)) same (judged_first (length S) (length L) (cause_of_totals f) first), refl, refl);
    placement = λ g e n. let same : Judged f ≡ g = cc in
        subst (λ (h : ReadingFault). NoPlace m I (cause_of_reading h).segment) same (six_no_place (cause_of_totals f) first.0 (ap (λ (h : ReadingFault). (cause_of_reading h).number) same ∙ n));
  }
