-- The check of a segment's totals gives the first fault of the rule book's causes.
use Rattle.std.proofs.Common.{◌≡◌, ℕ, Bool, true, not, ◌&&◌, eqb, ◌≢◌, ◌⊎◌, List, [], ◌∷◌, refl, ap, ◌∙◌, subst, inl, inr}
use Rattle.std.proofs.lemmas.Bool.{and_parts, and_from, eqb-true, or_cases, or_left}
use Rattle.std.specs.Str.{bytes_eq}
use Rattle.x12.specs.declared.faults.Fault.{Fault}
use Rattle.x12.specs.Lists.{filled, Item}
use Rattle.x12.specs.Segments.{Part}
use Rattle.x12.specs.Elements.{element_of_segment}
use Rattle.x12.specs.Causes.{fault}
use Rattle.x12.proofs.Judged.{Judged, Anything, Any, judged_as}
use Rattle.guide.specs.Meaning.{Meaning}
use Rattle.guide.specs.Asked.{test}
use Rattle.placing.specs.Placed.{PlacedSegment}
use Rattle.placing.proofs.Fitting.{among_decides}
use Rattle.elements.specs.Rules.{value}
use Rattle.elements.proofs.Columns.{Hits, HitsPart, parts_judged}
use Rattle.elements.proofs.Words.{filled_decides}
use Rattle.totals.specs.Words.{quantity}
use Rattle.totals.specs.Tests.{counted, summed, repeated, taken, ends_unlike, total_tests, totals_check}
use Rattle.totals.specs.Fails.{TotalsFails, wrong_control, wrong_count, wrong_sum, unlike_sum, again, TotalsMet}
use Rattle.totals.proofs.TotalWords.{unrepeated_decides, uncounted_decides, ends_unlike_decides, taken_elements}

module _ (m : Meaning) (separator k : ℕ) (z : List PlacedSegment) (p : PlacedSegment) where
  abbrev Tests : ℕ → List ℕ → List (Bool × ℕ)
  Tests e v = total_tests m separator z p e v

  abbrev At : ℕ → Fault → Type 0
  At e f = Hits k e (element_of_segment separator p.0 e).0 (Tests e (value separator p e)) f

  -- the name and the elements 1 and 2
  abbrev Parts : List Part
  Parts = element_of_segment separator p.0 0 ∷ element_of_segment separator p.0 1 ∷ element_of_segment separator p.0 2 ∷ []

  abbrev Looked : Fault → Type 0
  Looked f = Any (HitsPart 4 k Tests (λ e v. refl)) 0 Parts f

  -- a cause at an element that is this one
  at_element : (n d e : ℕ) → e ≡ d → TotalsFails m separator z p n d → (f : Fault) → f ≡ fault n k e (element_of_segment separator p.0 e).0 → TotalsMet m separator k z p f
  at_element n d e q x f h = (n, d, x, h ∙ ap (λ (i : ℕ). fault n k i (element_of_segment separator p.0 i).0) q)

  -- a test that holds is a cause
  out_part : (e : ℕ) (f : Fault) → At e f → TotalsMet m separator k z p f
  out_part e f (inl h) =
      let a = and_parts (eqb e 2) (test (λ w. not (bytes_eq (value separator p e) w)) (repeated separator z p)) h.0 in
      let q = eqb-true e 2 a.0 in
      let t = (unrepeated_decides (value separator p e) (repeated separator z p)).0 a.1 in
      at_element 14 2 e q (wrong_control t.0 t.1 (subst (λ (i : ℕ). value separator p i ≢ t.0) q t.2)) f h.1
  out_part e f (inr (inl h)) = go (or_cases counts sums h.0)
    where
      counts : Bool
      counts = eqb e 1 && test (λ n. not (eqb (quantity (value separator p e)) n)) (counted separator z p)

      sums : Bool
      sums = eqb e 2 && (filled (value separator p e) && test (λ n. not (eqb (quantity (value separator p e)) n)) (summed separator z p))

      go : (counts ≡ true) ⊎ (sums ≡ true) → TotalsMet m separator k z p f
      go (inl y) =
          let a = and_parts (eqb e 1) (test (λ n. not (eqb (quantity (value separator p e)) n)) (counted separator z p)) y in
          let q = eqb-true e 1 a.0 in
          let t = (uncounted_decides (quantity (value separator p e)) (counted separator z p)).0 a.1 in
          at_element 15 1 e q (wrong_count t.0 t.1 (subst (λ (i : ℕ). quantity (value separator p i) ≢ t.0) q t.2)) f h.1
      go (inr y) =
          let a = and_parts (eqb e 2) (filled (value separator p e) && test (λ n. not (eqb (quantity (value separator p e)) n)) (summed separator z p)) y in
          let b = and_parts (filled (value separator p e)) (test (λ n. not (eqb (quantity (value separator p e)) n)) (summed separator z p)) a.1 in
          let q = eqb-true e 2 a.0 in
          let t = (uncounted_decides (quantity (value separator p e)) (summed separator z p)).0 b.1 in
          at_element 15 2 e q
          (wrong_sum t.0 t.1 (subst (λ (i : ℕ). value separator p i ≢ []) q ((filled_decides (value separator p e)).0 b.0)) (subst (λ (i : ℕ). quantity (value separator p i) ≢ t.0) q t.2))
          f h.1
  out_part e f (inr (inr (inl h))) =
      let a = and_parts (eqb e 0) (ends_unlike m separator z p) h.0 in
      let t = (ends_unlike_decides m separator z p).0 a.1 in
      at_element 16 0 e (eqb-true e 0 a.0) (unlike_sum t.1.0 t.0 t.1.1 t.1.2.0.0 t.1.2.0.1 t.1.2.1) f h.1
  out_part e f (inr (inr (inr (inl h)))) = (17, e, again ((among_decides (value separator p e) (taken separator z p e)).0 h.0), h.1)
  out_part e f (inr (inr (inr (inr h)))) = elim h [ ]

  out_looked : (f : Fault) → Looked f → TotalsMet m separator k z p f
  out_looked f (e, part, i, h) = go i
    where
      at : (d : ℕ) → e ≡ d → part ≡ element_of_segment separator p.0 d → TotalsMet m separator k z p f
      at d q r = out_part d f (subst (λ (x : ℕ × Part). Hits k x.0 x.1.0 (Tests x.0 x.1.1) f) (λ j. (q j, r j)) h)

      go : Item 0 Parts e part → TotalsMet m separator k z p f
      go (inl x) = at 0 x.0 x.1
      go (inr (inl x)) = at 1 x.0 x.1
      go (inr (inr (inl x))) = at 2 x.0 x.1
      go (inr (inr (inr x))) = elim x [ ]

  in_name : (f : Fault) → At 0 f → Looked f
  in_name f h = (0, element_of_segment separator p.0 0, inl (refl, refl), h)

  in_first : (f : Fault) → At 1 f → Looked f
  in_first f h = (1, element_of_segment separator p.0 1, inr (inl (refl, refl)), h)

  in_second : (f : Fault) → At 2 f → Looked f
  in_second f h = (2, element_of_segment separator p.0 2, inr (inr (inl (refl, refl))), h)

  -- a cause is looked for
  in_cause : {n e : ℕ} → TotalsFails m separator z p n e → (f : Fault) → f ≡ fault n k e (element_of_segment separator p.0 e).0 → Looked f
  in_cause (wrong_control w r v) f q = in_second f (inl ((unrepeated_decides (value separator p 2) (repeated separator z p)).1 (w, r, v), q))
  in_cause (wrong_count n r v) f q =
      in_first f (inr (inl (
        or_left (test (λ n. not (eqb (quantity (value separator p 1)) n)) (counted separator z p)) _ ((uncounted_decides (quantity (value separator p 1)) (counted separator z p)).1 (n, r, v)),
        q,
      )))
  in_cause (wrong_sum n r v w) f q =
      in_second f (inr (inl (
        and_from (filled (value separator p 2)) (test (λ n. not (eqb (quantity (value separator p 2)) n)) (summed separator z p)) ((filled_decides (value separator p 2)).1 v)
            ((uncounted_decides (quantity (value separator p 2)) (summed separator z p)).1 (n, r, w)),
        q,
      )))
  in_cause (unlike_sum l h s a b u) f q = in_name f (inr (inr (inl ((ends_unlike_decides m separator z p).1 (h, (l, s, ((a, b), u))), q))))
  in_cause (again {e = e} o) f q = go (taken_elements separator z p e (value separator p e) o)
    where
      hit : At e f
      hit = inr (inr (inr (inl ((among_decides (value separator p e) (taken separator z p e)).1 o, q))))

      go : (e ≡ 1) ⊎ (e ≡ 2) → Looked f
      go (inl r) = in_first f (subst (λ (i : ℕ). At i f) r hit)
      go (inr r) = in_second f (subst (λ (i : ℕ). At i f) r hit)

  pub totals_judged : Judged (TotalsMet m separator k z p) Anything (totals_check m separator k z p)
  totals_judged =
      judged_as Looked (TotalsMet m separator k z p) Anything (totals_check m separator k z p) out_looked (λ f t. in_cause t.2 f t.3) (parts_judged 4 k Tests (λ e v. refl) Parts 0)
