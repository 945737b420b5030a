-- The check of a segment's elements gives the first fault of the rule book's causes.
use Rattle.std.proofs.Common.{◌≡◌, ℕ, suc, ◌+◌, ◌<◌, ◌≤◌, Bool, true, false, not, ◌&&◌, eqb, ◌≢◌, ◌⊎◌, List, [], ◌∷◌, ◌++◌, length, Some, None, codes, Decides, Option, sym, refl, ap, ◌∙◌, subst, inl, inr, arith, lit≤}
use Rattle.std.proofs.lemmas.Slice.Eq.{bytes_eq-Decides}
use Rattle.std.proofs.lemmas.Bool.{and_parts, and_from, not-true, not_from_false, eqb-true, eq-eqb, or_cases, or_left, or_right, cases_lt}
use Rattle.std.proofs.lemmas.Bool.Decides.{Decides-and, Decides-not, Decides-eqb}
use Rattle.std.specs.List.{AllByRecursion}
use Rattle.x12.specs.declared.faults.Fault.{Fault}
use Rattle.x12.specs.Lists.{filled, each, Item}
use Rattle.x12.specs.Segments.{Part}
use Rattle.x12.specs.Elements.{element_of_segment}
use Rattle.x12.specs.Causes.{fault}
use Rattle.x12.specs.Rank.{Before}
use Rattle.x12.proofs.Judged.{Or, Judged, Anything, Any, judged_then, judged_as, item_from}
use Rattle.value.specs.Types.{good_length, good_type}
use Rattle.value.proofs.Meaning.{types_mean}
use Rattle.grammar.specs.Marks.{OneOf}
use Rattle.guide.specs.declared.rules.Need.TheVariants.{Must, Unused}
use Rattle.guide.specs.declared.rules.Kind.TheVariants.{Wrong}
use Rattle.guide.specs.Meaning.{ElementRule, Meaning, Standing}
use Rattle.guide.specs.Asked.{row_at, any_pair, test, admits, and_then as and_then_option}
use Rattle.placing.specs.Placed.{PlacedSegment, has_row, any_of, last_of, since_last}
use Rattle.placing.proofs.Fitting.{admits_decides}
use Rattle.elements.specs.Rules.{value, rule_at, limit_at, asks_for}
use Rattle.elements.specs.Tests.{is_must, is_unused, is_wrong, lacks, exceeds, judges, is_wrong_code, is_in_wrong_pair, element_tests, is_named, needed_row, is_row_lacking}
use Rattle.elements.specs.Checks.{first_of, present, absent, element_check, elements_check}
use Rattle.elements.specs.Fails.{ElementFails, empty_must, filled_unused, wrong_length, wrong_type, wrong_code, wrong_pair, broken_pair, missing_row, ElementMet}
use Rattle.elements.proofs.Columns.{Hits, LiesAt, first_judged, hits_lie, element_rising, HitsPart, part_lies, parts_judged}
use Rattle.elements.proofs.Bounds.{rule_within, pairs_within}
use Rattle.elements.proofs.Parts.{name_place, present_is, is_present, filled_present, absent_is, is_absent}
use Rattle.elements.proofs.Words.{same_some, some_not_none, filled_decides, empty_decides, must_decides, unused_decides, wrong_decides, pair_decides, test_decides, none_decides}

-- an item of a list has a number below the end of the list
item_below : {X : Type 0} (e : ℕ) (xs : List X) (n : ℕ) (y : X) → Item e xs n y → n < e + length xs
item_below e [] n y i = elim i [ ]
item_below e (x ∷ xs) n y (inl i) = let q : n ≡ e = i.0 in omega arith
item_below e (x ∷ xs) n y (inr i) = let q = item_below (suc e) xs n y i in omega arith

-- a rule judges an element that is used and filled
judges_decides : (r : ElementRule) (v : List ℕ) → Decides (judges r v) ((r.rule.need ≢ Unused) × (v ≢ []))
judges_decides r v = Decides-and (not (is_unused r.rule.need)) (filled v) (Decides-not (is_unused r.rule.need) (unused_decides r.rule.need)) (filled_decides v)

-- a rule finds a fault in an element that it judges
finds_decides : (good : ElementRule → Bool) (Q : ElementRule → Type 0) → ((r : ElementRule) → Decides (not (good r)) (Q r)) → (v : List ℕ) (o : Option ElementRule)
    → Decides (test (λ r. judges r v && not (good r)) o) ((r : ElementRule) × (o ≡ Some r) × (((r.rule.need ≢ Unused) × (v ≢ [])) × Q r))
finds_decides good Q d v o =
    test_decides (λ r. judges r v && not (good r)) (λ r. ((r.rule.need ≢ Unused) × (v ≢ [])) × Q r) (λ r. Decides-and (judges r v) (not (good r)) (judges_decides r v) (d r)) o

lacks_decides : (v : List ℕ) (o : Option ElementRule) → Decides (lacks o v) ((r : ElementRule) × (o ≡ Some r) × ((r.rule.need ≡ Must) × (v ≡ [])))
lacks_decides v o =
    test_decides (λ r. is_must r.rule.need && not (filled v)) (λ r. (r.rule.need ≡ Must) × (v ≡ [])) (λ r. Decides-and (is_must r.rule.need) (not (filled v)) (must_decides r.rule.need) (empty_decides v)) o

abbrev Free : Option ElementRule → Type 0
Free o = (o ≡ None) ⊎ ((r : ElementRule) × (o ≡ Some r) × (r.rule.need ≡ Unused))

exceeds_decides : (v : List ℕ) (o : Option ElementRule) → Decides (exceeds o v) (Free o × (v ≢ []))
exceeds_decides v None = ((λ e. (inl refl, (filled_decides v).0 e)), (λ h. (filled_decides v).1 h.1))
exceeds_decides v (Some r) =
    let d = Decides-and (is_unused r.rule.need) (filled v) (unused_decides r.rule.need) (filled_decides v) in
    ((λ e. let t = d.0 e in (inr (r, refl, t.0), t.1)), (λ h. d.1 (own h.0, h.1)))
  where
    own : Free (Some r) → r.rule.need ≡ Unused
    own (inl e) = absurd (some_not_none r e)
    own (inr t) = ap (λ (x : ElementRule). x.rule.need) (same_some r t.0 t.1) ∙ t.2

false_decides : (b : Bool) → Decides (not b) (b ≡ false)
false_decides b = (not-true b, not_from_false b)

module _ (m : Meaning) (separator : ℕ) (p : PlacedSegment) where
  pair_test_decides : (e : ℕ) → Decides (is_in_wrong_pair m separator p.1.row p.0 e (value separator p e)) (((e ≡ 2) × (p.1.row ≡ 2)) × (((value separator p 1 ≢ []) × (value separator p e ≢ [])) × (m.kind (value separator p 1) (value separator p e) ≡ Wrong)))
  pair_test_decides e =
      Decides-and (eqb e 2 && eqb p.1.row 2) ((filled (value separator p 1) && filled (value separator p e)) && is_wrong (m.kind (value separator p 1) (value separator p e)))
      (Decides-and (eqb e 2) (eqb p.1.row 2) (Decides-eqb e 2) (Decides-eqb p.1.row 2))
      (Decides-and (filled (value separator p 1) && filled (value separator p e)) (is_wrong (m.kind (value separator p 1) (value separator p e)))
      (Decides-and (filled (value separator p 1)) (filled (value separator p e)) (filled_decides (value separator p 1)) (filled_decides (value separator p e)))
      (wrong_decides (m.kind (value separator p 1) (value separator p e))))

  pub asks_decides : (e : ℕ) → Decides (asks_for m separator p.1.row p.0 e)
      ((s : Standing) × (row_at m p.1.row ≡ Some s) × ((q : ℕ × ℕ) × OneOf s.this.pairs q × ((eqb e q.1 && filled (value separator p q.0)) ≡ true)))
  asks_decides e =
      test_decides (λ (s : Standing). any_pair (λ q. eqb e q.1 && filled (value separator p q.0)) s.this.pairs) _
      (λ s. pair_decides (λ q. eqb e q.1 && filled (value separator p q.0)) s.this.pairs) (row_at m p.1.row)

  module _ (k : ℕ) (z : List PlacedSegment) where
    abbrev Tests : ℕ → List ℕ → List (Bool × ℕ)
    Tests e v = element_tests m separator p.1.row p.0 e v

    abbrev At : ℕ → Fault → Type 0
    At e f = Hits k e (element_of_segment separator p.0 e).0 (Tests e (value separator p e)) f

    -- a test that holds is a cause
    out_part : (e : ℕ) → 1 ≤ e → (f : Fault) → At e f → ElementMet m separator k z p f
    out_part e l f (inl h) =
        let t = (lacks_decides (value separator p e) (rule_at m p.1.row e)).0 h.0 in
        (8, e, empty_must t.0 (l, t.1) t.2.0 t.2.1, h.1)
    out_part e l f (inr (inl h)) =
        let t = (exceeds_decides (value separator p e) (rule_at m p.1.row e)).0 h.0 in
        (9, e, filled_unused (l, t.0) t.1, h.1)
    out_part e l f (inr (inr (inl h))) =
        let t = (finds_decides (λ r. good_length r.rule.form r.rule.least r.rule.greatest (value separator p e)) _ (λ r. false_decides _) (value separator p e) (rule_at m p.1.row e)).0 h.0 in
        (10, e, wrong_length t.0 ((l, t.1), t.2.0.0, t.2.0.1) t.2.1, h.1)
    out_part e l f (inr (inr (inr (inl h)))) =
        let t = (finds_decides (λ r. good_type r.rule.form (value separator p e)) _ (λ r. Decides-not _ (types_mean r.rule.form (value separator p e))) (value separator p e) (rule_at m p.1.row e)).0 h.0 in
        (11, e, wrong_type t.0 ((l, t.1), t.2.0.0, t.2.0.1) t.2.1, h.1)
    out_part e l f (inr (inr (inr (inr (inl h))))) = go (or_cases (is_wrong_code (rule_at m p.1.row e) (value separator p e)) (is_in_wrong_pair m separator p.1.row p.0 e (value separator p e)) h.0)
      where
        go : (is_wrong_code (rule_at m p.1.row e) (value separator p e) ≡ true) ⊎ (is_in_wrong_pair m separator p.1.row p.0 e (value separator p e) ≡ true) → ElementMet m separator k z p f
        go (inl y) =
            let t = (finds_decides (λ r. admits r.codes (value separator p e)) _ (λ r. Decides-not _ (admits_decides r.codes (value separator p e))) (value separator p e) (rule_at m p.1.row e)).0 y in
            (12, e, wrong_code t.0 ((l, t.1), t.2.0.0, t.2.0.1) t.2.1, h.1)
        go (inr y) =
            let t = (pair_test_decides e).0 y in
            let w : (value separator p 2 ≢ []) × (m.kind (value separator p 1) (value separator p 2) ≡ Wrong) =
            subst (λ (d : ℕ). (value separator p d ≢ []) × (m.kind (value separator p 1) (value separator p d) ≡ Wrong)) t.0.0 (t.1.0.1, t.1.1) in
            (12, 2, wrong_pair t.0.1 t.1.0.0 w.0 w.1, h.1 ∙ ap (λ (d : ℕ). fault 12 k d (element_of_segment separator p.0 d).0) t.0.0)
    out_part e l f (inr (inr (inr (inr (inr (inl h)))))) =
        let a = and_parts (not (filled (value separator p e))) (asks_for m separator p.1.row p.0 e) h.0 in
        let t = (asks_decides e).0 a.1 in
        let q = t.2.0 in
        let b = and_parts (eqb e q.1) (filled (value separator p q.0)) t.2.2 in
        let same : (q.0, q.1) ≡ (q.0, e) = (let w = eqb-true e q.1 b.0 in λ i. (q.0, sym w i)) in
        (13, e, broken_pair q.0 (l, (t.0, t.1, subst (OneOf t.0.this.pairs) same t.2.1)) ((filled_decides (value separator p q.0)).0 b.1) ((empty_decides (value separator p e)).0 a.0), h.1)
    out_part e l f (inr (inr (inr (inr (inr (inr h)))))) = elim h [ ]

    -- what is looked for, element by element
    abbrev Looked : Fault → Type 0
    Looked =
        Or (Any (HitsPart 3 k Tests (λ e v. refl)) 1 (present separator p.0)) (Any (HitsPart 3 k Tests (λ e v. refl)) (suc (length (present separator p.0))) (absent m separator p.1.row p.0))

    out_looked : (f : Fault) → Looked f → ElementMet m separator k z p f
    out_looked f (inl (e, part, i, h)) =
        let t = present_is separator p.0 e part i in
        out_part e t.0 f (subst (λ (x : Part). Hits k e x.0 (Tests e x.1) f) t.1 h)
    out_looked f (inr (e, part, i, h)) =
        let t = absent_is separator p.0 (limit_at m p.1.row) e part i in
        out_part e t.0 f (subst (λ (x : Part). Hits k e x.0 (Tests e x.1) f) t.1 h)

    -- an element that a rule names or that is there is looked at
    in_looked : (e : ℕ) → 1 ≤ e → (e ≤ length (present separator p.0)) ⊎ (e ≤ limit_at m p.1.row) → (f : Fault) → At e f → Looked f
    in_looked e l w f h = go w (cases_lt (length (present separator p.0)) e)
      where
        go : (e ≤ length (present separator p.0)) ⊎ (e ≤ limit_at m p.1.row) → (length (present separator p.0) < e) ⊎ (e ≤ length (present separator p.0)) → Looked f
        go w (inr i) = inl (e, element_of_segment separator p.0 e, is_present separator p.0 e l i, h)
        go (inl i) (inl x) = absurd (omega arith)
        go (inr i) (inl x) = inr (e, element_of_segment separator p.0 e, is_absent separator p.0 (limit_at m p.1.row) e x i, h)

    -- at the name: the set lacks a row
    abbrev Named : Fault → Type 0
    Named f = Hits k 0 p.0.place ((is_row_lacking m separator z p, 13) ∷ []) f

    row_decides : (r : ℕ) → Decides (not (any_of (has_row r) (since_last (has_row 1) z ++ (p ∷ [])))) (AllByRecursion (λ (q : PlacedSegment). q.1.row ≢ r) (since_last (has_row 1) z ++ (p ∷ [])))
    row_decides r = none_decides (has_row r) (λ (q : PlacedSegment). q.1.row ≡ r) (λ q. Decides-eqb q.1.row r) (since_last (has_row 1) z ++ (p ∷ []))

    needed_out : (o : Option PlacedSegment) (r : ℕ) → and_then_option o (λ b. m.needed (value separator b 2)) ≡ Some r → (b : PlacedSegment) × (o ≡ Some b) × (m.needed (value separator b 2) ≡ Some r)
    needed_out None r e = absurd (some_not_none r (sym e))
    needed_out (Some b) r e = (b, refl, e)

    out_named : (f : Fault) → Named f → ElementMet m separator k z p f
    out_named f (inl h) =
        let a = and_parts (is_named separator (codes "SE") p) (test (λ r. not (any_of (has_row r) (since_last (has_row 1) z ++ (p ∷ [])))) (needed_row m separator z)) h.0 in
        let t = (test_decides (λ r. not (any_of (has_row r) (since_last (has_row 1) z ++ (p ∷ [])))) _ row_decides (needed_row m separator z)).0 a.1 in
        let b = needed_out (last_of (has_row 2) z) t.0 t.1 in
        (13, 0, missing_row b.0 t.0 ((bytes_eq-Decides (value separator p 0) (codes "SE")).0 a.0) b.1 b.2 t.2, h.1 ∙ ap (fault 13 k 0) (sym (name_place separator p.0)))
    out_named f (inr h) = elim h [ ]

    -- a cause is looked for
    in_cause : {n e : ℕ} → ElementFails m separator z p n e → (f : Fault) → f ≡ fault n k e (element_of_segment separator p.0 e).0 → Or Named Looked f
    in_cause (empty_must {e = e} r h d v) f q =
        inr (in_looked e h.0 (inr (rule_within m p.1.row e r h.1)) f (inl ((lacks_decides (value separator p e) (rule_at m p.1.row e)).1 (r, h.1, (d, v)), q)))
    in_cause (filled_unused {e = e} u v) f q =
        inr (in_looked e u.0 (inl (filled_present separator p.0 e v)) f (inr (inl ((exceeds_decides (value separator p e) (rule_at m p.1.row e)).1 (u.1, v), q))))
    in_cause (wrong_length {e = e} r j h) f q =
        inr (in_looked e j.0.0 (inl (filled_present separator p.0 e j.2)) f (inr (inr (inl (
          (finds_decides (λ r. good_length r.rule.form r.rule.least r.rule.greatest (value separator p e)) _ (λ r. false_decides _) (value separator p e) (rule_at m p.1.row e)).1
              (r, j.0.1, ((j.1, j.2), h)),
          q,
        )))))
    in_cause (wrong_type {e = e} r j h) f q =
        inr (in_looked e j.0.0 (inl (filled_present separator p.0 e j.2)) f (inr (inr (inr (inl (
          (finds_decides (λ r. good_type r.rule.form (value separator p e)) _ (λ r. Decides-not _ (types_mean r.rule.form (value separator p e))) (value separator p e) (rule_at m p.1.row e)).1
              (r, j.0.1, ((j.1, j.2), h)),
          q,
        ))))))
    in_cause (wrong_code {e = e} r j h) f q =
        inr (in_looked e j.0.0 (inl (filled_present separator p.0 e j.2)) f (inr (inr (inr (inr (inl (
          or_left (is_wrong_code (rule_at m p.1.row e) (value separator p e)) (is_in_wrong_pair m separator p.1.row p.0 e (value separator p e))
              ((finds_decides (λ r. admits r.codes (value separator p e)) _ (λ r. Decides-not _ (admits_decides r.codes (value separator p e))) (value separator p e) (rule_at m p.1.row e)).1 (r, j.0.1, ((j.1, j.2), h))),
          q,
        )))))))
    in_cause (wrong_pair b v w h) f q =
        inr (in_looked 2 (lit≤ tt) (inl (filled_present separator p.0 2 w)) f (inr (inr (inr (inr (inl (
          or_right (is_wrong_code (rule_at m p.1.row 2) (value separator p 2)) (is_in_wrong_pair m separator p.1.row p.0 2 (value separator p 2))
              ((pair_test_decides 2).1 ((refl, b), ((v, w), h))),
          q,
        )))))))
    in_cause (broken_pair {b = b} a h v w) f q =
        let s = h.1.0 in
        inr (in_looked b h.0 (inr (pairs_within m p.1.row s a b h.1.1 h.1.2).1) f (inr (inr (inr (inr (inr (inl (
          and_from (not (filled (value separator p b))) (asks_for m separator p.1.row p.0 b) ((empty_decides (value separator p b)).1 w)
              ((asks_decides b).1 (s, h.1.1, ((a, b), h.1.2, and_from (eqb b b) (filled (value separator p a)) (eq-eqb b b refl) ((filled_decides (value separator p a)).1 v)))),
          q,
        ))))))))
    in_cause (missing_row b r s l n h) f q =
        inl (inl (
          and_from (is_named separator (codes "SE") p) (test (λ r. not (any_of (has_row r) (since_last (has_row 1) z ++ (p ∷ [])))) (needed_row m separator z)) ((bytes_eq-Decides (value separator p 0) (codes "SE")).1 s)
              ((test_decides (λ r. not (any_of (has_row r) (since_last (has_row 1) z ++ (p ∷ [])))) _ row_decides (needed_row m separator z)).1 (r, ap (λ (o : Option PlacedSegment). and_then_option o (λ b. m.needed (value separator b 2))) l ∙ n, h)),
          q ∙ ap (fault 13 k 0) (name_place separator p.0),
        ))

    -- all of them lie in layer 3
    looked_lies : (f : Fault) → Looked f → (e : ℕ) × (1 ≤ e) × LiesAt 3 k e f
    looked_lies f (inl (e, part, i, h)) = (e, (present_is separator p.0 e part i).0, part_lies 3 k Tests (λ e v. refl) e part f h)
    looked_lies f (inr (e, part, i, h)) = (e, (absent_is separator p.0 (limit_at m p.1.row) e part i).0, part_lies 3 k Tests (λ e v. refl) e part f h)

    named_lies : (f : Fault) → Named f → LiesAt 3 k 0 f
    named_lies f h = hits_lie 3 k 0 p.0.place ((is_row_lacking m separator z p, 13) ∷ []) refl f h

    pub elements_judged : Judged (ElementMet m separator k z p) Anything (elements_check m separator k (is_row_lacking m separator z p) p.1.row p.0)
    elements_judged =
        judged_as (Or Named Looked) (ElementMet m separator k z p) Anything (elements_check m separator k (is_row_lacking m separator z p) p.1.row p.0)
        (λ f o. elim o [ inl h ↦ out_named f h | inr h ↦ out_looked f h ])
        (λ f t. in_cause t.2 f t.3)
        (judged_then Named Looked Anything Anything (first_of k 0 p.0.place ((is_row_lacking m separator z p, 13) ∷ [])) _
        (λ f g a b. let t = looked_lies g b in element_rising 3 k 0 t.0 f g t.1 (named_lies f a) t.2)
        (first_judged 3 k 0 p.0.place ((is_row_lacking m separator z p, 13) ∷ []) refl)
        (λ u n j. judged_then (Any (HitsPart 3 k Tests (λ e v. refl)) 1 (present separator p.0)) (Any (HitsPart 3 k Tests (λ e v. refl)) (suc (length (present separator p.0))) (absent m separator p.1.row p.0)) Anything Anything
        (each (element_check m separator k p.1.row p.0) 1 (present separator p.0)) _
        later
        (parts_judged 3 k Tests (λ e v. refl) (present separator p.0) 1)
        (λ u n j. parts_judged 3 k Tests (λ e v. refl) (absent m separator p.1.row p.0) (suc (length (present separator p.0))))))
      where
        later : (f g : Fault) → Any (HitsPart 3 k Tests (λ e v. refl)) 1 (present separator p.0) f → Any (HitsPart 3 k Tests (λ e v. refl)) (suc (length (present separator p.0))) (absent m separator p.1.row p.0) g → Before f g
        later f g (d, x, i, a) (e, y, j, b) =
            let l = item_below 1 (present separator p.0) d x i in
            let h = item_from (suc (length (present separator p.0))) (absent m separator p.1.row p.0) e y j in
            element_rising 3 k d e f g (omega arith) (part_lies 3 k Tests (λ e v. refl) d x f a) (part_lies 3 k Tests (λ e v. refl) e y g b)
