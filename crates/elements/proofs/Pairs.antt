-- Pair rules, asked one by one.
use Rattle.std.proofs.Common.{◌≡◌, ℕ, ◌+◌, ◌<◌, true, false, ◌&&◌, eqb, Some, Decides, sym, refl, ap, ◌∙◌, inl, inr, arith}
use Rattle.std.proofs.lemmas.Bool.{and_parts, and_from, eqb-true, eq-eqb, cases_Bool, both_ways}
use Rattle.x12.specs.Lists.{filled}
use Rattle.x12.specs.Segments.{Segment}
use Rattle.x12.specs.Elements.{element_of_segment}
use Rattle.grammar.specs.Marks.{OneOf}
use Rattle.guide.specs.Meaning.{Meaning, Standing}
use Rattle.guide.specs.Asked.{row_at, any_pair, pairs_in, paired_to}
use Rattle.elements.specs.Rules.{limit_at, asks_for}
use Rattle.elements.proofs.Bounds.{pairs_within}
use Rattle.elements.proofs.Words.{pair_decides, test_decides}

module _ (m : Meaning) (separator r : ℕ) (s : Segment) (e : ℕ) where
  abbrev Given : Type 0
  Given = (row : Standing) × (row_at m r ≡ Some row) × ((q : ℕ × ℕ) × OneOf row.this.pairs q × ((eqb e q.1 && filled (element_of_segment separator s q.0).1) ≡ true))

  asked_decides : Decides (asks_for m separator r s e) Given
  asked_decides =
      test_decides (λ (row : Standing). any_pair (λ q. eqb e q.1 && filled (element_of_segment separator s q.0).1) row.this.pairs) _
      (λ row. pair_decides (λ q. eqb e q.1 && filled (element_of_segment separator s q.0).1) row.this.pairs) (row_at m r)

  pairs_decides : (a : ℕ) → Decides (pairs_in m r a e) ((row : Standing) × (row_at m r ≡ Some row) × ((q : ℕ × ℕ) × OneOf row.this.pairs q × ((eqb a q.0 && eqb e q.1) ≡ true)))
  pairs_decides a =
      test_decides (λ (row : Standing). any_pair (λ q. eqb a q.0 && eqb e q.1) row.this.pairs) _ (λ row. pair_decides (λ q. eqb a q.0 && eqb e q.1) row.this.pairs) (row_at m r)

  paired_decides : Decides (paired_to m r e) ((row : Standing) × (row_at m r ≡ Some row) × ((q : ℕ × ℕ) × OneOf row.this.pairs q × (eqb e q.1 ≡ true)))
  paired_decides = test_decides (λ (row : Standing). any_pair (λ q. eqb e q.1) row.this.pairs) _ (λ row. pair_decides (λ q. eqb e q.1) row.this.pairs) (row_at m r)

  never : (Given → ⊥) → asks_for m separator r s e ≡ false
  never n = elim (cases_Bool (asks_for m separator r s e)) [ inl t ↦ absurd (n (asked_decides.0 t)) | inr t ↦ t ]

  -- one pair rule with a filled element asks
  pub asked : (a : ℕ) → pairs_in m r a e ≡ true → filled (element_of_segment separator s a).1 ≡ true → asks_for m separator r s e ≡ true
  asked a p f =
      let t = (pairs_decides a).0 p in
      let q = t.2.0 in
      let b = and_parts (eqb a q.0) (eqb e q.1) t.2.2 in
      asked_decides.1 (t.0, t.1, (q, t.2.1, and_from (eqb e q.1) (filled (element_of_segment separator s q.0).1) b.1 (ap (λ (n : ℕ). filled (element_of_segment separator s n).1) (sym (eqb-true a q.0 b.0)) ∙ f)))

  -- where no pair rule names the element, none asks
  pub not_paired : paired_to m r e ≡ false → asks_for m separator r s e ≡ false
  not_paired h = never (λ t. let q = t.2.0 in both_ways (paired_to m r e) h (paired_decides.1 (t.0, t.1, (q, t.2.1, (and_parts (eqb e q.1) (filled (element_of_segment separator s q.0).1) t.2.2).0))))

  -- where none asks up to the limit, none asks
  pub none_asks : (limit : ℕ) → limit ≡ limit_at m r → ((a : ℕ) → a < limit + 1 → (pairs_in m r a e && filled (element_of_segment separator s a).1) ≡ true → ⊥) → asks_for m separator r s e ≡ false
  none_asks limit l n = never asks
    where
      asks : Given → ⊥
      asks t =
          let q = t.2.0 in
          let b = and_parts (eqb e q.1) (filled (element_of_segment separator s q.0).1) t.2.2 in
          let same : q.1 ≡ e = sym (eqb-true e q.1 b.0) in
          let w = (pairs_within m r t.0 q.0 q.1 t.1 t.2.1).0 in
          n q.0 (omega (arith, l)) (and_from (pairs_in m r q.0 e) (filled (element_of_segment separator s q.0).1)
          ((pairs_decides q.0).1 (t.0, t.1, (q, t.2.1, and_from (eqb q.0 q.0) (eqb e q.1) (eq-eqb q.0 q.0 refl) b.0))) b.1)

  -- past the limit of the row none asks
  pub none_past : limit_at m r < e → asks_for m separator r s e ≡ false
  none_past h = never asks
    where
      asks : Given → ⊥
      asks t =
          let q = t.2.0 in
          let b = and_parts (eqb e q.1) (filled (element_of_segment separator s q.0).1) t.2.2 in
          let same : e ≡ q.1 = eqb-true e q.1 b.0 in
          let w = (pairs_within m r t.0 q.0 q.1 t.1 t.2.1).1 in
          omega arith
