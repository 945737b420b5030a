-- No rule names an element past the limit of its row.
use Rattle.std.proofs.Common.{◌≡◌, ℕ, ◌≤◌, max, Bool, true, false, cond, eqb, leb, ◌⊎◌, List, [], ◌∷◌, Some, None, Option, sym, refl, ap, ◌∙◌, subst, inl, inr, arith, lit≤}
use native.Mathlib.Nat.{le-max_left, le-max_right}
use Rattle.std.proofs.lemmas.Bool.{eqb-true, cases_Bool, cond-true, cond-false}
use Rattle.grammar.specs.Marks.{OneOf}
use Rattle.guide.specs.Meaning.{ElementRule, Meaning, Standing}
use Rattle.guide.specs.Asked.{row_at, row_of, over, told, and_then, find_rule, element_at, last_rule, last_pair}
use Rattle.elements.specs.Envelope.{isa_rules, gs_rules, ge_rules, iea_rules, envelope_rules}
use Rattle.elements.specs.Rules.{rule_at, told_elements, limit_at}
use Rattle.elements.proofs.Words.{some_not_none}

-- a rule that is found is one of the list, so its number is at most the last
found_within : (e : ℕ) (es : List ElementRule) (r : ElementRule) → find_rule e es ≡ Some r → e ≤ last_rule es
found_within e [] r h = absurd (some_not_none r (sym h))
found_within e (x ∷ es) r h = go (cases_Bool (eqb e x.number)) (found_within e es r)
  where
    go : (eqb e x.number ≡ true) ⊎ (eqb e x.number ≡ false) → (find_rule e es ≡ Some r → e ≤ last_rule es) → e ≤ max x.number (last_rule es)
    go (inl t) k = let q : e ≡ x.number = eqb-true e x.number t in omega (arith, le-max_left x.number (last_rule es))
    go (inr t) k = omega (arith, k (sym (cond-false (eqb e x.number) (Some x) (find_rule e es) t) ∙ h), le-max_right x.number (last_rule es))

pair_within : (a b : ℕ) (ps : List (ℕ × ℕ)) → OneOf ps (a, b) → (a ≤ last_pair ps) × (b ≤ last_pair ps)
pair_within a b [] o = elim o [ ]
pair_within a b (p ∷ ps) (inl e) =
    let x : a ≡ p.0 = ap (λ (q : ℕ × ℕ). q.0) e in
    let y : b ≡ p.1 = ap (λ (q : ℕ × ℕ). q.1) e in
    (omega (arith, le-max_left p.0 p.1, le-max_left (max p.0 p.1) (last_pair ps)), omega (arith, le-max_right p.0 p.1, le-max_left (max p.0 p.1) (last_pair ps)))
pair_within a b (p ∷ ps) (inr o) =
    let t = pair_within a b ps o in
    (omega (arith, t.0, le-max_right (max p.0 p.1) (last_pair ps)), omega (arith, t.1, le-max_right (max p.0 p.1) (last_pair ps)))

envelope_within : (m : Meaning) (r : ℕ) → last_rule (envelope_rules m r) ≤ 16
envelope_within m r = go (eqb r 65) (eqb r 66) (eqb r 67)
  where
    go : (a b c : Bool) → last_rule (cond a (isa_rules m.isa12) (cond b (gs_rules m.gs08) (cond c ge_rules iea_rules))) ≤ 16
    go true b c = lit≤ tt
    go false true c = lit≤ tt
    go false false true = lit≤ tt
    go false false false = lit≤ tt

told_within : (o : Option Standing) (s : Standing) (n : ℕ) → o ≡ Some s → n ≤ max (last_rule s.this.elements) (last_pair s.this.pairs) → n ≤ told_elements (over told o)
told_within None s n e h = absurd (some_not_none s (sym e))
told_within (Some t) s n e h = subst (λ (x : Option Standing). n ≤ told_elements (over told x)) (sym e) h

row_of_rule : (o : Option Standing) (e : ℕ) (r : ElementRule) → and_then o (λ s. find_rule e s.this.elements) ≡ Some r → (s : Standing) × (o ≡ Some s) × (find_rule e s.this.elements ≡ Some r)
row_of_rule None e r h = absurd (some_not_none r (sym h))
row_of_rule (Some s) e r h = (s, refl, h)

module _ (m : Meaning) (n : ℕ) where
  pub rule_within : (e : ℕ) (r : ElementRule) → rule_at m n e ≡ Some r → e ≤ limit_at m n
  rule_within e r h = go (cases_Bool (leb 65 n))
    where
      go : (leb 65 n ≡ true) ⊎ (leb 65 n ≡ false) → e ≤ limit_at m n
      go (inl t) =
          let f : find_rule e (envelope_rules m n) ≡ Some r = sym (cond-true (leb 65 n) (find_rule e (envelope_rules m n)) (element_at m n e) t) ∙ h in
          let c : ◌≡◌ {A = ℕ} (cond (leb 65 n) 16 0) 16 = cond-true (leb 65 n) 16 0 t in
          omega (arith, found_within e (envelope_rules m n) r f, envelope_within m n, le-max_right (told_elements (row_of m n)) (cond (leb 65 n) 16 0))
      go (inr t) =
          let f = row_of_rule (row_at m n) e r (sym (cond-false (leb 65 n) (find_rule e (envelope_rules m n)) (element_at m n e) t) ∙ h) in
          let s = f.0 in
          let w = told_within (row_at m n) s e f.1 (omega (arith, found_within e s.this.elements r f.2, le-max_left (last_rule s.this.elements) (last_pair s.this.pairs))) in
          omega (arith, w, le-max_left (told_elements (row_of m n)) (cond (leb 65 n) 16 0))

  pub pairs_within : (s : Standing) (a b : ℕ) → row_at m n ≡ Some s → OneOf s.this.pairs (a, b) → (a ≤ limit_at m n) × (b ≤ limit_at m n)
  pairs_within s a b e o =
      let t = pair_within a b s.this.pairs o in
      let x = told_within (row_at m n) s a e (omega (arith, t.0, le-max_right (last_rule s.this.elements) (last_pair s.this.pairs))) in
      let y = told_within (row_at m n) s b e (omega (arith, t.1, le-max_right (last_rule s.this.elements) (last_pair s.this.pairs))) in
      (omega (arith, x, le-max_left (told_elements (row_of m n)) (cond (leb 65 n) 16 0)), omega (arith, y, le-max_left (told_elements (row_of m n)) (cond (leb 65 n) 16 0)))
