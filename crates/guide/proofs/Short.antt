-- A test, computed from a meaning, that the lengths of its rules are 32-bit numbers.
use Rattle.std.proofs.Common.{◌≡◌, ℕ, zero, suc, ◌^◌, Bool, true, false, cond, ◌&&◌, ◌==◌, ltb, List, [], ◌∷◌, Some, IfSome, Option}
use Rattle.std.proofs.lemmas.Bool.{and_parts, ltb-true}
use Rattle.std.specs.List.{list_all}
use Rattle.x12.specs.Lists.{nth}
use Rattle.guide.specs.Meaning.{ElementRule, Meaning, Standing, standing}
use Rattle.guide.specs.Asked.{over, and_then, find_rule, rule_of, Short}

abbrev pub short_rule : ElementRule → Bool
short_rule x = ltb x.rule.least (2 ^ 32) && ltb x.rule.greatest (2 ^ 32)

abbrev pub short_row : Standing → Bool
short_row s = list_all short_rule s.this.elements

found_by : (t : Bool) (x : ElementRule) (more : Option ElementRule) → short_rule x ≡ true → IfSome (over (λ y. y.rule) more) Short → IfSome (over (λ y. y.rule) (cond t (Some x) more)) Short
found_by true x more h k =
    let q = and_parts (ltb x.rule.least (2 ^ 32)) (ltb x.rule.greatest (2 ^ 32)) h in
    (ltb-true x.rule.least (2 ^ 32) q.0, ltb-true x.rule.greatest (2 ^ 32) q.1)
found_by false x more h k = k

found : (e : ℕ) (xs : List ElementRule) → list_all short_rule xs ≡ true → IfSome (over (λ x. x.rule) (find_rule e xs)) Short
found e [] h = tt
found e (x ∷ xs) h =
    let p = and_parts (short_rule x) (list_all short_rule xs) h in
    found_by (e == x.number) x (find_rule e xs) p.0 (found e xs p.1)

found_in : (e : ℕ) (rows : List Standing) (n : ℕ) → list_all short_row rows ≡ true
    → IfSome (over (λ x. x.rule) (and_then (nth rows n) (λ s. find_rule e s.this.elements))) Short
found_in e [] n h = tt
found_in e (s ∷ ss) zero h = tt
found_in e (s ∷ ss) (suc zero) h = found e s.this.elements (and_parts (short_row s) (list_all short_row ss) h).0
found_in e (s ∷ ss) (suc (suc n)) h = found_in e ss (suc n) (and_parts (short_row s) (list_all short_row ss) h).1

pub short_by_test : (m : Meaning) → list_all short_row (standing 0 m.tree) ≡ true → (n e : ℕ) → IfSome (rule_of m n e) Short
short_by_test m h n e = found_in e (standing 0 m.tree) n h
