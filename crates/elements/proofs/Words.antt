-- The tests of an element decide the words of the rule book.
use Rattle.std.proofs.Common.{◌≡◌, ℕ, Bool, true, false, not, ◌||◌, ◌≢◌, ◌⊎◌, List, [], ◌∷◌, Some, None, Decides, Option, sym, refl, ap, ◌∙◌, subst, inl, inr, arith}
use Rattle.std.proofs.lemmas.Bool.{true≢false, not-true, not_from_false, cases_Bool, both_ways, or_left, or_right, or_from}
use Rattle.std.proofs.lemmas.Bool.Decides.{Decides-or}
use Rattle.std.specs.List.{AllByRecursion}
use Rattle.x12.specs.Lists.{filled}
use Rattle.grammar.specs.Marks.{OneOf}
use Rattle.guide.specs.declared.rules.Need.{Need}
use Rattle.guide.specs.declared.rules.Need.TheVariants.{Must, May, Unused}
use Rattle.guide.specs.declared.rules.Kind.{Kind}
use Rattle.guide.specs.declared.rules.Kind.TheVariants.{Original, FollowUp, Wrong}
use Rattle.guide.specs.Asked.{any_pair, test}
use Rattle.placing.specs.Placed.{any_of}
use Rattle.elements.specs.Tests.{is_must, is_unused, is_wrong}

-- by a contradiction of two constructors
pub some_not_none : {A : Type 0} (x : A) → Some x ≡ None → ⊥
some_not_none x e = let z : ◌≡◌ {A = ℕ} 0 1 = cc in omega arith

pub same_some : {A : Type 0} (x y : A) → Some x ≡ Some y → x ≡ y
same_some x y e = cc

pub filled_decides : (v : List ℕ) → Decides (filled v) (v ≢ [])
filled_decides [] = ((λ e. absurd (true≢false (sym e))), (λ h. absurd (h refl)))
filled_decides (b ∷ v) = ((λ e h. let z : ◌≡◌ {A = ℕ} 0 1 = cc in omega arith), (λ h. refl))

pub empty_decides : (v : List ℕ) → Decides (not (filled v)) (v ≡ [])
empty_decides [] = ((λ e. refl), (λ h. refl))
empty_decides (b ∷ v) = ((λ e. absurd (true≢false (sym e))), (λ h. let z : ◌≡◌ {A = ℕ} 0 1 = cc in absurd (omega arith)))

pub must_decides : (n : Need) → Decides (is_must n) (n ≡ Must)
must_decides Must = ((λ e. refl), (λ h. refl))
must_decides May = ((λ e. absurd (true≢false (sym e))), (λ h. let z : ◌≡◌ {A = ℕ} 0 1 = cc in absurd (omega arith)))
must_decides Unused = ((λ e. absurd (true≢false (sym e))), (λ h. let z : ◌≡◌ {A = ℕ} 0 1 = cc in absurd (omega arith)))

pub unused_decides : (n : Need) → Decides (is_unused n) (n ≡ Unused)
unused_decides Must = ((λ e. absurd (true≢false (sym e))), (λ h. let z : ◌≡◌ {A = ℕ} 0 1 = cc in absurd (omega arith)))
unused_decides May = ((λ e. absurd (true≢false (sym e))), (λ h. let z : ◌≡◌ {A = ℕ} 0 1 = cc in absurd (omega arith)))
unused_decides Unused = ((λ e. refl), (λ h. refl))

pub wrong_decides : (k : Kind) → Decides (is_wrong k) (k ≡ Wrong)
wrong_decides Original = ((λ e. absurd (true≢false (sym e))), (λ h. let z : ◌≡◌ {A = ℕ} 0 1 = cc in absurd (omega arith)))
wrong_decides FollowUp = ((λ e. absurd (true≢false (sym e))), (λ h. let z : ◌≡◌ {A = ℕ} 0 1 = cc in absurd (omega arith)))
wrong_decides Wrong = ((λ e. refl), (λ h. refl))

-- some pair of a list passes a test
pub pair_decides : (f : ℕ × ℕ → Bool) (ps : List (ℕ × ℕ)) → Decides (any_pair f ps) ((q : ℕ × ℕ) × OneOf ps q × (f q ≡ true))
pair_decides f [] = ((λ e. absurd (true≢false (sym e))), (λ h. elim h.1 [ ]))
pair_decides f (p ∷ ps) =
    let own : Decides (f p) (f p ≡ true) = ((λ e. e), (λ e. e)) in
    let d = Decides-or (f p) (any_pair f ps) own (pair_decides f ps) in
    ((λ e. elim (d.0 e) [ inl h ↦ (p, inl refl, h) | inr h ↦ (h.0, inr h.1, h.2) ]), (λ h. d.1 (apart h.0 h.1 h.2)))
  where
    apart : (q : ℕ × ℕ) → (q ≡ p) ⊎ OneOf ps q → f q ≡ true → (f p ≡ true) ⊎ ((q : ℕ × ℕ) × OneOf ps q × (f q ≡ true))
    apart q (inl e) h = inl (sym (ap f e) ∙ h)
    apart q (inr o) h = inr (q, o, h)

-- a test of what is there
pub test_decides : {A : Type 0} (t : A → Bool) (Q : A → Type 0) → ((x : A) → Decides (t x) (Q x)) → (o : Option A) → Decides (test t o) ((x : A) × (o ≡ Some x) × Q x)
test_decides t Q d None = ((λ e. absurd (true≢false (sym e))), (λ h. absurd (some_not_none h.0 (sym h.1))))
test_decides t Q d (Some x) = ((λ e. (x, refl, (d x).0 e)), (λ h. (d x).1 (subst Q (sym (same_some x h.0 h.1)) h.2)))

-- no item of a list passes a test
pub none_decides : {A : Type 0} (t : A → Bool) (Q : A → Type 0) → ((x : A) → Decides (t x) (Q x)) → (xs : List A) → Decides (not (any_of t xs)) (AllByRecursion (λ x. Q x → ⊥) xs)
none_decides t Q d [] = ((λ e. tt), (λ h. refl))
none_decides t Q d (x ∷ xs) = ((λ e. out (none_decides t Q d xs).0 (cases_Bool (t x)) (cases_Bool (any_of t xs)) e), (λ h. in' (cases_Bool (t x)) h.0 ((none_decides t Q d xs).1 h.1)))
  where
    out : (not (any_of t xs) ≡ true → AllByRecursion (λ y. Q y → ⊥) xs) → (t x ≡ true) ⊎ (t x ≡ false) → (any_of t xs ≡ true) ⊎ (any_of t xs ≡ false) → not (t x || any_of t xs) ≡ true → (Q x → ⊥) × AllByRecursion (λ y. Q y → ⊥) xs
    out r (inl y) b e = absurd (both_ways (t x || any_of t xs) (not-true (t x || any_of t xs) e) (or_left (t x) (any_of t xs) y))
    out r (inr y) (inl b) e = absurd (both_ways (t x || any_of t xs) (not-true (t x || any_of t xs) e) (or_right (t x) (any_of t xs) b))
    out r (inr y) (inr b) e = ((λ q. both_ways (t x) y ((d x).1 q)), r (not_from_false (any_of t xs) b))

    in' : (t x ≡ true) ⊎ (t x ≡ false) → (Q x → ⊥) → not (any_of t xs) ≡ true → not (t x || any_of t xs) ≡ true
    in' (inl y) n r = absurd (n ((d x).0 y))
    in' (inr y) n r = not_from_false (t x || any_of t xs) (or_from (t x) (any_of t xs) y (not-true (any_of t xs) r))
