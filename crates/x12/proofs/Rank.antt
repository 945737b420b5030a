-- The rank is an order: faults of equal rank have equal numbers, segments, layers and elements.
use Rattle.std.proofs.Common.{◌≡◌, ℕ, zero, suc, ◌<◌, ◌⊎◌, List, [], ◌∷◌, sym, refl, ap, ◌∙◌, subst₂, inl, inr, arith}
use Rattle.std.proofs.lemmas.Bool.{cases_order}
use Rattle.x12.specs.declared.faults.Fault.{Fault}
use Rattle.x12.specs.Rank.{Lex, key, Before}

pub lex_refl : (xs : List ℕ) → Lex xs xs
lex_refl [] = tt
lex_refl (x ∷ xs) = inr (refl, lex_refl xs)

pub lex_trans : (xs ys zs : List ℕ) → Lex xs ys → Lex ys zs → Lex xs zs
lex_trans [] ys zs p q = tt
lex_trans (x ∷ xs) [] zs p q = elim p [ ]
lex_trans (x ∷ xs) (y ∷ ys) [] p q = elim q [ ]
lex_trans (x ∷ xs) (y ∷ ys) (z ∷ zs) (inl p) (inl q) = inl (omega arith)
lex_trans (x ∷ xs) (y ∷ ys) (z ∷ zs) (inl p) (inr q) = let e : y ≡ z = q.0 in inl (omega arith)
lex_trans (x ∷ xs) (y ∷ ys) (z ∷ zs) (inr p) (inl q) = let e : x ≡ y = p.0 in inl (omega arith)
lex_trans (x ∷ xs) (y ∷ ys) (z ∷ zs) (inr p) (inr q) = inr (p.0 ∙ q.0, lex_trans xs ys zs p.1 q.1)

pub lex_total : (xs ys : List ℕ) → Lex xs ys ⊎ Lex ys xs
lex_total [] ys = inl tt
lex_total (x ∷ xs) [] = inr tt
lex_total (x ∷ xs) (y ∷ ys) = go (cases_order x y) (lex_total xs ys)
  where
    go : (x ≡ y) ⊎ ((x < y) ⊎ (y < x)) → Lex xs ys ⊎ Lex ys xs → Lex (x ∷ xs) (y ∷ ys) ⊎ Lex (y ∷ ys) (x ∷ xs)
    go (inl e) (inl t) = inl (inr (e, t))
    go (inl e) (inr t) = inr (inr (sym e, t))
    go (inr (inl h)) t = inl (inl h)
    go (inr (inr h)) t = inr (inl h)

pub lex_same : (xs ys : List ℕ) → Lex xs ys → Lex ys xs → xs ≡ ys
lex_same [] [] p q = refl
lex_same [] (y ∷ ys) p q = elim q [ ]
lex_same (x ∷ xs) [] p q = elim p [ ]
lex_same (x ∷ xs) (y ∷ ys) (inl p) (inl q) = absurd (omega arith)
lex_same (x ∷ xs) (y ∷ ys) (inl p) (inr q) = let e : y ≡ x = q.0 in absurd (omega arith)
lex_same (x ∷ xs) (y ∷ ys) (inr p) (inl q) = let e : x ≡ y = p.0 in absurd (omega arith)
lex_same (x ∷ xs) (y ∷ ys) (inr p) (inr q) = let t = lex_same xs ys p.1 q.1 in (λ i. p.0 i ∷ t i)

-- faults that equal two others rank as these do
pub moved : (f g f₀ g₀ : Fault) → f ≡ f₀ → g ≡ g₀ → Before f₀ g₀ → Before f g
moved f g f₀ g₀ a b h = subst₂ (λ (u : Fault) (v : Fault). Before u v) (sym a) (sym b) h

entry : List ℕ → ℕ → ℕ
entry [] i = 0
entry (x ∷ xs) zero = x
entry (x ∷ xs) (suc i) = entry xs i

pub same_rank : (f g : Fault) → Before f g → Before g f → (f.number ≡ g.number) × (f.segment ≡ g.segment) × (f.layer ≡ g.layer) × (f.element ≡ g.element)
unfolding entry
same_rank f g p q =
    let e = lex_same (key f) (key g) p q in
    (ap (λ (l : List ℕ). entry l 4) e, ap (λ (l : List ℕ). entry l 1) e, ap (λ (l : List ℕ). entry l 2) e, ap (λ (l : List ℕ). entry l 3) e)
