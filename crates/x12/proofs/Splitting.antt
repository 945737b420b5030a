-- Every list is split at a mark in one way.
use Rattle.std.proofs.Common.{◌≡◌, ℕ, zero, suc, ◌+◌, ◌<◌, true, false, eqb, ◌⊎◌, List, [], ◌∷◌, ◌++◌, length, sym, refl, ap, ◌∙◌, subst, inl, inr, arith}
use Rattle.std.proofs.lemmas.Bool.{cond-true, cond-false, eqb-true, eqb-false, eq-eqb, ne_eqb, cases_Bool}
use Rattle.std.specs.List.{ContainsAt as Has}
use Rattle.x12.specs.Segments.{Part, push, parts_of}
use Rattle.x12.specs.Laws.{Split, last, next, OneSplit}

has_none : (m : ℕ) → Has [] m → ⊥
has_none m h = let l : h.0 < 0 = h.1 in omega arith

has_head : (x : ℕ) (xs : List ℕ) → Has (x ∷ xs) x
has_head x xs = (0, omega arith, λ d. refl)

has_tail : (x m : ℕ) (xs : List ℕ) → Has xs m → Has (x ∷ xs) m
has_tail x m xs h = (suc h.0, (let l = h.1 in omega arith), h.2)

has_cons : (x m : ℕ) (xs : List ℕ) → (x ≡ m → ⊥) → (Has xs m → ⊥) → Has (x ∷ xs) m → ⊥
has_cons x m xs n t (zero, l, h) = n (h 0)
has_cons x m xs n t (suc k, l, h) = t (k, omega arith, h)

-- one more byte, which is no mark, in front of the first part
push_split : (mark at x : ℕ) (xs : List ℕ) (ps : List Part) → (x ≡ mark → ⊥) → Split mark (suc at) xs ps → Split mark at (x ∷ xs) (push at x ps)
push_split mark at x xs ps n (last v h) = last (x ∷ v) (has_cons x mark v n h)
push_split mark at x xs ps n (next v rest qs h r) =
    let e : suc (suc at + length v) ≡ suc (at + suc (length v)) = omega arith in
    next (x ∷ v) rest qs (has_cons x mark v n h) (subst (λ (p : ℕ). Split mark p rest qs) e r)

split_exists : (mark at : ℕ) (xs : List ℕ) → Split mark at xs (parts_of mark at xs)
split_exists mark at [] = last [] (has_none mark)
split_exists mark at (x ∷ xs) = go (cases_Bool (eqb x mark)) (split_exists mark (suc at) xs)
  where
    go : (eqb x mark ≡ true) ⊎ (eqb x mark ≡ false) → Split mark (suc at) xs (parts_of mark (suc at) xs) → Split mark at (x ∷ xs) (parts_of mark at (x ∷ xs))
    go (inl t) rest =
        let e : suc at ≡ suc (at + 0) = omega arith in
        let s : Split mark at (mark ∷ xs) ((at, []) ∷ parts_of mark (suc at) xs) = next [] xs (parts_of mark (suc at) xs) (has_none mark) (subst (λ (p : ℕ). Split mark p xs (parts_of mark (suc at) xs)) e rest) in
        subst (Split mark at (x ∷ xs)) (sym (cond-true (eqb x mark) ((at, []) ∷ parts_of mark (suc at) xs) (push at x (parts_of mark (suc at) xs)) t))
        (subst (λ (y : ℕ). Split mark at (y ∷ xs) ((at, []) ∷ parts_of mark (suc at) xs)) (sym (eqb-true x mark t)) s)
    go (inr t) rest =
        subst (Split mark at (x ∷ xs)) (sym (cond-false (eqb x mark) ((at, []) ∷ parts_of mark (suc at) xs) (push at x (parts_of mark (suc at) xs)) t))
        (push_split mark at x xs (parts_of mark (suc at) xs) (eqb-false x mark t) rest)

parts_unmarked : (mark at : ℕ) (v : List ℕ) → (Has v mark → ⊥) → parts_of mark at v ≡ (at, v) ∷ []
parts_unmarked mark at [] h = refl
parts_unmarked mark at (x ∷ v) h =
    cond-false (eqb x mark) ((at, []) ∷ parts_of mark (suc at) v) (push at x (parts_of mark (suc at) v)) (ne_eqb x mark (λ e. h (subst (Has (x ∷ v)) e (has_head x v))))
    ∙ ap (push at x) (parts_unmarked mark (suc at) v (λ t. h (has_tail x mark v t)))

parts_marked : (mark at : ℕ) (v rest : List ℕ) → (Has v mark → ⊥) → parts_of mark at (v ++ mark ∷ rest) ≡ (at, v) ∷ parts_of mark (suc (at + length v)) rest
parts_marked mark at [] rest h =
    let e : suc at ≡ suc (at + 0) = omega arith in
    cond-true (eqb mark mark) ((at, []) ∷ parts_of mark (suc at) rest) (push at mark (parts_of mark (suc at) rest)) (eq-eqb mark mark refl)
    ∙ ap (λ (p : ℕ). (at, []) ∷ parts_of mark p rest) e
parts_marked mark at (x ∷ v) rest h =
    let e : suc (suc at + length v) ≡ suc (at + suc (length v)) = omega arith in
    cond-false (eqb x mark) ((at, []) ∷ parts_of mark (suc at) (v ++ mark ∷ rest)) (push at x (parts_of mark (suc at) (v ++ mark ∷ rest)))
    (ne_eqb x mark (λ q. h (subst (Has (x ∷ v)) q (has_head x v))))
    ∙ ap (push at x) (parts_marked mark (suc at) v rest (λ t. h (has_tail x mark v t)))
    ∙ ap (λ (p : ℕ). (at, x ∷ v) ∷ parts_of mark p rest) e

split_only : (mark at : ℕ) (xs : List ℕ) (ps : List Part) → Split mark at xs ps → ps ≡ parts_of mark at xs
split_only mark at xs ps (last v h) = sym (parts_unmarked mark at v h)
split_only mark at xs ps (next v rest qs h r) =
    ap (λ (l : List Part). (at, v) ∷ l) (split_only mark (suc (at + length v)) rest qs r) ∙ sym (parts_marked mark at v rest h)

pub one_split : OneSplit
one_split mark at xs = (split_exists mark at xs, split_only mark at xs)
