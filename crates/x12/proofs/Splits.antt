-- The parts of a list between marks, found one after the other by searches.
use Rattle.std.proofs.Common.{◌≡◌, ℕ, zero, suc, ◌+◌, ◌-◌, ◌<◌, ◌≤◌, Bool, true, false, cond, eqb, List, [], ◌∷◌, length, take, drop, sym, refl, ap, ◌∙◌, arith, length-drop}
use Rattle.std.proofs.lemmas.List.{get_or-drop, drop-drop}
use Rattle.std.proofs.lemmas.Bool.{cond-true, cond-false, eq-eqb, ne_eqb}
use Rattle.std.specs.List.{between}
use Rattle.x12.specs.Segments.{Part, parts_of, push}
use Rattle.x12.specs.Find.{Finds}

-- a search in a list, seen from where it began
pub finds_shifted : (xs : List ℕ) (at b r : ℕ) → Finds xs at b r → Finds (drop at xs) 0 b (r - at)
finds_shifted xs at b r h =
    let lo = h.low in
    let hi = h.within in
    record {
      low = omega arith;
      within = omega (arith, length-drop at xs);
      before = λ k _ lt e. h.before (at + k) (omega arith) (omega arith) (sym (get_or-drop at xs k 0) ∙ e);
      found = λ lt. get_or-drop at xs (r - at) 0 ∙ (let e : at + (r - at) ≡ r = omega arith in rw e (h.found (omega (arith, length-drop at xs))));
    }

pub finds_tail : (x : ℕ) (xs : List ℕ) (b r : ℕ) → Finds (x ∷ xs) 0 b (suc r) → Finds xs 0 b r
finds_tail x xs b r h =
    let hi = h.within in
    record {
      low = omega arith;
      within = omega arith;
      before = λ k _ lt e. h.before (suc k) (omega arith) (omega arith) e;
      found = λ lt. h.found (omega arith);
    }

-- the parts up to the first mark, and after it
parts_found : (xs : List ℕ) (b p r : ℕ) → Finds xs 0 b r → r < length xs → parts_of b p xs ≡ (p, take r xs) ∷ parts_of b (p + suc r) (drop (suc r) xs)
parts_found [] b p r h lt = absurd (omega arith)
parts_found (x ∷ xs) b p zero h lt =
    let e : suc p ≡ p + 1 = omega arith in
    cond-true (eqb x b) ((p, []) ∷ parts_of b (suc p) xs) (push p x (parts_of b (suc p) xs)) (eq-eqb x b (h.found (omega arith))) ∙ ap (λ (n : ℕ). (p, []) ∷ parts_of b n xs) e
parts_found (x ∷ xs) b p (suc r) h lt =
    let e : suc p + suc r ≡ p + suc (suc r) = omega arith in
    cond-false (eqb x b) ((p, []) ∷ parts_of b (suc p) xs) (push p x (parts_of b (suc p) xs)) (ne_eqb x b (h.before 0 (omega arith) (omega arith)))
    ∙ ap (push p x) (parts_found xs b (suc p) r (finds_tail x xs b r h) (omega arith))
    ∙ ap (λ (n : ℕ). (p, x ∷ take r xs) ∷ parts_of b n (drop (suc r) xs)) e

-- with no mark there is one part
parts_last : (xs : List ℕ) (b p r : ℕ) → Finds xs 0 b r → length xs ≤ r → parts_of b p xs ≡ (p, take r xs) ∷ []
parts_last [] b p zero h le = refl
parts_last [] b p (suc r) h le = refl
parts_last (x ∷ xs) b p zero h le = absurd (omega arith)
parts_last (x ∷ xs) b p (suc r) h le =
    cond-false (eqb x b) ((p, []) ∷ parts_of b (suc p) xs) (push p x (parts_of b (suc p) xs)) (ne_eqb x b (h.before 0 (omega arith) (omega arith)))
    ∙ ap (push p x) (parts_last xs b (suc p) r (finds_tail x xs b r h) (omega arith))

-- the same from a place of the list on
pub found_at : (xs : List ℕ) (b p at e : ℕ) → Finds xs at b e → e < length xs → parts_of b (p + at) (drop at xs) ≡ (p + at, between at e xs) ∷ parts_of b (p + (e + 1)) (drop (e + 1) xs)
found_at xs b p at e h lt =
    let lo = h.low in
    let q : at + suc (e - at) ≡ e + 1 = omega arith in
    let n : p + at + suc (e - at) ≡ p + (e + 1) = omega arith in
    parts_found (drop at xs) b (p + at) (e - at) (finds_shifted xs at b e h) (omega (arith, length-drop at xs))
    ∙ ap (λ (m : ℕ). (p + at, between at e xs) ∷ parts_of b m (drop (suc (e - at)) (drop at xs))) n
    ∙ ap (λ (l : List ℕ). (p + at, between at e xs) ∷ parts_of b (p + (e + 1)) l) (drop-drop (suc (e - at)) at xs ∙ ap (λ (i : ℕ). drop i xs) q)

pub last_at : (xs : List ℕ) (b p at e : ℕ) → Finds xs at b e → length xs ≤ e → parts_of b (p + at) (drop at xs) ≡ (p + at, between at e xs) ∷ []
last_at xs b p at e h le =
    let lo = h.low in
    parts_last (drop at xs) b (p + at) (e - at) (finds_shifted xs at b e h) (omega (arith, length-drop at xs))

-- the first part begins where the list does
pub parts_head : (xs : List ℕ) (b p : ℕ) → (v : List ℕ) × (rest : List Part) × (parts_of b p xs ≡ (p, v) ∷ rest)
parts_head [] b p = ([], [], refl)
parts_head (x ∷ xs) b p = go (eqb x b) (parts_head xs b (suc p))
  where
    go : (t : Bool) → (v : List ℕ) × (rest : List Part) × (parts_of b (suc p) xs ≡ (suc p, v) ∷ rest)
        → (v : List ℕ) × (rest : List Part) × (cond t ((p, []) ∷ parts_of b (suc p) xs) (push p x (parts_of b (suc p) xs)) ≡ (p, v) ∷ rest)
    go true h = ([], parts_of b (suc p) xs, refl)
    go false h = (x ∷ h.0, h.1, ap (push p x) h.2)
