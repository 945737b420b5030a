-- The segments of a list of bytes, found one after the other by searches.
use Rattle.std.proofs.Common.{◌≡◌, ℕ, zero, suc, ◌+◌, ◌-◌, ◌<◌, ◌≤◌, Bool, true, false, cond, eqb, ltb, ◌⊎◌, List, [], ◌∷◌, length, get_or, take, drop, sym, refl, ap, ◌∙◌, inl, inr, add-zero, zero-add, arith, length-drop}
use Rattle.std.proofs.lemmas.List.{get_or-drop, drop-drop, at_drop_all}
use Rattle.std.proofs.lemmas.List.Edits.{length-between}
use Rattle.std.proofs.lemmas.Bool.Decides.{nat_tests}
use Rattle.std.proofs.lemmas.Bool.{cond-true, cond-false, eqb-true, ne_eqb, or_cases, cases_lt, cases_Bool, lt-ltb, le-ltb}
use Rattle.std.specs.List.{between}
use Rattle.x12.specs.Lists.{filled}
use Rattle.x12.specs.Segments.{Part, Segment, segment, parts_of, push, is_break, unbroken, segments, segments_from, FirstFrom}
use Rattle.x12.specs.Class.{class_of}
use Rattle.x12.specs.Find.{Finds, Passes}
use Rattle.x12.proofs.Splits.{found_at, last_at, parts_head}

-- the first segment of some parts, and those after it
abbrev first_of : Part → List Part → List Segment
first_of s [] = cond (filled s.1) (segment s false ∷ []) []
first_of s (q ∷ ps) = segment s true ∷ segments (q ∷ ps)

segments_cons : (p : Part) (ps : List Part) → segments (p ∷ ps) ≡ first_of (unbroken p.0 p.1) ps
segments_cons p [] = refl
segments_cons p (q ∷ ps) = refl

-- a line break at the start of a part is skipped
break_skipped : (x p : ℕ) (v : List ℕ) (rest : List Part) → is_break x ≡ true → segments ((p, x ∷ v) ∷ rest) ≡ segments ((suc p, v) ∷ rest)
break_skipped x p v rest h =
    segments_cons (p, x ∷ v) rest
    ∙ ap (λ (s : Part). first_of s rest) (cond-true (is_break x) (unbroken (suc p) v) (p, x ∷ v) h)
    ∙ sym (segments_cons (suc p, v) rest)

break_small : (x : ℕ) → is_break x ≡ true → x ≤ 13
break_small x h = elim (or_cases (eqb x 13) (eqb x 10) h) [ inl e ↦ omega (arith, eqb-true x 13 e) | inr e ↦ omega (arith, eqb-true x 10 e) ]

passes_tail : (x : ℕ) (xs : List ℕ) (r : ℕ) → Passes (x ∷ xs) 0 (suc r) → Passes xs 0 r
passes_tail x xs r h =
    let hi = h.within in
    record {
      low = omega arith;
      within = omega arith;
      before = λ k _ lt. h.before (suc k) (omega arith) (omega arith);
      stops = λ lt. h.stops (omega arith);
    }

skipped : (xs : List ℕ) (b p r : ℕ) → 32 < b → Passes xs 0 r → segments (parts_of b p xs) ≡ segments (parts_of b (p + r) (drop r xs))
skipped xs b p zero big h = ap (λ (n : ℕ). segments (parts_of b n xs)) (sym (add-zero p))
skipped [] b p (suc r) big h = let w = h.within in absurd (omega arith)
skipped (x ∷ xs) b p (suc r) big h =
    let k : is_break x ≡ true = h.before 0 (omega arith) (omega arith) in
    let ne : x ≡ b → ⊥ = (λ e. omega (arith, break_small x k)) in
    let q = parts_head xs b (suc p) in
    let m : suc p + r ≡ p + suc r = omega arith in
    ap segments (cond-false (eqb x b) ((p, []) ∷ parts_of b (suc p) xs) (push p x (parts_of b (suc p) xs)) (ne_eqb x b ne) ∙ ap (push p x) q.2)
    ∙ break_skipped x p q.0 q.1 k
    ∙ ap segments (sym q.2)
    ∙ skipped xs b (suc p) r big (passes_tail x xs r h)
    ∙ ap (λ (n : ℕ). segments (parts_of b n (drop r xs))) m

passes_shifted : (xs : List ℕ) (at r : ℕ) → Passes xs at r → Passes (drop at xs) 0 (r - at)
passes_shifted xs at r h =
    let lo = h.low in
    let hi = h.within in
    record {
      low = omega arith;
      within = omega (arith, length-drop at xs);
      before = λ k _ lt. ap is_break (get_or-drop at xs k 0) ∙ h.before (at + k) (omega arith) (omega arith);
      stops = λ lt z. h.stops (omega (arith, length-drop at xs))
          (let e : at + (r - at) ≡ r = omega arith in ap is_break (sym (get_or-drop at xs (r - at) 0 ∙ ap (λ (n : ℕ). get_or xs n 0) e)) ∙ z);
    }

-- skipping the line breaks at a place changes no segment
pub skip_at : (xs : List ℕ) (b at r : ℕ) → 32 < b → Passes xs at r → segments_from b at xs ≡ segments_from b r xs
skip_at xs b at r big h =
    let lo = h.low in
    let e : at + (r - at) ≡ r = omega arith in
    skipped (drop at xs) b at (r - at) big (passes_shifted xs at r h)
    ∙ ap (λ (l : List ℕ). segments (parts_of b (at + (r - at)) l)) (drop-drop (r - at) at xs)
    ∙ ap (λ (n : ℕ). segments (parts_of b n (drop n xs))) e

-- at the end there is none
pub none_at : (xs : List ℕ) (b at : ℕ) → length xs ≤ at → segments_from b at xs ≡ []
none_at xs b at le = at_drop_all (λ l. segments (parts_of b at l)) xs at le

plain_part : (xs : List ℕ) (p n : ℕ) → (0 < length xs → is_break (get_or xs 0 0) ≡ true → ⊥) → unbroken p (take n xs) ≡ (p, take n xs)
plain_part xs p zero h = refl
plain_part [] p (suc n) h = refl
plain_part (x ∷ xs) p (suc n) h = go (cases_Bool (is_break x))
  where
    go : (is_break x ≡ true) ⊎ (is_break x ≡ false) → unbroken p (x ∷ take n xs) ≡ (p, x ∷ take n xs)
    go (inl e) = absurd (h (omega arith) e)
    go (inr e) = cond-false (is_break x) (unbroken (suc p) (take n xs)) (p, x ∷ take n xs) e

plain_at : (xs : List ℕ) (at : ℕ) → (at < length xs → is_break (get_or xs at 0) ≡ true → ⊥) → 0 < length (drop at xs) → is_break (get_or (drop at xs) 0 0) ≡ true → ⊥
plain_at xs at h lt z = h (omega (arith, length-drop at xs)) (ap is_break (sym (get_or-drop at xs 0 0 ∙ ap (λ (n : ℕ). get_or xs n 0) (add-zero at))) ∙ z)

-- a segment with its terminator, and those after it
closed_at : (xs : List ℕ) (b at e : ℕ) → (at < length xs → is_break (get_or xs at 0) ≡ true → ⊥) → Finds xs at b e → e < length xs
    → segments_from b at xs ≡ segment (at, between at e xs) true ∷ segments_from b (e + 1) xs
closed_at xs b at e plain h lt =
    let t = parts_head (drop (e + 1) xs) b (e + 1) in
    ap (λ (n : ℕ). segments (parts_of b n (drop at xs))) (sym (zero-add at))
    ∙ ap segments (found_at xs b 0 at e h lt)
    ∙ ap (λ (n : ℕ). segments ((n, between at e xs) ∷ parts_of b (0 + (e + 1)) (drop (e + 1) xs))) (zero-add at)
    ∙ ap (λ (n : ℕ). segments ((at, between at e xs) ∷ parts_of b n (drop (e + 1) xs))) (zero-add (e + 1))
    ∙ ap (λ (l : List Part). segments ((at, between at e xs) ∷ l)) t.2
    ∙ ap (λ (s : Part). first_of s ((e + 1, t.0) ∷ t.1)) (plain_part (drop at xs) at (e - at) (plain_at xs at plain))
    ∙ ap (λ (l : List Part). segment (at, between at e xs) true ∷ segments l) (sym t.2)

filled_take : (xs : List ℕ) (n : ℕ) → 0 < n → 0 < length xs → filled (take n xs) ≡ true
filled_take xs zero a h = absurd (omega arith)
filled_take [] (suc n) a h = absurd (omega arith)
filled_take (x ∷ xs) (suc n) a h = refl

-- what is left without a terminator
open_at : (xs : List ℕ) (b at e : ℕ) → (at < length xs → is_break (get_or xs at 0) ≡ true → ⊥) → Finds xs at b e → length xs ≤ e → at < length xs
    → segments_from b at xs ≡ segment (at, between at e xs) false ∷ []
open_at xs b at e plain h le lt =
    ap (λ (n : ℕ). segments (parts_of b n (drop at xs))) (sym (zero-add at))
    ∙ ap segments (last_at xs b 0 at e h le)
    ∙ ap (λ (n : ℕ). segments ((n, between at e xs) ∷ [])) (zero-add at)
    ∙ ap (λ (s : Part). first_of s []) (plain_part (drop at xs) at (e - at) (plain_at xs at plain))
    ∙ cond-true (filled (between at e xs)) (segment (at, between at e xs) false ∷ []) [] (filled_take (drop at xs) (e - at) (omega arith) (omega (arith, length-drop at xs)))

-- the segment at a place, with its terminator or without
pub segment_at : (xs : List ℕ) (b at e : ℕ) → (at < length xs → is_break (get_or xs at 0) ≡ true → ⊥) → Finds xs at b e → at < length xs
    → segments_from b at xs ≡ segment (at, between at e xs) (ltb e (length xs)) ∷ segments_from b (e + 1) xs
segment_at xs b at e plain h lt =
    elim (cases_lt e (length xs)) [
      | inl l ↦ closed_at xs b at e plain h l ∙ ap (λ (t : Bool). segment (at, between at e xs) t ∷ segments_from b (e + 1) xs) (sym (lt-ltb e (length xs) l))
      | inr g ↦ open_at xs b at e plain h g lt
          ∙ ap (λ (t : Bool). segment (at, between at e xs) t ∷ []) (sym (le-ltb e (length xs) g))
          ∙ ap (λ (l : List Segment). segment (at, between at e xs) (ltb e (length xs)) ∷ l) (sym (none_at xs b (e + 1) (omega arith)))
    ]

-- a delimiter is no line break
pub class_five : (b : ℕ) → class_of b ≡ 5 → 32 < b
class_five b h = grind (arith, nat_tests)

-- the segment after the line breaks at a place
pub first_from : (xs : List ℕ) (b at r e : ℕ) → 32 < b → Passes xs at r → r < length xs → Finds xs r b e
    → FirstFrom xs b at r (between r e xs) (ltb e (length xs))
first_from xs b at r e big p lt f =
    let lo = f.low in
    let hi = f.within in
    let n : length (between r e xs) ≡ e - r = length-between xs r e f.within in
    let m : r + length (between r e xs) ≡ e = omega arith in
    record {
      low = p.low;
      inside = omega arith;
      part = ap (λ (k : ℕ). between r k xs) (sym m);
      next = skip_at xs b at r big p ∙ segment_at xs b r e p.stops f lt
          ∙ ap (λ (k : ℕ). segment (r, between r e xs) (ltb e (length xs)) ∷ segments_from b (k + 1) xs) (sym m);
    }
