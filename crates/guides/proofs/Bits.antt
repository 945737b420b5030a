-- What the bits of a table say of its elements and its pair rules.
use Rattle.std.proofs.Common.{◌≡◌, ℕ, zero, suc, ◌+◌, ◌-◌, ◌*◌, ◌/◌, ◌%◌, ◌^◌, ◌<◌, mod-lt, pow-suc, Bool, true, false, cond, ◌&&◌, List, [], ◌∷◌, Some, None, Option, sym, refl, ap, ◌∙◌, ◌==◌, inl, inr, ◌||◌, arith}
use Rattle.std.proofs.lemmas.Bool.{cases_Bool, eqb-true, eq-eqb, ne_eqb, both_ways, and_parts}
use Rattle.std.specs.Prelude.{nat_eq}
use Rattle.std.specs.List.{list_any, find, slice_get}
use lib.Count.{ones, ones_step}
use Rattle.guides.specs.declared.tables.Element.{Element}
use Rattle.guides.specs.Bits.{bits_in, place_of, are_placed, has_bit, are_marked}

-- `count_ones` counts the bits, so it gives the place
ones_bits : (d n : ℕ) → n < 2 ^ d → ones n ≡ bits_in d n
unfolding ones
ones_bits zero n h = let e : n ≡ 0 = omega arith in ap ones e
ones_bits (suc d) n h = ones_step n ∙ ap (λ (x : ℕ). n % 2 + x) (ones_bits d (n / 2) (omega (arith, pow-suc 2 d)))

pub place_is : (bits n m r : ℕ) → m ≡ n → r ≡ (bits * 2 ^ ((32 - m % 32) % 32)) % 2 ^ 32 → place_of bits n ≡ ones r
place_is bits n m r f e =
    sym (ap ones (e ∙ ap (λ (k : ℕ). (bits * 2 ^ ((32 - k % 32) % 32)) % 2 ^ 32) f)
    ∙ ones_bits 32 ((bits * 2 ^ ((32 - n % 32) % 32)) % 2 ^ 32) (mod-lt (bits * 2 ^ ((32 - n % 32) % 32)) (omega arith)))

module _ (bits n : ℕ) where
  abbrev Has : Element → Bool
  Has x = n == x.number

  -- an element with the number stands at the place of the number
  same_place : (x : Element) (i : ℕ) → (n == x.number) ≡ true → place_of bits x.number ≡ i → place_of bits n ≡ i
  same_place x i e p = ap (place_of bits) (eqb-true n x.number e) ∙ p

  -- none stands behind that place
  none_behind : (xs : List Element) (i : ℕ) → are_placed bits i xs ≡ true → place_of bits n < i → find Has xs ≡ None
  none_behind [] i h l = refl
  none_behind (x ∷ xs) i k l =
      let t = and_parts (place_of bits x.number == i) (are_placed bits (suc i) xs) k in
      let p = eqb-true (place_of bits x.number) i t.0 in
      elim (cases_Bool (n == x.number)) [
        | inl s ↦ let e = same_place x i s p in absurd (omega (arith, e))
        | inr f ↦ ap (λ (b : Bool). cond b (Some x) (find Has xs)) f ∙ none_behind xs (suc i) t.1 (omega arith)
      ]

  abbrev keep : Option Element → Option Element
  keep None = None
  keep (Some x) = cond (n == x.number) (Some x) None

  -- so the one that stands there is the one that is found, if it has the number
  found_from : (xs : List Element) (i k : ℕ) → are_placed bits i xs ≡ true → place_of bits n ≡ i + k → keep (slice_get xs k) ≡ find Has xs
  found_from [] i k h e = refl
  found_from (x ∷ xs) i zero k e =
      let t = and_parts (place_of bits x.number == i) (are_placed bits (suc i) xs) k in
      ap (cond (n == x.number) (Some x)) (sym (none_behind xs (suc i) t.1 (omega (arith, e))))
  found_from (x ∷ xs) i (suc k) a e =
      let t = and_parts (place_of bits x.number == i) (are_placed bits (suc i) xs) a in
      let p = eqb-true (place_of bits x.number) i t.0 in
      elim (cases_Bool (n == x.number)) [
        | inl s ↦ let q = same_place x i s p in absurd (omega (arith, e, q))
        | inr f ↦ found_from xs (suc i) k t.1 (e ∙ omega arith) ∙ sym (ap (λ (b : Bool). cond b (Some x) (find Has xs)) f)
      ]

-- the same in the words of the look-up
found : (bits n : ℕ) (xs : List Element) (o : Option Element) → are_placed bits 0 xs ≡ true → o ≡ slice_get xs (place_of bits n) → keep bits n o ≡ find (λ e. n == e.number) xs
found bits n xs o h e = ap (keep bits n) e ∙ found_from bits n xs 0 (place_of bits n) h (omega arith)

pub there : (bits n : ℕ) (xs : List Element) (x : Element) → are_placed bits 0 xs ≡ true → Some x ≡ slice_get xs (place_of bits n) → x.number ≡ n → Some x ≡ find (λ e. n == e.number) xs
there bits n xs x h e t = ap (λ (b : Bool). cond b (Some x) None) (sym (eq-eqb n x.number (sym t))) ∙ found bits n xs (Some x) h e

pub another_there : (bits n : ℕ) (xs : List Element) (x : Element) → are_placed bits 0 xs ≡ true → Some x ≡ slice_get xs (place_of bits n) → (x.number ≡ n → ⊥) → None ≡ find (λ e. n == e.number) xs
another_there bits n xs x h e f = ap (λ (b : Bool). cond b (Some x) None) (sym (ne_eqb n x.number (λ q. f (sym q)))) ∙ found bits n xs (Some x) h e

pub none_there : (bits n : ℕ) (xs : List Element) → are_placed bits 0 xs ≡ true → None ≡ slice_get xs (place_of bits n) → None ≡ find (λ e. n == e.number) xs
none_there bits n xs h e = found bits n xs None h e

-- no pair rule names a number without a bit
pub no_first : (firsts seconds a b : ℕ) (ps : List (ℕ × ℕ)) → are_marked firsts seconds ps ≡ true → has_bit firsts a ≡ false → list_any (λ p. (a == p.0) && b == p.1) ps ≡ false
no_first firsts seconds a b [] h f = refl
no_first firsts seconds a b (p ∷ ps) k f =
    let u = and_parts (has_bit firsts p.0) (has_bit seconds p.1 && are_marked firsts seconds ps) k in
    let w = and_parts (has_bit seconds p.1) (are_marked firsts seconds ps) u.1 in
    elim (cases_Bool (a == p.0)) [
      | inl t ↦ absurd (both_ways (has_bit firsts a) f (ap (has_bit firsts) (eqb-true a p.0 t) ∙ u.0))
      | inr n ↦ ap (λ (c : Bool). (c && b == p.1) || list_any (λ q. (a == q.0) && b == q.1) ps) n ∙ no_first firsts seconds a b ps w.1 f
    ]

pub no_second : (firsts seconds b : ℕ) (ps : List (ℕ × ℕ)) → are_marked firsts seconds ps ≡ true → has_bit seconds b ≡ false → list_any (λ p. nat_eq b p.1) ps ≡ false
no_second firsts seconds b [] h f = refl
no_second firsts seconds b (p ∷ ps) k f =
    let u = and_parts (has_bit firsts p.0) (has_bit seconds p.1 && are_marked firsts seconds ps) k in
    let w = and_parts (has_bit seconds p.1) (are_marked firsts seconds ps) u.1 in
    elim (cases_Bool (nat_eq b p.1)) [
      | inl t ↦ absurd (both_ways (has_bit seconds b) f (ap (has_bit seconds) (eqb-true b p.1 t) ∙ w.0))
      | inr n ↦ ap (λ (c : Bool). c || list_any (λ q. nat_eq b q.1) ps) n ∙ no_second firsts seconds b ps w.1 f
    ]
