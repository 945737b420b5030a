-- A test of the first bytes of a list, each with its place.
use Rattle.std.proofs.Common.{◌≡◌, ℕ, zero, suc, ◌+◌, ◌<◌, ◌≤◌, Bool, true, false, List, [], ◌∷◌, length, take, get_or, sym, refl, subst, zero-add, inl, inr, arith}
use Rattle.std.proofs.lemmas.Bool.{true≢false, and_parts, and_from, cases_Bool}
use Rattle.std.specs.List.{list_all, enumerate_from}
use Rattle.x12.specs.Header.{separator_of, terminator_of, placed, placed_at, layout_holds}
use Rattle.x12.proofs.Headers.{laid_out, placed_each}

module _ (f : ℕ → ℕ → Bool) where
  each_passes : (xs : List ℕ) (i n k : ℕ) → list_all (λ p. f p.0 p.1) (take n (enumerate_from i xs)) ≡ true → k < n → k < length xs → f (i + k) (get_or xs k 0) ≡ true
  each_passes [] i n k h a b = absurd (omega arith)
  each_passes (x ∷ xs) i zero k h a b = absurd (omega arith)
  each_passes (x ∷ xs) i (suc n) zero h a b =
      let e : i ≡ i + 0 = omega arith in subst (λ (m : ℕ). f m x ≡ true) e (and_parts (f i x) (list_all (λ p. f p.0 p.1) (take n (enumerate_from (i + 1) xs))) h).0
  each_passes (x ∷ xs) i (suc n) (suc k) h a b =
      let e : i + 1 + k ≡ i + suc k = omega arith in
      subst (λ (m : ℕ). f m (get_or xs k 0) ≡ true) e
      (each_passes xs (i + 1) n k (and_parts (f i x) (list_all (λ p. f p.0 p.1) (take n (enumerate_from (i + 1) xs))) h).1 (omega arith) (omega arith))

  all_pass : (xs : List ℕ) (i n : ℕ) → ((k : ℕ) → k < n → k < length xs → f (i + k) (get_or xs k 0) ≡ true) → list_all (λ p. f p.0 p.1) (take n (enumerate_from i xs)) ≡ true
  all_pass [] i zero h = refl
  all_pass [] i (suc n) h = refl
  all_pass (x ∷ xs) i zero h = refl
  all_pass (x ∷ xs) i (suc n) h =
      let e : i + 0 ≡ i = omega arith in
      and_from (f i x) (list_all (λ p. f p.0 p.1) (take n (enumerate_from (i + 1) xs))) (subst (λ (m : ℕ). f m x ≡ true) e (h 0 (omega arith) (omega arith)))
      (all_pass xs (i + 1) n (λ k a b. let q : i + suc k ≡ i + 1 + k = omega arith in subst (λ (m : ℕ). f m (get_or xs k 0) ≡ true) q (h (suc k) (omega arith) (omega arith))))

-- a test that holds exactly where each byte of the header has its place
same_layout : (I : List ℕ) (a : Bool) → (a ≡ true → (k : ℕ) → k < 105 → placed_at I k ≡ true) → (((k : ℕ) → k < 105 → placed_at I k ≡ true) → a ≡ true) → a ≡ layout_holds I
same_layout I true to from = laid_out I (to refl)
same_layout I false to from = elim (cases_Bool (layout_holds I)) [ inl t ↦ absurd (true≢false (sym (from (placed_each I t)))) | inr f ↦ sym f ]

pub laid_out_is : (I : List ℕ) → 106 ≤ length I → list_all (λ p. placed (separator_of I) (terminator_of I) p.0 p.1) (take 105 (enumerate_from 0 I)) ≡ layout_holds I
laid_out_is I long =
    same_layout I _
    (λ t k l. subst (λ (m : ℕ). placed (separator_of I) (terminator_of I) m (get_or I k 0) ≡ true) (zero-add k)
    (each_passes (placed (separator_of I) (terminator_of I)) I 0 105 k t l (omega arith)))
    (λ h. all_pass (placed (separator_of I) (terminator_of I)) I 0 105
    (λ k a b. subst (λ (m : ℕ). placed (separator_of I) (terminator_of I) m (get_or I k 0) ≡ true) (sym (zero-add k)) (h k a)))
