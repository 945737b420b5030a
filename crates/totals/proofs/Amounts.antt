-- What a quantity can be at most.
use Rattle.std.proofs.Common.{◌≡◌, ℕ, zero, suc, ◌+◌, ◌-◌, ◌*◌, ◌^◌, ◌<◌, ◌≤◌, true, false, ◌&&◌, leb, ◌⊎◌, List, [], ◌∷◌, length, get_or, replicate, refl, subst, inl, inr, arith, lit<}
use native.Mathlib.Nat.{pow-le-pow_right}
use Rattle.std.proofs.lemmas.Bool.{and_parts, leb-true, cases_Bool, cond-true, cond-false}
use Rattle.x12.specs.Class.{within}
use Rattle.std.specs.List.{list_all}
use Rattle.value.specs.Digits.{is_digit, digits, number_from, number_of}
use Rattle.value.proofs.Numbers.{below_ten_more}
use Rattle.totals.specs.Words.{quantity}

number_below : (i n : ℕ) (v : List ℕ) → digits v ≡ true → n < 10 ^ i → number_from n v < 10 ^ (i + length v)
number_below i n [] h l = let e : i ≡ i + 0 = omega arith in subst (λ (k : ℕ). n < 10 ^ k) e l
number_below i n (d ∷ ds) h l =
    let a = and_parts (is_digit d) (list_all is_digit ds) h in
    let b = and_parts (leb 48 d) (leb d 57) a.0 in
    let hi : d ≤ 57 = leb-true d 57 b.1 in
    let e : (i + 1) + length ds ≡ i + suc (length ds) = omega arith in
    subst (λ (k : ℕ). number_from (10 * n + (d - 48)) ds < 10 ^ k) e (number_below (i + 1) (10 * n + (d - 48)) ds a.1 (below_ten_more n (d - 48) i l (omega arith)))

-- ten digits write less than ten to the tenth
pub quantity_small : (v : List ℕ) → quantity v ≤ 10000000000
quantity_small v = go (cases_Bool (within 1 10 (length v) && digits v))
  where
    go : ((within 1 10 (length v) && digits v) ≡ true) ⊎ ((within 1 10 (length v) && digits v) ≡ false) → quantity v ≤ 10000000000
    go (inl t) =
        let a = and_parts (within 1 10 (length v)) (digits v) t in
        let b = and_parts (leb 1 (length v)) (leb (length v) 10) a.0 in
        let short : length v ≤ 10 = leb-true (length v) 10 b.1 in
        let one : 0 < 10 ^ 0 = lit< tt in
        let n = number_below 0 0 v a.1 one in
        let e : 0 + length v ≡ length v = omega arith in
        let ten : 0 < 10 = lit< tt in
        let few : 0 + length v ≤ 10 = omega arith in
        let p : 10 ^ (0 + length v) ≤ 10 ^ 10 = pow-le-pow_right {n = 10} ten few in
        let q : quantity v ≡ number_of v = cond-true (within 1 10 (length v) && digits v) (number_of v) 0 t in
        omega arith
    go (inr t) = let q : quantity v ≡ 0 = cond-false (within 1 10 (length v) && digits v) (number_of v) 0 t in omega arith

-- a list that has false everywhere has false at each place
pub none_used : (r n : ℕ) → get_or (replicate n false) r false ≡ false
none_used r zero = refl
none_used zero (suc n) = refl
none_used (suc r) (suc n) = none_used r n
