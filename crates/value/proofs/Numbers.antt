-- Numbers of i digits are below 10 ^ i, so 19 digits fit 64 bits, and the library reads them as they are written.
use Rattle.std.proofs.Common.{◌≡◌, ℕ, ◌+◌, ◌*◌, ◌^◌, ◌<◌, ◌≤◌, true, false, List, [], ◌∷◌, length, Option, Result, Ok, Err, MatchOption, sym, refl, subst, ap, ◌∙◌, pow-suc, add-one, arith, rules}
use Rattle.std.proofs.lemmas.Fmt.{IsAscii-from_digits}
use Rattle.std.proofs.lemmas.Str.{IsUtf8-from_ascii}
use Rattle.std.proofs.lemmas.Str.Parse.{IsNumeralModel, numerals_by_fold, digits_value_short, parse_digits, parse_gives}
use Rattle.std.proofs.lemmas.Bool.Decides.{nat_tests}
use Rattle.std.specs.Str.{IsUtf8}
use Rattle.std.specs.Str.Parse.{ParsesUnsigned}
use Rattle.std.specs.Result.{result_ok}
use Rattle.value.specs.Digits.{digits, number_from, number_of, numeral}

ten_more : (i : ℕ) → 10 ^ (i + 1) ≡ 10 ^ i * 10
ten_more i = ap (λ (k : ℕ). 10 ^ k) (add-one i) ∙ pow-suc 10 i

-- one more digit
pub below_ten_more : (n d i : ℕ) → n < 10 ^ i → d ≤ 9 → 10 * n + d < 10 ^ (i + 1)
below_ten_more n d i h l = omega (arith, ten_more i)

-- the words of the library for digits and the number that they write
pub numerals : IsNumeralModel (λ v. digits v ≡ true) number_of
numerals = numerals_by_fold (λ v. digits v ≡ true) (search rules) number_from (search rules)

-- digits are text
pub digits_utf8 : (v : List ℕ) → digits v ≡ true → IsUtf8 v
digits_utf8 v h = IsUtf8-from_ascii v (IsAscii-from_digits v (numerals.to v h))

-- at most 19 digits
pub fits_19 : (v : List ℕ) → digits v ≡ true → length v ≤ 19 → number_of v < 2 ^ 64
fits_19 v h l = omega (arith, digits_value_short numerals v 19 h l)

-- so what it reads of at most 19 digits is their number, and none of no digits
abbrev pub Reads : List ℕ → Option ℕ → Type 0
Reads v o = MatchOption o (numeral v ≡ false) (λ n. (numeral v ≡ true) × (n ≡ number_of v))

module _ {E : Type 0} where
  pub parsed : (v : List ℕ) (r : Result ℕ E) → digits v ≡ true → length v ≤ 19 → ParsesUnsigned 64 10 v r → Reads v (result_ok r)
  parsed [] (Ok x) d l h = absurd (omega (arith, (parse_digits numerals {E = E} 64 [] (Ok x) h d).0.0))
  parsed [] (Err e) d l h = refl
  parsed (b ∷ v) r d l h =
      let filled : numeral (b ∷ v) ≡ true = grind (arith, nat_tests) in
      let g = parse_gives numerals {E = E} 64 (b ∷ v) r h d (omega arith) (fits_19 (b ∷ v) d l) in
      subst (λ (q : Result ℕ E). Reads (b ∷ v) (result_ok q)) (sym g) (filled, refl)
