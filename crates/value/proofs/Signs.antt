-- The reader of decimals decides the rules of a decimal.
use Rattle.std.proofs.Common.{◌≡◌, ℕ, zero, suc, Bool, true, false, ◌&&◌, eqb, ◌⊎◌, List, [], ◌∷◌, Decides, sym, refl, ap, ◌∙◌, subst, inl, inr, arith}
use Rattle.std.proofs.lemmas.Bool.{true≢false, false≢true, ne_eqb, and_left, cases_eq, cases_Bool, cond-true, cond-false}
use Rattle.std.proofs.lemmas.Bool.Decides.{not_from_Decides, Decides-at, Decides-like}
use Rattle.std.specs.List.{AllByRecursion}
use Rattle.value.specs.Digits.{is_digit}
use Rattle.value.specs.Decimals.{decimal_from, decimal}
use Rattle.value.specs.Means.{Stands, Digit, Decimal}
use Rattle.value.proofs.Bytes.{digit_decides}

-- what a byte of a decimal is
abbrev Sign : ℕ → Type 0
Sign b = Digit b ⊎ ((b ≡ 46) ⊎ (b ≡ 45))

-- The rules of a decimal for the bytes that are left: `first` says that none stands before them, `point` that a point does,
-- and `digit` that a digit does.
record Rest (first point digit : Bool) (v : List ℕ) : Type 0 where
  bytes : AllByRecursion Sign v
  minus : (k : ℕ) → Stands v k 45 → (first ≡ true) × (k ≡ 0)
  once : (j k : ℕ) → Stands v j 46 → Stands v k 46 → (point ≡ false) × (j ≡ k)
  some_digit : (digit ≡ true) ⊎ ((k b : ℕ) × Stands v k b × Digit b)

module _ (x : ℕ) (v : List ℕ) where
  here : Stands (x ∷ v) 0 x
  here = (omega arith, refl)

  -- a byte that is left stands one place on in the whole
  pushed : (k b : ℕ) → Stands v k b → Stands (x ∷ v) (suc k) b
  pushed k b s = (omega (arith, s.0), s.1)

  pulled : (k b : ℕ) → Stands (x ∷ v) (suc k) b → Stands v k b
  pulled k b s = (omega (arith, s.0), s.1)

  -- no minus stands behind the first byte
  later : (first : Bool) → ((k : ℕ) → Stands (x ∷ v) k 45 → (first ≡ true) × (k ≡ 0)) → (k : ℕ) → Stands v k 45 → (false ≡ true) × (k ≡ 0)
  later first h k s = absurd (omega (arith, (h (suc k) (pushed k 45 s)).1))

  -- two points of the rest are two of the whole
  twice : (point : Bool) → ((j k : ℕ) → Stands (x ∷ v) j 46 → Stands (x ∷ v) k 46 → (point ≡ false) × (j ≡ k)) → (j k : ℕ) → Stands v j 46 → Stands v k 46 → (point ≡ false) × (j ≡ k)
  twice point h j k s t = let o = h (suc j) (suc k) (pushed j 46 s) (pushed k 46 t) in (o.0, omega (arith, o.1))

  -- a digit of the rest is one of the whole, and of the rest unless the first byte is it
  further : (digit : Bool) → (digit ≡ true) ⊎ ((k b : ℕ) × Stands v k b × Digit b) → (digit ≡ true) ⊎ ((k b : ℕ) × Stands (x ∷ v) k b × Digit b)
  further digit (inl e) = inl e
  further digit (inr (k, b, s, d)) = inr (suc k, b, pushed k b s, d)

  behind : (digit : Bool) → (Digit x → ⊥) → (digit ≡ true) ⊎ ((k b : ℕ) × Stands (x ∷ v) k b × Digit b) → (digit ≡ true) ⊎ ((k b : ℕ) × Stands v k b × Digit b)
  behind digit n (inl e) = inl e
  behind digit n (inr (zero, b, s, d)) = absurd (n (subst Digit (sym s.1) d))
  behind digit n (inr (suc k, b, s, d)) = inr (k, b, pulled k b s, d)

-- a digit comes first
module _ (b : ℕ) (v : List ℕ) (first point digit : Bool) (d : Digit b) where
  digit_to : Rest false point true v → Rest first point digit (b ∷ v)
  digit_to r = record { bytes = (inl d, r.bytes); minus = minus; once = once; some_digit = inr (0, b, here b v, d) }
    where
      minus : (k : ℕ) → Stands (b ∷ v) k 45 → (first ≡ true) × (k ≡ 0)
      minus zero s = let e : b ≡ 45 = s.1 in absurd (omega arith)
      minus (suc k) s = absurd (false≢true (r.minus k (pulled b v k 45 s)).0)

      once : (j k : ℕ) → Stands (b ∷ v) j 46 → Stands (b ∷ v) k 46 → (point ≡ false) × (j ≡ k)
      once zero k s t = let e : b ≡ 46 = s.1 in absurd (omega arith)
      once (suc j) zero s t = let e : b ≡ 46 = t.1 in absurd (omega arith)
      once (suc j) (suc k) s t = let o = r.once j k (pulled b v j 46 s) (pulled b v k 46 t) in (o.0, ap suc o.1)

  digit_from : Rest first point digit (b ∷ v) → Rest false point true v
  digit_from r = record { bytes = r.bytes.1; minus = later b v first r.minus; once = twice b v point r.once; some_digit = inl refl }

-- a point comes first
module _ (v : List ℕ) (first digit : Bool) where
  point_to : Rest false true digit v → Rest first false digit (46 ∷ v)
  point_to r = record { bytes = (inr (inl refl), r.bytes); minus = minus; once = once; some_digit = further 46 v digit r.some_digit }
    where
      minus : (k : ℕ) → Stands (46 ∷ v) k 45 → (first ≡ true) × (k ≡ 0)
      minus zero s = absurd (omega (arith, s.1))
      minus (suc k) s = absurd (false≢true (r.minus k (pulled 46 v k 45 s)).0)

      once : (j k : ℕ) → Stands (46 ∷ v) j 46 → Stands (46 ∷ v) k 46 → (false ≡ false) × (j ≡ k)
      once zero zero s t = (refl, refl)
      once zero (suc k) s t = absurd (true≢false (r.once k k (pulled 46 v k 46 t) (pulled 46 v k 46 t)).0)
      once (suc j) k s t = absurd (true≢false (r.once j j (pulled 46 v j 46 s) (pulled 46 v j 46 s)).0)

  point_from : Rest first false digit (46 ∷ v) → Rest false true digit v
  point_from r =
      record {
        bytes = r.bytes.1;
        minus = later 46 v first r.minus;
        once = λ j k s t. absurd (omega (arith, (r.once 0 (suc j) (here 46 v) (pushed 46 v j 46 s)).1));
        some_digit = behind 46 v digit (λ d. omega (arith, d.0)) r.some_digit;
      }

  point_decides : (point : Bool) → Decides (decimal_from false true digit v) (Rest false true digit v) → Decides (decimal_from first point digit (46 ∷ v)) (Rest first point digit (46 ∷ v))
  point_decides true d = (λ h. absurd (false≢true h), λ r. absurd (true≢false (r.once 0 0 (here 46 v) (here 46 v)).0))
  point_decides false d = Decides-like (decimal_from false true digit v) point_to point_from d

-- a minus comes first
module _ (v : List ℕ) (point digit : Bool) where
  minus_to : Rest false point digit v → Rest true point digit (45 ∷ v)
  minus_to r = record { bytes = (inr (inr refl), r.bytes); minus = minus; once = once; some_digit = further 45 v digit r.some_digit }
    where
      minus : (k : ℕ) → Stands (45 ∷ v) k 45 → (true ≡ true) × (k ≡ 0)
      minus zero s = (refl, refl)
      minus (suc k) s = absurd (false≢true (r.minus k (pulled 45 v k 45 s)).0)

      once : (j k : ℕ) → Stands (45 ∷ v) j 46 → Stands (45 ∷ v) k 46 → (point ≡ false) × (j ≡ k)
      once zero k s t = absurd (omega (arith, s.1))
      once (suc j) zero s t = absurd (omega (arith, t.1))
      once (suc j) (suc k) s t = let o = r.once j k (pulled 45 v j 46 s) (pulled 45 v k 46 t) in (o.0, ap suc o.1)

  minus_from : Rest true point digit (45 ∷ v) → Rest false point digit v
  minus_from r =
      record {
        bytes = r.bytes.1;
        minus = later 45 v true r.minus;
        once = twice 45 v point r.once;
        some_digit = behind 45 v digit (λ d. omega (arith, d.0)) r.some_digit;
      }

  minus_decides : (first : Bool) → Decides (decimal_from false point digit v) (Rest false point digit v) → Decides (decimal_from first point digit (45 ∷ v)) (Rest first point digit (45 ∷ v))
  minus_decides true d = Decides-like (decimal_from false point digit v) minus_to minus_from d
  minus_decides false d = (λ h. absurd (false≢true h), λ r. absurd (false≢true (r.minus 0 (here 45 v)).0))

-- any other byte comes first
other : (b : ℕ) (v : List ℕ) (first point digit : Bool) → is_digit b ≡ false → (b ≡ 46 → ⊥) → (b ≡ 45 → ⊥) → decimal_from first point digit (b ∷ v) ≡ false
other b v first point digit d p m =
    cond-false (is_digit b) _ _ d ∙ cond-false (eqb b 46 && _) _ _ (and_left (eqb b 46) _ (ne_eqb b 46 p)) ∙ cond-false (eqb b 45 && first) _ _ (and_left (eqb b 45) first (ne_eqb b 45 m))

-- what the first byte is
module _ (b : ℕ) (v : List ℕ) (first point digit : Bool) where
  abbrev Whole : ℕ → Type 0
  Whole x = Decides (decimal_from first point digit (x ∷ v)) (Rest first point digit (x ∷ v))

  by_first : (is_digit b ≡ true) ⊎ (is_digit b ≡ false) → (b ≡ 46) ⊎ (b ≡ 46 → ⊥) → (b ≡ 45) ⊎ (b ≡ 45 → ⊥)
      → Decides (decimal_from false point true v) (Rest false point true v) → Decides (decimal_from false true digit v) (Rest false true digit v)
      → Decides (decimal_from false point digit v) (Rest false point digit v) → Whole b
  by_first (inl d) p m after_digit after_point after_minus =
      let c = (digit_decides b).0 d in
      Decides-at _ _ (cond-true (is_digit b) _ _ d) (Decides-like (decimal_from false point true v) (digit_to b v first point digit c) (digit_from b v first point digit c) after_digit)
  by_first (inr d) (inl p) m after_digit after_point after_minus = subst Whole (sym p) (point_decides v first digit point after_point)
  by_first (inr d) (inr p) (inl m) after_digit after_point after_minus = subst Whole (sym m) (minus_decides v point digit first after_minus)
  by_first (inr d) (inr p) (inr m) after_digit after_point after_minus = (
    λ h. absurd (false≢true (sym (other b v first point digit d p m) ∙ h)),
    λ r. elim r.bytes.0 [ inl c ↦ absurd (not_from_Decides (is_digit b) (digit_decides b) d c) | inr (inl c) ↦ absurd (p c) | inr (inr c) ↦ absurd (m c) ],
  )

rest_decides : (v : List ℕ) (first point digit : Bool) → Decides (decimal_from first point digit v) (Rest first point digit v)
rest_decides [] first point digit = (to, from)
  where
    to : digit ≡ true → Rest first point digit []
    to h = record { bytes = tt; minus = λ k s. absurd (omega (arith, s.0)); once = λ j k s t. absurd (omega (arith, s.0)); some_digit = inl h }

    from : Rest first point digit [] → digit ≡ true
    from r = elim r.some_digit [ inl h ↦ h | inr s ↦ absurd (omega (arith, s.2.0)) ]
rest_decides (b ∷ v) first point digit =
    by_first b v first point digit (cases_Bool (is_digit b)) (cases_eq b 46) (cases_eq b 45)
    (rest_decides v false point true) (rest_decides v false true digit) (rest_decides v false point digit)

pub decimal_decides : (v : List ℕ) → Decides (decimal v) (Decimal v)
decimal_decides v = Decides-like (decimal v) to from (rest_decides v true false false)
  where
    to : Rest true false false v → Decimal v
    to r =
        record {
          bytes = r.bytes;
          minus = λ k s. (r.minus k s).1;
          point = λ j k s t. (r.once j k s t).1;
          digit = elim r.some_digit [ inl h ↦ absurd (false≢true h) | inr s ↦ s ];
        }

    from : Decimal v → Rest true false false v
    from d = record { bytes = d.bytes; minus = λ k s. (refl, d.minus k s); once = λ j k s t. (refl, d.point j k s t); some_digit = inr d.digit }
