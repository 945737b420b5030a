-- One more at the end of a list: how counts, sums, the last of a sort and what follows it go on.
use Rattle.std.proofs.Common.{◌≡◌, ℕ, suc, ◌+◌, ◌≤◌, Bool, true, false, cond, ◌&&◌, ◌||◌, List, [], ◌∷◌, ◌++◌, length, Some, None, Option, refl, ap, ◌∙◌, arith, length-append}
use Rattle.placing.specs.Placed.{PlacedSegment, count_of, sum_of, any_of, or_else, last_of, since_last}
use Rattle.elements.specs.Rules.{value}
use Rattle.totals.specs.Words.{values_of, is_line, Line, last_line_from}
use Rattle.totals.specs.Tests.{every_of}

or_false : (a : Bool) → (a || false) ≡ a
or_false true = refl
or_false false = refl

or_assoc : (a b c : Bool) → (a || (b || c)) ≡ ((a || b) || c)
or_assoc true b c = refl
or_assoc false b c = refl

and_true : (a : Bool) → (a && true) ≡ a
and_true true = refl
and_true false = refl

and_assoc : (a b c : Bool) → (a && (b && c)) ≡ ((a && b) && c)
and_assoc true b c = refl
and_assoc false b c = refl

module _ {A : Type 0} where
  pub any_push : (f : A → Bool) (xs : List A) (y : A) → any_of f (xs ++ (y ∷ [])) ≡ (any_of f xs || f y)
  any_push f [] y = or_false (f y)
  any_push f (x ∷ xs) y = ap (λ (t : Bool). f x || t) (any_push f xs y) ∙ or_assoc (f x) (any_of f xs) (f y)

  pub every_push : (f : A → Bool) (xs : List A) (y : A) → every_of f (xs ++ (y ∷ [])) ≡ (every_of f xs && f y)
  every_push f [] y = and_true (f y)
  every_push f (x ∷ xs) y = ap (λ (t : Bool). f x && t) (every_push f xs y) ∙ and_assoc (f x) (every_of f xs) (f y)

  pub sum_push : (f : A → ℕ) (xs : List A) (y : A) → sum_of f (xs ++ (y ∷ [])) ≡ sum_of f xs + f y
  sum_push f [] y = omega arith
  sum_push f (x ∷ xs) y = let h = sum_push f xs y in omega arith

  pub count_push : (f : A → Bool) (xs : List A) (y : A) → count_of f (xs ++ (y ∷ [])) ≡ count_of f xs + cond (f y) 1 0
  count_push f [] y = omega arith
  count_push f (x ∷ xs) y = let h = count_push f xs y in omega arith

  or_else_push : (o : Option A) (b c : Bool) (x y : A) → or_else (cond b (Some y) o) (cond c (Some x) None) ≡ cond b (Some y) (or_else o (cond c (Some x) None))
  or_else_push o true c x y = refl
  or_else_push o false c x y = refl

  pub last_push : (f : A → Bool) (xs : List A) (y : A) → last_of f (xs ++ (y ∷ [])) ≡ cond (f y) (Some y) (last_of f xs)
  last_push f [] y = refl
  last_push f (x ∷ xs) y = ap (λ (o : Option A). or_else o (cond (f x) (Some x) None)) (last_push f xs y) ∙ or_else_push (last_of f xs) (f y) (f x) x y

  since_step : (a b : Bool) (s t whole : List A) (y : A) → cond (a || b) (cond b (y ∷ []) (s ++ (y ∷ []))) (whole ++ (y ∷ [])) ≡ cond b (y ∷ []) (cond a s whole ++ (y ∷ []))
  since_step true true s t whole y = refl
  since_step true false s t whole y = refl
  since_step false true s t whole y = refl
  since_step false false s t whole y = refl

  pub since_push : (f : A → Bool) (xs : List A) (y : A) → since_last f (xs ++ (y ∷ [])) ≡ cond (f y) (y ∷ []) (since_last f xs ++ (y ∷ []))
  since_push f [] y = same (f y)
    where
      same : (b : Bool) → (y ∷ []) ≡ cond b (y ∷ []) (y ∷ [])
      same true = refl
      same false = refl
  since_push f (x ∷ xs) y =
      (λ i. cond (any_push f xs y i) (since_push f xs y i) (x ∷ (xs ++ (y ∷ []))))
      ∙ since_step (any_of f xs) (f y) (since_last f xs) [] (x ∷ xs) y

  -- what adds up over a list, over the items since the last of a sort
  module _ (g : A → Bool) (xs : List A) (y : A) where
    pub since_sum : (f : A → ℕ) → sum_of f (since_last g (xs ++ (y ∷ []))) ≡ cond (g y) 0 (sum_of f (since_last g xs)) + f y
    since_sum f = ap (sum_of f) (since_push g xs y) ∙ go (g y)
      where
        go : (b : Bool) → sum_of f (cond b (y ∷ []) (since_last g xs ++ (y ∷ []))) ≡ cond b 0 (sum_of f (since_last g xs)) + f y
        go true = omega arith
        go false = sum_push f (since_last g xs) y

    pub since_count : (f : A → Bool) → count_of f (since_last g (xs ++ (y ∷ []))) ≡ cond (g y) 0 (count_of f (since_last g xs)) + cond (f y) 1 0
    since_count f = ap (count_of f) (since_push g xs y) ∙ go (g y)
      where
        go : (b : Bool) → count_of f (cond b (y ∷ []) (since_last g xs ++ (y ∷ []))) ≡ cond b 0 (count_of f (since_last g xs)) + cond (f y) 1 0
        go true = omega arith
        go false = count_push f (since_last g xs) y

    pub since_length : length (since_last g (xs ++ (y ∷ []))) ≡ cond (g y) 0 (length (since_last g xs)) + 1
    since_length = ap length (since_push g xs y) ∙ go (g y)
      where
        go : (b : Bool) → length (cond b (y ∷ []) (since_last g xs ++ (y ∷ []))) ≡ cond b 0 (length (since_last g xs)) + 1
        go true = omega arith
        go false = length-append (since_last g xs) (y ∷ [])

    pub since_any : (f : A → Bool) → any_of f (since_last g (xs ++ (y ∷ []))) ≡ (cond (g y) false (any_of f (since_last g xs)) || f y)
    since_any f = ap (any_of f) (since_push g xs y) ∙ go (g y)
      where
        go : (b : Bool) → any_of f (cond b (y ∷ []) (since_last g xs ++ (y ∷ []))) ≡ (cond b false (any_of f (since_last g xs)) || f y)
        go true = or_false (f y)
        go false = any_push f (since_last g xs) y

  -- bounds
  pub since_short : (g : A → Bool) (xs : List A) → length (since_last g xs) ≤ length xs
  since_short g [] = omega arith
  since_short g (x ∷ xs) = go (any_of g xs) (since_short g xs)
    where
      go : (b : Bool) → length (since_last g xs) ≤ length xs → length (cond b (since_last g xs) (x ∷ xs)) ≤ suc (length xs)
      go true h = omega arith
      go false h = omega arith

  pub count_few : (f : A → Bool) (xs : List A) → count_of f xs ≤ length xs
  count_few f [] = omega arith
  count_few f (x ∷ xs) = go (f x) (count_few f xs)
    where
      go : (b : Bool) → count_of f xs ≤ length xs → cond b 1 0 + count_of f xs ≤ suc (length xs)
      go true h = omega arith
      go false h = omega arith

  pub count_since : (f g : A → Bool) (xs : List A) → count_of f (since_last g xs) ≤ count_of f xs
  count_since f g [] = omega arith
  count_since f g (x ∷ xs) = go (any_of g xs) (count_since f g xs)
    where
      go : (b : Bool) → count_of f (since_last g xs) ≤ count_of f xs → count_of f (cond b (since_last g xs) (x ∷ xs)) ≤ cond (f x) 1 0 + count_of f xs
      go true h = omega arith
      go false h = omega arith

module _ (separator : ℕ) where
  pub values_push : (f : PlacedSegment → Bool) (e : ℕ) (z : List PlacedSegment) (p : PlacedSegment) → values_of separator f e (z ++ (p ∷ [])) ≡ values_of separator f e z ++ cond (f p) (value separator p e ∷ []) []
  values_push f e [] p = refl
  values_push f e (q ∷ z) p = ap (λ (l : List (List ℕ)). cond (f q) (value separator q e ∷ l) l) (values_push f e z p) ∙ go (f q)
    where
      go : (b : Bool) → cond b (value separator q e ∷ (values_of separator f e z ++ cond (f p) (value separator p e ∷ []) [])) (values_of separator f e z ++ cond (f p) (value separator p e ∷ []) [])
          ≡ cond b (value separator q e ∷ values_of separator f e z) (values_of separator f e z) ++ cond (f p) (value separator p e ∷ []) []
      go true = refl
      go false = refl

  pub since_values : (f g : PlacedSegment → Bool) (e : ℕ) (z : List PlacedSegment) (p : PlacedSegment)
      → values_of separator f e (since_last g (z ++ (p ∷ []))) ≡ cond (g p) [] (values_of separator f e (since_last g z)) ++ cond (f p) (value separator p e ∷ []) []
  since_values f g e z p = ap (values_of separator f e) (since_push g z p) ∙ go (g p)
    where
      go : (b : Bool) → values_of separator f e (cond b (p ∷ []) (since_last g z ++ (p ∷ []))) ≡ cond b [] (values_of separator f e (since_last g z)) ++ cond (f p) (value separator p e ∷ []) []
      go true = refl
      go false = values_push f e (since_last g z) p

  pub values_length : (f : PlacedSegment → Bool) (e : ℕ) (z : List PlacedSegment) → length (values_of separator f e z) ≡ count_of f z
  values_length f e [] = refl
  values_length f e (p ∷ z) = go (f p) (values_length f e z)
    where
      go : (b : Bool) → length (values_of separator f e z) ≡ count_of f z → length (cond b (value separator p e ∷ values_of separator f e z) (values_of separator f e z)) ≡ cond b 1 0 + count_of f z
      go true h = omega arith
      go false h = omega arith

  -- the last line, with one more segment behind it
  abbrev pub with_behind : PlacedSegment → Option Line → Option Line
  with_behind p None = None
  with_behind p (Some l) = Some (record { number = l.number; line = l.line; behind = l.behind ++ (p ∷ []) })

  pub line_push : (k : ℕ) (z : List PlacedSegment) (p : PlacedSegment)
      → last_line_from separator k (z ++ (p ∷ [])) ≡ cond (is_line separator p) (Some (record { number = k + length z; line = p; behind = [] })) (with_behind p (last_line_from separator k z))
  line_push k [] p = let e : k ≡ k + 0 = omega arith in ap (λ (n : ℕ). cond (is_line separator p) (Some (record { number = n; line = p; behind = [] })) None) e
  line_push k (q ∷ z) p =
      ap (λ (o : Option Line). or_else o (cond (is_line separator q) (Some (record { number = k; line = q; behind = z ++ (p ∷ []) })) None)) (line_push (suc k) z p)
      ∙ go (is_line separator p) (is_line separator q) (last_line_from separator (suc k) z)
      ∙ (let e : suc k + length z ≡ k + suc (length z) = omega arith in
      ap (λ (n : ℕ). cond (is_line separator p) (Some (record { number = n; line = p; behind = [] })) (with_behind p (or_else (last_line_from separator (suc k) z) (cond (is_line separator q) (Some (record { number = k; line = q; behind = z })) None)))) e)
    where
      go : (b c : Bool) (o : Option Line) → or_else (cond b (Some (record { number = suc k + length z; line = p; behind = [] })) (with_behind p o)) (cond c (Some (record { number = k; line = q; behind = z ++ (p ∷ []) })) None)
          ≡ cond b (Some (record { number = suc k + length z; line = p; behind = [] })) (with_behind p (or_else o (cond c (Some (record { number = k; line = q; behind = z })) None)))
      go true c o = refl
      go false true None = refl
      go false true (Some l) = refl
      go false false None = refl
      go false false (Some l) = refl
