-- The flat table of a guide's rows, asked by row numbers.
use Rattle.std.proofs.Common.{◌≡◌, ℕ, zero, suc, ◌+◌, ◌-◌, ◌<◌, ◌≤◌, ◌⊎◌, List, [], ◌∷◌, ◌++◌, length, drop, Some, None, sym, refl, ap, ◌∙◌, subst, inl, inr, append_assoc, append-nil, arith, length-append}
use Rattle.std.proofs.lemmas.Bool.{cases_lt}
use Rattle.x12.specs.Lists.{nth}
use Rattle.grammar.proofs.FlatTable.{TableRow, flatten, TableNumbered, FirstNotDeeper, skip_deeper, skip_none, skip_flatten, not_deeper_more, flatten_not_deeper}
use Rattle.guide.specs.Meaning.{Tree, none, branch, Meaning, Standing, standing, size, numbered}
use Rattle.placing.specs.Model.{table_of}

abbrev pub table_row : ℕ → Standing → TableRow
table_row n s = record { number = n; depth = s.depth; least = s.this.least; greatest = s.this.greatest }

abbrev pub tabled : ℕ → List Standing → List TableRow
tabled n [] = []
tabled n (s ∷ ss) = table_row n s ∷ tabled (suc n) ss

pub length_standing : (d : ℕ) (t : Tree) → length (standing d t) ≡ size t
length_standing d none = refl
length_standing d (branch this inner after) =
    ap suc (length-append (standing (suc d) inner) (standing d after) ∙ (λ i. length_standing (suc d) inner i + length_standing d after i))

tabled_append : (n : ℕ) (xs ys : List Standing) → tabled n (xs ++ ys) ≡ tabled n xs ++ tabled (n + length xs) ys
tabled_append n [] ys = let e : n ≡ n + 0 = omega arith in ap (λ (k : ℕ). tabled k ys) e
tabled_append n (x ∷ xs) ys =
    let e : suc n + length xs ≡ n + suc (length xs) = omega arith in
    ap (λ (l : List TableRow). table_row n x ∷ l) (tabled_append (suc n) xs ys ∙ ap (λ (k : ℕ). tabled (suc n) xs ++ tabled k ys) e)

flatten_tabled : (n d : ℕ) (t : Tree) → flatten d (numbered n t) ≡ tabled n (standing d t)
flatten_tabled n d none = refl
flatten_tabled n d (branch this inner after) =
    ap (λ (l : List TableRow). table_row n (record { depth = d; inner = size inner; this = this }) ∷ l)
    ((λ i. flatten_tabled (suc n) (suc d) inner i ++ flatten_tabled (suc n + size inner) d after i)
    ∙ ap (λ (k : ℕ). tabled (suc n) (standing (suc d) inner) ++ tabled (suc n + k) (standing d after)) (sym (length_standing (suc d) inner))
    ∙ sym (tabled_append (suc n) (standing (suc d) inner) (standing d after)))

-- the row behind a place, and the end of the table
tabled_at : (n i : ℕ) (xs : List Standing) (s : Standing) → nth xs (suc i) ≡ Some s → drop i (tabled n xs) ≡ table_row (n + i) s ∷ drop (suc i) (tabled n xs)
tabled_at n i [] s e = let z : ◌≡◌ {A = ℕ} 0 1 = cc in absurd (omega arith)
tabled_at n zero (x ∷ xs) s e =
    let q : x ≡ s = cc in
    let z : n ≡ n + 0 = omega arith in
    (λ j. table_row (z j) (q j) ∷ tabled (suc n) xs)
tabled_at n (suc i) (x ∷ xs) s e =
    let z : suc n + i ≡ n + suc i = omega arith in
    tabled_at (suc n) i xs s e ∙ ap (λ (k : ℕ). table_row k s ∷ drop (suc i) (tabled (suc n) xs)) z

tabled_end : (n i : ℕ) (xs : List Standing) → nth xs (suc i) ≡ None → drop i (tabled n xs) ≡ []
tabled_end n zero [] e = refl
tabled_end n (suc i) [] e = refl
tabled_end n zero (x ∷ xs) e = let z : ◌≡◌ {A = ℕ} 0 1 = cc in absurd (omega arith)
tabled_end n (suc i) (x ∷ xs) e = tabled_end (suc n) i xs e

tabled_numbered : (n : ℕ) (xs : List Standing) → TableNumbered n (tabled n xs)
tabled_numbered n [] = tt
tabled_numbered n (x ∷ xs) = (refl, tabled_numbered (suc n) xs)

module _ (m : Meaning) where
  pub table_at : (i : ℕ) (s : Standing) → nth (standing 0 m.tree) (i + 1) ≡ Some s → drop i (table_of m) ≡ table_row (i + 1) s ∷ drop (suc i) (table_of m)
  table_at i s e =
      let z : i + 1 ≡ suc i = omega arith in
      let w : 1 + i ≡ i + 1 = omega arith in
      ap (drop i) (flatten_tabled 1 0 m.tree) ∙ tabled_at 1 i (standing 0 m.tree) s (ap (nth (standing 0 m.tree)) (sym z) ∙ e)
      ∙ (λ j. table_row (w j) s ∷ drop (suc i) (sym (flatten_tabled 1 0 m.tree) j))

  pub table_end : (i : ℕ) → nth (standing 0 m.tree) (i + 1) ≡ None → drop i (table_of m) ≡ []
  table_end i e =
      let z : suc i ≡ i + 1 = omega arith in
      ap (drop i) (flatten_tabled 1 0 m.tree) ∙ tabled_end 1 i (standing 0 m.tree) (ap (nth (standing 0 m.tree)) z ∙ e)

  pub table_numbered : TableNumbered 1 (table_of m)
  table_numbered = subst (TableNumbered 1) (sym (flatten_tabled 1 0 m.tree)) (tabled_numbered 1 (standing 0 m.tree))

-- a row stands within the rows, and so do the rows of its loop
pub nth_within : {A : Type 0} (xs : List A) (n : ℕ) (x : A) → nth xs n ≡ Some x → n ≤ length xs
nth_within [] n x e = let z : ◌≡◌ {A = ℕ} 0 1 = cc in absurd (omega arith)
nth_within (y ∷ ys) zero x e = omega arith
nth_within (y ∷ ys) (suc zero) x e = omega arith
nth_within (y ∷ ys) (suc (suc n)) x e = let h = nth_within ys (suc n) x e in omega arith

nth_zero : {A : Type 0} (xs : List A) → nth xs 0 ≡ None
nth_zero [] = refl
nth_zero (x ∷ xs) = refl

pub nth_left : {A : Type 0} (xs ys : List A) (n : ℕ) → n ≤ length xs → nth (xs ++ ys) n ≡ nth xs n
nth_left [] ys zero h = nth_zero ys
nth_left [] ys (suc n) h = absurd (omega arith)
nth_left (x ∷ xs) ys zero h = refl
nth_left (x ∷ xs) ys (suc zero) h = refl
nth_left (x ∷ xs) ys (suc (suc n)) h = nth_left xs ys (suc n) (omega arith)

pub nth_right : {A : Type 0} (xs ys : List A) (n : ℕ) → length xs < n → nth (xs ++ ys) n ≡ nth ys (n - length xs)
nth_right [] ys n h = let z : n ≡ n - 0 = omega arith in ap (nth ys) z
nth_right (x ∷ xs) ys zero h = absurd (omega arith)
nth_right (x ∷ xs) ys (suc zero) h = absurd (omega arith)
nth_right (x ∷ xs) ys (suc (suc n)) h =
    let z : suc n - length xs ≡ suc (suc n) - suc (length xs) = omega arith in
    nth_right xs ys (suc n) (omega arith) ∙ ap (nth ys) z

inner_within : (d : ℕ) (t : Tree) (n : ℕ) (s : Standing) → nth (standing d t) n ≡ Some s → n + s.inner ≤ size t
inner_within d none n s e = let z : ◌≡◌ {A = ℕ} 0 1 = cc in absurd (omega arith)
inner_within d (branch this inner after) zero s e = let z : ◌≡◌ {A = ℕ} 0 1 = cc in absurd (omega arith)
inner_within d (branch this inner after) (suc zero) s e =
    let q : record { depth = d; inner = size inner; this = this } ≡ s = cc in
    let k : size inner ≡ s.inner = ap (λ (x : Standing). x.inner) q in
    omega arith
inner_within d (branch this inner after) (suc (suc n)) s e =
    let l = length_standing (suc d) inner in
    elim (cases_lt (length (standing (suc d) inner)) (suc n)) [
      | inl lt ↦
          let h = inner_within d after (suc n - length (standing (suc d) inner)) s (sym (nth_right (standing (suc d) inner) (standing d after) (suc n) lt) ∙ e) in
          omega arith
      | inr le ↦
          let h = inner_within (suc d) inner (suc n) s (sym (nth_left (standing (suc d) inner) (standing d after) (suc n) le) ∙ e) in
          omega arith
    ]

-- behind a row, what is deeper are the rows of its loop
length_flatten : (n d : ℕ) (t : Tree) → length (flatten d (numbered n t)) ≡ size t
length_flatten n d none = refl
length_flatten n d (branch this inner after) =
    ap suc (length-append (flatten (suc d) (numbered (suc n) inner)) (flatten d (numbered (suc n + size inner) after)) ∙ (λ i. length_flatten (suc n) (suc d) inner i + length_flatten (suc n + size inner) d after i))

drop_front : {A : Type 0} (xs ys : List A) (n : ℕ) → length xs ≤ n → drop n (xs ++ ys) ≡ drop (n - length xs) ys
drop_front [] ys n h = let z : n ≡ n - 0 = omega arith in ap (λ (k : ℕ). drop k ys) z
drop_front (x ∷ xs) ys zero h = absurd (omega arith)
drop_front (x ∷ xs) ys (suc n) h = let z : n - length xs ≡ suc n - suc (length xs) = omega arith in drop_front xs ys n (omega arith) ∙ ap (λ (k : ℕ). drop k ys) z

skip_loop : (d k : ℕ) (t : Tree) (xs : List TableRow) → FirstNotDeeper d xs → (n : ℕ) (s : Standing) → nth (standing d t) n ≡ Some s
    → skip_deeper s.depth (drop n (flatten d (numbered k t) ++ xs)) ≡ drop (n + s.inner) (flatten d (numbered k t) ++ xs)
skip_loop d k none xs f n s e = let z : ◌≡◌ {A = ℕ} 0 1 = cc in absurd (omega arith)
skip_loop d k (branch this inner after) xs f zero s e = let z : ◌≡◌ {A = ℕ} 0 1 = cc in absurd (omega arith)
skip_loop d k (branch this inner after) xs f (suc zero) s e =
    let q : record { depth = d; inner = size inner; this = this } ≡ s = cc in
    let I = flatten (suc d) (numbered (suc k) inner) in
    let A = flatten d (numbered (suc k + size inner) after) in
    let l = length_flatten (suc k) (suc d) inner in
    let z : 1 + size inner ≡ suc (size inner) = omega arith in
    let w : size inner - length I ≡ 0 = omega arith in
    let start : skip_deeper d ((I ++ A) ++ xs) ≡ A ++ xs =
    ap (skip_deeper d) (append_assoc I A xs) ∙ skip_flatten d (suc d) (numbered (suc k) inner) (A ++ xs) (omega arith) ∙ skip_none d (A ++ xs) (flatten_not_deeper d (numbered (suc k + size inner) after) xs f) in
    let ends : drop (size inner) ((I ++ A) ++ xs) ≡ A ++ xs =
    ap (drop (size inner)) (append_assoc I A xs) ∙ drop_front I (A ++ xs) (size inner) (omega arith) ∙ ap (λ (j : ℕ). drop j (A ++ xs)) w in
    ap (λ (x : Standing). skip_deeper x.depth ((I ++ A) ++ xs)) (sym q) ∙ start ∙ sym ends
    ∙ ap (λ (j : ℕ). drop j (flatten d (numbered k (branch this inner after)) ++ xs)) (sym z)
    ∙ ap (λ (x : Standing). drop (1 + x.inner) (flatten d (numbered k (branch this inner after)) ++ xs)) q
skip_loop d k (branch this inner after) xs f (suc (suc n)) s e = go (cases_lt (length (standing (suc d) inner)) (suc n))
    (λ q. skip_loop (suc d) (suc k) inner (flatten d (numbered (suc k + size inner) after) ++ xs) deeper (suc n) s q)
    (λ q. skip_loop d (suc k + size inner) after xs f (suc n - length (standing (suc d) inner)) s q)
  where
    deeper : FirstNotDeeper (suc d) (flatten d (numbered (suc k + size inner) after) ++ xs)
    deeper = not_deeper_more d (suc d) (flatten d (numbered (suc k + size inner) after) ++ xs) (omega arith) (flatten_not_deeper d (numbered (suc k + size inner) after) xs f)

    go : (length (standing (suc d) inner) < suc n) ⊎ (suc n ≤ length (standing (suc d) inner))
        → (nth (standing (suc d) inner) (suc n) ≡ Some s → skip_deeper s.depth (drop (suc n) (flatten (suc d) (numbered (suc k) inner) ++ (flatten d (numbered (suc k + size inner) after) ++ xs))) ≡ drop (suc n + s.inner) (flatten (suc d) (numbered (suc k) inner) ++ (flatten d (numbered (suc k + size inner) after) ++ xs)))
        → (nth (standing d after) (suc n - length (standing (suc d) inner)) ≡ Some s → skip_deeper s.depth (drop (suc n - length (standing (suc d) inner)) (flatten d (numbered (suc k + size inner) after) ++ xs)) ≡ drop (suc n - length (standing (suc d) inner) + s.inner) (flatten d (numbered (suc k + size inner) after) ++ xs))
        → skip_deeper s.depth (drop (suc (suc n)) (flatten d (numbered k (branch this inner after)) ++ xs)) ≡ drop (suc (suc n) + s.inner) (flatten d (numbered k (branch this inner after)) ++ xs)
    go (inr le) a b =
        let z : suc (suc n + s.inner) ≡ suc (suc n) + s.inner = omega arith in
        ap (λ (l : List TableRow). skip_deeper s.depth (drop (suc n) l)) (append_assoc (flatten (suc d) (numbered (suc k) inner)) (flatten d (numbered (suc k + size inner) after)) xs)
        ∙ a (sym (nth_left (standing (suc d) inner) (standing d after) (suc n) le) ∙ e)
        ∙ ap (drop (suc n + s.inner)) (sym (append_assoc (flatten (suc d) (numbered (suc k) inner)) (flatten d (numbered (suc k + size inner) after)) xs))
        ∙ ap (λ (j : ℕ). drop j (flatten d (numbered k (branch this inner after)) ++ xs)) z
    go (inl lt) a b =
        let ls = length_standing (suc d) inner in
        let lf = length_flatten (suc k) (suc d) inner in
        let x : suc n - length (flatten (suc d) (numbered (suc k) inner)) ≡ suc n - length (standing (suc d) inner) = omega arith in
        let y : suc n + s.inner - length (flatten (suc d) (numbered (suc k) inner)) ≡ suc n - length (standing (suc d) inner) + s.inner = omega arith in
        let z : suc (suc n + s.inner) ≡ suc (suc n) + s.inner = omega arith in
        ap (λ (l : List TableRow). skip_deeper s.depth (drop (suc n) l)) (append_assoc (flatten (suc d) (numbered (suc k) inner)) (flatten d (numbered (suc k + size inner) after)) xs)
        ∙ ap (skip_deeper s.depth) (drop_front (flatten (suc d) (numbered (suc k) inner)) (flatten d (numbered (suc k + size inner) after) ++ xs) (suc n) (omega arith) ∙ ap (λ (j : ℕ). drop j (flatten d (numbered (suc k + size inner) after) ++ xs)) x)
        ∙ b (sym (nth_right (standing (suc d) inner) (standing d after) (suc n) lt) ∙ e)
        ∙ ap (λ (j : ℕ). drop j (flatten d (numbered (suc k + size inner) after) ++ xs)) (sym y)
        ∙ sym (drop_front (flatten (suc d) (numbered (suc k) inner)) (flatten d (numbered (suc k + size inner) after) ++ xs) (suc n + s.inner) (omega arith))
        ∙ ap (drop (suc n + s.inner)) (sym (append_assoc (flatten (suc d) (numbered (suc k) inner)) (flatten d (numbered (suc k + size inner) after)) xs))
        ∙ ap (λ (j : ℕ). drop j (flatten d (numbered k (branch this inner after)) ++ xs)) z

module _ (m : Meaning) where
  pub table_skips : (n : ℕ) (s : Standing) → nth (standing 0 m.tree) n ≡ Some s → drop (n + s.inner) (table_of m) ≡ skip_deeper s.depth (drop n (table_of m))
  table_skips n s e =
      let z = append-nil (flatten 0 (numbered 1 m.tree)) in
      ap (drop (n + s.inner)) (sym z) ∙ sym (skip_loop 0 1 m.tree [] tt n s e) ∙ ap (λ (l : List TableRow). skip_deeper s.depth (drop n l)) z

  pub loop_within : (n : ℕ) (s : Standing) → nth (standing 0 m.tree) n ≡ Some s → n + s.inner ≤ size m.tree
  loop_within n s e = inner_within 0 m.tree n s e

pub length_table : (m : Meaning) → length (table_of m) ≡ size m.tree
length_table m = length_flatten 1 0 m.tree
