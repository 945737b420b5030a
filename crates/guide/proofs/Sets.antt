-- A lawful guide's rows are a lawful set.
use Rattle.std.proofs.Common.{◌≡◌, ℕ, zero, suc, ◌+◌, ◌<◌, ◌≤◌, List, [], ◌∷◌, ◌++◌, Some, None, codes, Option, sym, refl, ap, ◌∙◌, subst, inl, inr, arith}
use Rattle.std.specs.List.{AllByRecursion}
use Rattle.x12.specs.Lists.{nth}
use Rattle.grammar.specs.Tree.{Rows, end, row, HasRow, count, NumberedFrom, LeastUpToGreatest, after_first}
use Rattle.grammar.proofs.Numbering.{numbered_within}
use Rattle.guide.specs.Meaning.{Tree, none, branch, Meaning, Standing, standing, size, numbered}
use Rattle.guide.specs.Asked.{row_at, rows_of, label, label_of}
use Rattle.guide.specs.Law.{Named}
use Rattle.guide.specs.Judged.{LawfulRows}

-- what holds of each numbered item of a list holds of each item
nth_zero : {X : Type 0} (xs : List X) (x : X) → nth xs 0 ≡ Some x → ⊥
nth_zero [] x e = grind arith
nth_zero (y ∷ ys) x e = grind arith

nth_later : {X : Type 0} (P : X → Type 0) (x : X) (xs : List X) → ((n : ℕ) (y : X) → nth (x ∷ xs) n ≡ Some y → P y) → (n : ℕ) (y : X) → nth xs n ≡ Some y → P y
nth_later P x xs h zero y e = absurd (nth_zero xs y e)
nth_later P x xs h (suc n) y e = h (suc (suc n)) y e

all_nth : {X : Type 0} (P : X → Type 0) (xs : List X) → ((n : ℕ) (x : X) → nth xs n ≡ Some x → P x) → AllByRecursion P xs
all_nth P [] h = tt
all_nth P (x ∷ xs) h = (h 1 x refl, all_nth P xs (nth_later P x xs h))

all_left : {X : Type 0} (P : X → Type 0) (xs ys : List X) → AllByRecursion P (xs ++ ys) → AllByRecursion P xs
all_left P [] ys a = tt
all_left P (x ∷ xs) ys a = (a.0, all_left P xs ys a.1)

all_right : {X : Type 0} (P : X → Type 0) (xs ys : List X) → AllByRecursion P (xs ++ ys) → AllByRecursion P ys
all_right P [] ys a = a
all_right P (x ∷ xs) ys a = all_right P xs ys a.1

pub count_numbered : (n : ℕ) (t : Tree) → count (numbered n t) ≡ size t
count_numbered n none = refl
count_numbered n (branch this inner after) = (λ i. suc (count_numbered (suc n) inner i + count_numbered (suc n + size inner) after i))

numbered_from : (n : ℕ) (t : Tree) → NumberedFrom n (numbered n t)
numbered_from n none = tt
numbered_from n (branch this inner after) =
    (refl, numbered_from (suc n) inner, subst (λ (k : ℕ). NumberedFrom (suc n + k) (numbered (suc n + size inner) after)) (sym (count_numbered (suc n) inner)) (numbered_from (suc n + size inner) after))

least_up : (n d : ℕ) (t : Tree) → AllByRecursion (λ s. s.this.least ≤ s.this.greatest) (standing d t) → LeastUpToGreatest (numbered n t)
least_up n d none a = tt
least_up n d (branch this inner after) a = (
  a.0,
  least_up (suc n) (suc d) inner (all_left (λ s. s.this.least ≤ s.this.greatest) (standing (suc d) inner) (standing d after) a.1),
  least_up (suc n + size inner) d after (all_right (λ s. s.this.least ≤ s.this.greatest) (standing (suc d) inner) (standing d after) a.1),
)

-- the first row, where it is used once and opens nothing
size_none : (t : Tree) → size t ≡ 0 → t ≡ none
size_none none e = refl
size_none (branch this inner after) e = absurd (omega arith)

first_row : (t : Tree) (s : Standing) → nth (standing 0 t) 1 ≡ Some s → s.this.least ≡ 1 → s.this.greatest ≡ 1 → s.inner ≡ 0
    → numbered 1 t ≡ row 1 1 1 end (after_first (numbered 1 t))
first_row none s e l g i = absurd (grind arith)
first_row (branch this inner after) s e l g i =
    let q : record { depth = 0; inner = size inner; this = this } ≡ s = cc in
    let l₁ : this.least ≡ 1 = ap (λ (x : Standing). x.this.least) q ∙ l in
    let g₁ : this.greatest ≡ 1 = ap (λ (x : Standing). x.this.greatest) q ∙ g in
    let n : inner ≡ none = size_none inner (ap (λ (x : Standing). x.inner) q ∙ i) in
    (λ j. row 1 (l₁ j) (g₁ j) (numbered 2 (n j)) (numbered (2 + size inner) after))

has_count : (rows : Rows) (n : ℕ) → NumberedFrom n rows → (q : ℕ) → HasRow (after_first rows) q → n < q
has_count end n h q i = elim i [ ]
has_count (row a lo hi inner after) n h q i = let w = (numbered_within after (suc n + count inner) h.2 q i).0 in omega arith

-- a label with a name belongs to a row
labelled : (m : Meaning) (q : ℕ) (x : ℕ) (name : List ℕ) → (label_of m q).name ≡ x ∷ name → Named m q (x ∷ name)
labelled m q x name e = go (row_at m q) refl e
  where
    go : (o : Option Standing) → row_at m q ≡ o → (label o).name ≡ x ∷ name → Named m q (x ∷ name)
    go None h e = absurd (grind arith)
    go (Some s) h e = (s, h, e)

pub lawful_rows : LawfulRows
lawful_rows m w =
    let f = w.first_is_st in
    record {
      uses = least_up 1 0 m.tree (all_nth (λ s. s.this.least ≤ s.this.greatest) (standing 0 m.tree) (λ n s i. (w.uses n s i).0));
      numbered = numbered_from 1 m.tree;
      few = subst (λ (k : ℕ). k ≤ 64) (sym (count_numbered 1 m.tree)) w.few_rows;
      first = first_row m.tree f.0 f.1 f.3 f.4 f.6;
      first_is_st = ap (λ (o : Option Standing). (label o).name) f.1 ∙ f.2;
      no_other_st = λ q i e.
          let n = w.no_other_st q (labelled m q 83 (84 ∷ []) e) in
          let h = has_count (rows_of m) 1 (numbered_from 1 m.tree) q i in
          omega arith;
      no_ge = λ q i e. w.no_envelope q (codes "GE") (inr (inr (inl refl))) (labelled m q 71 (69 ∷ []) e);
      followers = w.followers;
    }
