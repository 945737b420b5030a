-- A test, computed from a tree and its labels, that the set is lawful.
use Rattle.std.proofs.Common.{◌≡◌, ℕ, suc, ◌+◌, Bool, true, false, not, ◌&&◌, eqb, leb, ◌≢◌, List, codes, sym, ap, ◌∙◌, inl, inr}
use Rattle.std.specs.Str.{bytes_eq}
use Rattle.std.proofs.lemmas.Slice.Eq.{bytes_eq-Decides}
use Rattle.std.proofs.lemmas.Bool.{false≢true, both_ways, not-true, and_parts, leb-true, eqb-true}
use Rattle.grammar.specs.Tree.{Rows, end, row, HasRow, count, NumberedFrom, LeastUpToGreatest, after_first}
use Rattle.grammar.specs.Marks.{Label}
use Rattle.grammar.specs.Law.{LawfulSet}
use Rattle.grammar.proofs.FollowerTest.{followers_test, followers_test_sound}

-- each row's least use is at most its greatest
abbrev pub uses_test : Rows → Bool
uses_test end = true
uses_test (row a lo hi inner after) = leb lo hi && (uses_test inner && uses_test after)

pub uses_test_sound : (rows : Rows) → uses_test rows ≡ true → LeastUpToGreatest rows
uses_test_sound end t = tt
uses_test_sound (row a lo hi inner after) t =
    let h = and_parts (leb lo hi) (uses_test inner && uses_test after) t in
    let k = and_parts (uses_test inner) (uses_test after) h.1 in
    (leb-true lo hi h.0, uses_test_sound inner k.0, uses_test_sound after k.1)

-- the rows are numbered in order
abbrev pub numbers_test : ℕ → Rows → Bool
numbers_test n end = true
numbers_test n (row a lo hi inner after) = eqb a n && (numbers_test (suc n) inner && numbers_test (suc n + count inner) after)

pub numbers_test_sound : (n : ℕ) (rows : Rows) → numbers_test n rows ≡ true → NumberedFrom n rows
numbers_test_sound n end t = tt
numbers_test_sound n (row a lo hi inner after) t =
    let h = and_parts (eqb a n) (numbers_test (suc n) inner && numbers_test (suc n + count inner) after) t in
    let k = and_parts (numbers_test (suc n) inner) (numbers_test (suc n + count inner) after) h.1 in
    (eqb-true a n h.0, numbers_test_sound (suc n) inner k.0, numbers_test_sound (suc n + count inner) after k.1)

-- the first row has the number 1, is used once and opens nothing
abbrev pub first_row_test : Rows → Bool
first_row_test end = false
first_row_test (row a lo hi end after) = eqb a 1 && (eqb lo 1 && eqb hi 1)
first_row_test (row a lo hi (row b least greatest inside next) after) = false

pub first_row_test_sound : (rows : Rows) → first_row_test rows ≡ true → rows ≡ row 1 1 1 end (after_first rows)
first_row_test_sound end t = absurd (false≢true t)
first_row_test_sound (row a lo hi end after) t =
    let h = and_parts (eqb a 1) (eqb lo 1 && eqb hi 1) t in
    let k = and_parts (eqb lo 1) (eqb hi 1) h.1 in
    (λ i. row (eqb-true a 1 h.0 i) (eqb-true lo 1 k.0 i) (eqb-true hi 1 k.1 i) end after)
first_row_test_sound (row a lo hi (row b least greatest inside next) after) t = absurd (false≢true t)

-- no row has the name
abbrev pub without_name : (ℕ → Label) → List ℕ → Rows → Bool
without_name label name end = true
without_name label name (row a lo hi inner after) = not (bytes_eq (label a).name name) && (without_name label name inner && without_name label name after)

pub without_name_sound : (label : ℕ → Label) (name : List ℕ) (rows : Rows) → without_name label name rows ≡ true → (q : ℕ) → HasRow rows q → (label q).name ≢ name
without_name_sound label name end t q i = elim i [ ]
without_name_sound label name (row a lo hi inner after) t q (inl e) = λ same.
    let other = not-true (bytes_eq (label a).name name) (and_parts (not (bytes_eq (label a).name name)) (without_name label name inner && without_name label name after) t).0 in
    both_ways (bytes_eq (label a).name name) other ((bytes_eq-Decides (label a).name name).1 (ap (λ (x : ℕ). (label x).name) (sym e) ∙ same))
without_name_sound label name (row a lo hi inner after) t q (inr i) =
    let h = and_parts (not (bytes_eq (label a).name name)) (without_name label name inner && without_name label name after) t in
    let k = and_parts (without_name label name inner) (without_name label name after) h.1 in
    elim i [ inl j ↦ without_name_sound label name inner k.0 q j | inr j ↦ without_name_sound label name after k.1 q j ]

-- the names: ST for the first row, and neither ST nor GE for another
abbrev pub names_test : (ℕ → Label) → Rows → Bool
names_test label set = bytes_eq (label 1).name (codes "ST") && (without_name label (codes "ST") (after_first set) && without_name label (codes "GE") (after_first set))

-- the numbers of the rows and of their uses
abbrev pub shape_test : Rows → Bool
shape_test set = uses_test set && (numbers_test 1 set && (leb (count set) 64 && first_row_test set))

abbrev pub law_test : (ℕ → Label) → Rows → Bool
law_test label set = shape_test set && (names_test label set && followers_test label set)

pub law_test_sound : (label : ℕ → Label) (set : Rows) → law_test label set ≡ true → LawfulSet label set
law_test_sound label set t =
    let t₁ = and_parts (shape_test set) (names_test label set && followers_test label set) t in
    let t₂ = and_parts (names_test label set) (followers_test label set) t₁.1 in
    let s₁ = and_parts (uses_test set) (numbers_test 1 set && (leb (count set) 64 && first_row_test set)) t₁.0 in
    let s₂ = and_parts (numbers_test 1 set) (leb (count set) 64 && first_row_test set) s₁.1 in
    let s₃ = and_parts (leb (count set) 64) (first_row_test set) s₂.1 in
    let n₁ = and_parts (bytes_eq (label 1).name (codes "ST")) (without_name label (codes "ST") (after_first set) && without_name label (codes "GE") (after_first set)) t₂.0 in
    let n₂ = and_parts (without_name label (codes "ST") (after_first set)) (without_name label (codes "GE") (after_first set)) n₁.1 in
    record {
      uses = uses_test_sound set s₁.0;
      numbered = numbers_test_sound 1 set s₂.0;
      few = leb-true (count set) 64 s₃.0;
      first = first_row_test_sound set s₃.1;
      first_is_st = (bytes_eq-Decides (label 1).name (codes "ST")).0 n₁.0;
      no_other_st = without_name_sound label (codes "ST") (after_first set) n₂.0;
      no_ge = without_name_sound label (codes "GE") (after_first set) n₂.1;
      followers = followers_test_sound label set t₂.1;
    }
