-- A test, computed from a meaning, that the guide keeps the law.
use Rattle.std.proofs.Common.{◌≡◌, ℕ, suc, ◌+◌, ◌<◌, ◌≤◌, Bool, true, false, cond, not, ◌&&◌, ◌||◌, eqb, ltb, leb, ◌⊎◌, List, [], ◌∷◌, Some, None, codes, Decides, MatchBool, Option, sym, refl, ap, ◌∙◌, subst, inl, inr, arith}
use Rattle.std.proofs.lemmas.Bool.{true≢false, both_ways, not-true, and_parts, or_cases, leb-true, le-leb, ltb-true, eqb-true}
use Rattle.std.proofs.lemmas.Bool.Decides.{Decides-and}
use Rattle.std.proofs.ByRecursion.{Decides-by_and}
use Rattle.std.specs.List.{AllByRecursion, list_all}
use Rattle.x12.specs.Class.{class_of, within}
use Rattle.std.specs.List.{list_all}
use Rattle.x12.specs.Checks.{name_byte, good_name}
use Rattle.x12.proofs.Meets.{name_byte_decides, name_decides}
use Rattle.value.specs.declared.forms.Form.{Form}
use Rattle.value.specs.declared.forms.Form.TheVariants.{N0, Q, Id, An, R, D8, D6, Tm, Spaces, Free}
use Rattle.grammar.specs.Marks.{OneOf}
use Rattle.grammar.proofs.Matching.{is_one_of, one_of_decides}
use Rattle.grammar.proofs.FollowerTest.{followers_test, followers_test_sound}
use Rattle.guide.specs.declared.rules.Need.{Need}
use Rattle.guide.specs.declared.rules.Need.TheVariants.{Must, May, Unused}
use Rattle.guide.specs.declared.rules.Rule.{Rule}
use Rattle.guide.specs.Meaning.{Meaning, Standing, standing, size}
use Rattle.guide.specs.Asked.{row_at, over, test, find_rule, rows_of, label_of}
use Rattle.guide.specs.Law.{IsRow, Named, Fixed, Inside, Behind, KnownElement, known_elements, Typed, Keeps, Thirty, Lawful}
use Rattle.guide.proofs.Rows.{every_row, every_row_lem, test_some, implies, implied, is_named, named_is, is_named_lem, all_of_lem, all_one_of}

-- bounds: at most four loops, elements from 1 to 30
abbrev pub thirty_test : ℕ → Bool
thirty_test n = within 1 30 n

thirty_decides : (n : ℕ) → Decides (thirty_test n) (Thirty n)
thirty_decides n = Decides-and (leb 1 n) (leb n 30) (leb-true 1 n, le-leb 1 n) (leb-true n 30, le-leb n 30)

abbrev pub bounds_test : Standing → Bool
bounds_test s =
    leb s.depth 4
    && (list_all (λ e. thirty_test e.number) s.this.elements && list_all (λ p. thirty_test p.0 && thirty_test p.1) s.this.pairs)

-- uses, the name and the codes that place the row
abbrev pub uses_test : Standing → Bool
uses_test s = leb s.this.least s.this.greatest && leb 1 s.this.greatest

abbrev pub words_test : Standing → Bool
words_test s = good_name s.this.name && list_all (list_all name_byte) s.this.placing

code_decides : (v : List ℕ) → Decides (list_all name_byte v) (AllByRecursion (λ b. (class_of b ≡ 1) ⊎ (class_of b ≡ 2)) v)
code_decides v = Decides-by_and name_byte (λ b. (class_of b ≡ 1) ⊎ (class_of b ≡ 2)) (list_all name_byte) name_byte_decides refl (λ _ _. refl) v

-- names that only one row may have, by its number, and names that no row may have
abbrev pub only_test : List ℕ → ℕ → ℕ → Standing → Bool
only_test name k n s = implies (is_named name s) (eqb n k)

abbrev pub envelope : List (List ℕ)
envelope = codes "ISA" ∷ codes "GS" ∷ codes "GE" ∷ codes "IEA" ∷ []

-- CTT is used once, in no loop, and behind the place where the PO1 loop ends
abbrev pub ctt_test : ℕ → ℕ → Standing → Bool
ctt_test end n s = implies (is_named (codes "CTT") s) (leb s.this.greatest 1 && (eqb s.depth 0 && ltb end n))

-- the known elements
abbrev pub is_must : Need → Bool
is_must Must = true
is_must May = false
is_must Unused = false

abbrev pub is_unused : Need → Bool
is_unused Must = false
is_unused May = false
is_unused Unused = true

must_is : (n : Need) → is_must n ≡ true → n ≡ Must
must_is Must t = refl
must_is May t = absurd (true≢false (sym t))
must_is Unused t = absurd (true≢false (sym t))

unused_is : (n : Need) → is_unused n ≡ true → n ≡ Unused
unused_is Must t = absurd (true≢false (sym t))
unused_is May t = absurd (true≢false (sym t))
unused_is Unused t = refl

-- forms are told apart by numbers
abbrev pub number_of : Form → ℕ
number_of N0 = 0
number_of Q = 1
number_of Id = 2
number_of An = 3
number_of R = 4
number_of D8 = 5
number_of D6 = 6
number_of Tm = 7
number_of Spaces = 8
number_of Free = 9

form_of : ℕ → Form
form_of n = cond (eqb n 0) N0 (cond (eqb n 1) Q (cond (eqb n 2) Id (cond (eqb n 3) An (cond (eqb n 4) R (cond (eqb n 5) D8 (cond (eqb n 6) D6 (cond (eqb n 7) Tm (cond (eqb n 8) Spaces Free))))))))

form_back : (f : Form) → form_of (number_of f) ≡ f
unfolding form_of
form_back N0 = refl
form_back Q = refl
form_back Id = refl
form_back An = refl
form_back R = refl
form_back D8 = refl
form_back D6 = refl
form_back Tm = refl
form_back Spaces = refl
form_back Free = refl

form_is : (f g : Form) → eqb (number_of f) (number_of g) ≡ true → f ≡ g
form_is f g t = sym (form_back f) ∙ ap form_of (eqb-true (number_of f) (number_of g) t) ∙ form_back g

abbrev pub typed_test : KnownElement → Rule → Bool
typed_test k r = eqb (number_of r.form) (number_of k.form) && leb r.greatest k.most

typed_is : (k : KnownElement) (r : Rule) → typed_test k r ≡ true → Typed k r
typed_is k r t =
    let p = and_parts (eqb (number_of r.form) (number_of k.form)) (leb r.greatest k.most) t in
    (form_is r.form k.form p.0, leb-true r.greatest k.most p.1)

abbrev pub free_test : KnownElement → Option Rule → Bool
free_test k None = true
free_test k (Some r) = is_unused r.need || typed_test k r

abbrev pub keeps_test : KnownElement → Option Rule → Bool
keeps_test k o = cond k.must (test (λ r. is_must r.need && typed_test k r) o) (free_test k o)

free_is : (k : KnownElement) (o : Option Rule) → free_test k o ≡ true → (r : Rule) → o ≡ Some r → (r.need ≡ Unused) ⊎ Typed k r
free_is k None t r e = absurd (grind arith)
free_is k (Some q) t r e =
    let s : q ≡ r = cc in
    elim (or_cases (is_unused q.need) (typed_test k q) t) [
      | inl u ↦ inl (ap (λ (x : Rule). x.need) (sym s) ∙ unused_is q.need u)
      | inr d ↦ inr (subst (Typed k) s (typed_is k q d))
    ]

keeps_by : (must : Bool) (k : KnownElement) (o : Option Rule) → cond must (test (λ r. is_must r.need && typed_test k r) o) (free_test k o) ≡ true
    → MatchBool must ((r : Rule) × (o ≡ Some r) × (r.need ≡ Must) × Typed k r) ((r : Rule) → o ≡ Some r → (r.need ≡ Unused) ⊎ Typed k r)
keeps_by true k o t =
    let x = test_some (λ r. is_must r.need && typed_test k r) o t in
    let p = and_parts (is_must x.0.need) (typed_test k x.0) x.2 in
    (x.0, x.1, must_is x.0.need p.0, typed_is k x.0 p.1)
keeps_by false k o t = free_is k o t

abbrev pub known_test : Standing → Bool
known_test s = list_all (λ k. implies (is_named k.segment s) (keeps_test k (over (λ x. x.rule) (find_rule k.element s.this.elements)))) known_elements

-- all that is asked of a row by itself: its number, the number of the last row, of PO1, ACK and CTT, and where the PO1 loop ends
abbrev pub names_test : ℕ → ℕ → ℕ → ℕ → ℕ → Standing → Bool
names_test last po1 ack ctt n s =
    only_test (codes "ST") 1 n s && (only_test (codes "BAK") 2 n s && (only_test (codes "SE") last n s
    && (only_test (codes "PO1") po1 n s && (only_test (codes "ACK") ack n s && (only_test (codes "CTT") ctt n s && not (is_one_of envelope s.this.name))))))

abbrev pub row_test : ℕ → ℕ → ℕ → ℕ → ℕ → ℕ → Standing → Bool
row_test last po1 ack ctt end n s =
    bounds_test s && (uses_test s && (words_test s && (names_test last po1 ack ctt n s && (ctt_test end n s && known_test s))))

-- the number of the first row with a name, 0 where there is none
abbrev pub first_named : List ℕ → ℕ → List Standing → ℕ
first_named name n [] = 0
first_named name n (s ∷ ss) = let more = first_named name (suc n) ss in cond (is_named name s) n more

abbrev pub inner_of : Option Standing → ℕ
inner_of None = 0
inner_of (Some s) = s.inner

abbrev pub fixed_test : Meaning → ℕ → List ℕ → Bool
fixed_test m n name = test (λ s. is_named name s && (eqb s.this.least 1 && (eqb s.this.greatest 1 && (eqb s.depth 0 && eqb s.inner 0)))) (row_at m n)

-- what passes all of five tests, of six, and of seven
five_parts : (a b c d e : Bool) → (a && (b && (c && (d && e)))) ≡ true → (a ≡ true) × (b ≡ true) × (c ≡ true) × (d ≡ true) × (e ≡ true)
five_parts a b c d e t =
    let p = and_parts a (b && (c && (d && e))) t in
    let q = and_parts b (c && (d && e)) p.1 in
    let r = and_parts c (d && e) q.1 in
    let u = and_parts d e r.1 in
    (p.0, q.0, r.0, u.0, u.1)

six_parts : (a b c d e f : Bool) → (a && (b && (c && (d && (e && f))))) ≡ true → (a ≡ true) × (b ≡ true) × (c ≡ true) × (d ≡ true) × (e ≡ true) × (f ≡ true)
six_parts a b c d e f t =
    let p = and_parts a (b && (c && (d && (e && f)))) t in
    let q = five_parts b c d e f p.1 in
    (p.0, q.0, q.1, q.2, q.3, q.4)

seven_parts : (a b c d e f g : Bool) → (a && (b && (c && (d && (e && (f && g)))))) ≡ true
    → (a ≡ true) × (b ≡ true) × (c ≡ true) × (d ≡ true) × (e ≡ true) × (f ≡ true) × (g ≡ true)
seven_parts a b c d e f g t =
    let p = and_parts a (b && (c && (d && (e && (f && g))))) t in
    let q = six_parts b c d e f g p.1 in
    (p.0, q.0, q.1, q.2, q.3, q.4, q.5)

fixed_is : (m : Meaning) (n : ℕ) (name : List ℕ) → fixed_test m n name ≡ true → Fixed m n name
fixed_is m n name t =
    let x = test_some (λ s. is_named name s && (eqb s.this.least 1 && (eqb s.this.greatest 1 && (eqb s.depth 0 && eqb s.inner 0)))) (row_at m n) t in
    let s = x.0 in
    let p = five_parts _ _ _ _ _ x.2 in
    (s, x.1, named_is name s p.0, eqb-true s.this.least 1 p.1, eqb-true s.this.greatest 1 p.2, eqb-true s.depth 0 p.3, eqb-true s.inner 0 p.4)

-- PO1 opens a loop, and ACK stands in it
abbrev pub po1_test : Meaning → ℕ → Bool
po1_test m p = test (λ s. is_named (codes "PO1") s && leb 1 s.inner) (row_at m p)

abbrev pub ack_test : Meaning → ℕ → ℕ → Bool
ack_test m p a = test (is_named (codes "ACK")) (row_at m a) && (ltb p a && leb a (p + inner_of (row_at m p)))

-- the whole test, by the numbers of the last row, of PO1, ACK and CTT
abbrev pub law_test_by : Meaning → ℕ → ℕ → ℕ → ℕ → Bool
law_test_by m last po1 ack ctt =
    leb last 64
    && (fixed_test m 1 (codes "ST") && (fixed_test m 2 (codes "BAK") && (fixed_test m last (codes "SE")
    && (every_row (row_test last po1 ack ctt (po1 + inner_of (row_at m po1))) 1 (standing 0 m.tree)
    && (po1_test m po1 && (ack_test m po1 ack && followers_test (label_of m) (rows_of m)))))))

abbrev pub law_test : Meaning → Bool
law_test m =
    law_test_by m (size m.tree) (first_named (codes "PO1") 1 (standing 0 m.tree)) (first_named (codes "ACK") 1 (standing 0 m.tree)) (first_named (codes "CTT") 1 (standing 0 m.tree))

only_is : (name : List ℕ) (k n : ℕ) (s : Standing) → only_test name k n s ≡ true → s.this.name ≡ name → n ≡ k
only_is name k n s t e = eqb-true n k (implied (is_named name s) (eqb n k) t (is_named_lem name s e))

-- the parts of the test of a row
abbrev RowPassed : ℕ → ℕ → ℕ → ℕ → ℕ → ℕ → Standing → Type 0
RowPassed last po1 ack ctt end n s =
    (bounds_test s ≡ true) × (uses_test s ≡ true) × (words_test s ≡ true) × (names_test last po1 ack ctt n s ≡ true) × (ctt_test end n s ≡ true) × (known_test s ≡ true)

row_passed : (last po1 ack ctt end n : ℕ) (s : Standing) → row_test last po1 ack ctt end n s ≡ true → RowPassed last po1 ack ctt end n s
row_passed last po1 ack ctt end n s t = six_parts _ _ _ _ _ _ t

abbrev NamesPassed : ℕ → ℕ → ℕ → ℕ → ℕ → Standing → Type 0
NamesPassed last po1 ack ctt n s =
    (only_test (codes "ST") 1 n s ≡ true) × (only_test (codes "BAK") 2 n s ≡ true) × (only_test (codes "SE") last n s ≡ true)
    × (only_test (codes "PO1") po1 n s ≡ true) × (only_test (codes "ACK") ack n s ≡ true) × (only_test (codes "CTT") ctt n s ≡ true)
    × (not (is_one_of envelope s.this.name) ≡ true)

names_passed : (last po1 ack ctt n : ℕ) (s : Standing) → names_test last po1 ack ctt n s ≡ true → NamesPassed last po1 ack ctt n s
names_passed last po1 ack ctt n s t = seven_parts _ _ _ _ _ _ _ t

bounds_is : (s : Standing) → bounds_test s ≡ true → (s.depth ≤ 4) × AllByRecursion (λ e. Thirty e.number) s.this.elements × AllByRecursion (λ p. Thirty p.0 × Thirty p.1) s.this.pairs
bounds_is s t =
    let a = and_parts (leb s.depth 4) (list_all (λ e. thirty_test e.number) s.this.elements && list_all (λ p. thirty_test p.0 && thirty_test p.1) s.this.pairs) t in
    let b = and_parts (list_all (λ e. thirty_test e.number) s.this.elements) (list_all (λ p. thirty_test p.0 && thirty_test p.1) s.this.pairs) a.1 in (
      leb-true s.depth 4 a.0,
      all_of_lem (λ e. thirty_test e.number) (λ e. Thirty e.number) (λ e. thirty_decides e.number) s.this.elements b.0,
      all_of_lem (λ p. thirty_test p.0 && thirty_test p.1) (λ p. Thirty p.0 × Thirty p.1)
          (λ p. Decides-and (thirty_test p.0) (thirty_test p.1) (thirty_decides p.0) (thirty_decides p.1)) s.this.pairs b.1,
    )

module _ (m : Meaning) (po1 ack ctt : ℕ) (t : law_test_by m (size m.tree) po1 ack ctt ≡ true) where
  -- the parts of the whole test
  passed : (size m.tree ≤ 64) × (fixed_test m 1 (codes "ST") ≡ true) × (fixed_test m 2 (codes "BAK") ≡ true) × (fixed_test m (size m.tree) (codes "SE") ≡ true)
      × (every_row (row_test (size m.tree) po1 ack ctt (po1 + inner_of (row_at m po1))) 1 (standing 0 m.tree) ≡ true)
      × (po1_test m po1 ≡ true) × (ack_test m po1 ack ≡ true) × (followers_test (label_of m) (rows_of m) ≡ true)
  passed =
      let p = and_parts (leb (size m.tree) 64) _ t in
      let q = seven_parts _ _ _ _ _ _ _ p.1 in
      (leb-true (size m.tree) 64 p.0, q.0, q.1, q.2, q.3, q.4, q.5, q.6)

  row : (n : ℕ) (s : Standing) → IsRow m n s → RowPassed (size m.tree) po1 ack ctt (po1 + inner_of (row_at m po1)) n s
  row n s i = row_passed (size m.tree) po1 ack ctt (po1 + inner_of (row_at m po1)) n s
      (every_row_lem (row_test (size m.tree) po1 ack ctt (po1 + inner_of (row_at m po1))) (standing 0 m.tree) passed.4 n s i)

  names : (n : ℕ) (s : Standing) → IsRow m n s → NamesPassed (size m.tree) po1 ack ctt n s
  names n s i = names_passed (size m.tree) po1 ack ctt n s (row n s i).3

  -- the numbers of the rows that only one may be
  po1_number : (n : ℕ) → Named m n (codes "PO1") → n ≡ po1
  po1_number n h = only_is (codes "PO1") po1 n h.0 (names n h.0 h.1).3 h.2

  ack_number : (n : ℕ) → Named m n (codes "ACK") → n ≡ ack
  ack_number n h = only_is (codes "ACK") ack n h.0 (names n h.0 h.1).4 h.2

  ctt_number : (n : ℕ) → Named m n (codes "CTT") → n ≡ ctt
  ctt_number n h = only_is (codes "CTT") ctt n h.0 (names n h.0 h.1).5 h.2

  ctt_passed : (n : ℕ) (s : Standing) → IsRow m n s → s.this.name ≡ codes "CTT" → (s.this.greatest ≤ 1) × (s.depth ≡ 0) × (po1 + inner_of (row_at m po1) < n)
  ctt_passed n s i e =
      let a = and_parts (leb s.this.greatest 1) (eqb s.depth 0 && ltb (po1 + inner_of (row_at m po1)) n) (implied (is_named (codes "CTT") s) _ (row n s i).4 (is_named_lem (codes "CTT") s e)) in
      let b = and_parts (eqb s.depth 0) (ltb (po1 + inner_of (row_at m po1)) n) a.1 in
      (leb-true s.this.greatest 1 a.0, eqb-true s.depth 0 b.0, ltb-true (po1 + inner_of (row_at m po1)) n b.1)

  behind_po1 : (p n : ℕ) → Named m p (codes "PO1") → Named m n (codes "CTT") → Behind m p n
  behind_po1 p n a b s i =
      let e = po1_number p a in
      let j : row_at m po1 ≡ Some s = ap (row_at m) (sym e) ∙ i in
      let l = (ctt_passed n b.0 b.1 b.2).2 in
      let k : inner_of (row_at m po1) ≡ s.inner = ap inner_of j in
      omega arith

  po1_row_lem : (s : Standing) × IsRow m po1 s × (s.this.name ≡ codes "PO1") × (1 ≤ s.inner)
  po1_row_lem =
      let x = test_some (λ s. is_named (codes "PO1") s && leb 1 s.inner) (row_at m po1) passed.5 in
      let a = and_parts (is_named (codes "PO1") x.0) (leb 1 x.0.inner) x.2 in
      (x.0, x.1, named_is (codes "PO1") x.0 a.0, leb-true 1 x.0.inner a.1)

  ack_row_lem : Named m ack (codes "ACK") × (po1 < ack) × (ack ≤ po1 + inner_of (row_at m po1))
  ack_row_lem =
      let a = and_parts (test (is_named (codes "ACK")) (row_at m ack)) (ltb po1 ack && leb ack (po1 + inner_of (row_at m po1))) passed.6 in
      let b = and_parts (ltb po1 ack) (leb ack (po1 + inner_of (row_at m po1))) a.1 in
      let x = test_some (is_named (codes "ACK")) (row_at m ack) a.0 in
      ((x.0, x.1, named_is (codes "ACK") x.0 x.2), ltb-true po1 ack b.0, leb-true ack (po1 + inner_of (row_at m po1)) b.1)

  inside_po1 : (p n : ℕ) → Named m p (codes "PO1") → Named m n (codes "ACK") → Inside m p n
  inside_po1 p n a b =
      let e = po1_number p a in
      let f = ack_number n b in
      let x = po1_row_lem in
      let l = ack_row_lem.1 in
      let h = ack_row_lem.2 in
      let k : inner_of (row_at m po1) ≡ x.0.inner = ap inner_of x.1 in
      (x.0, ap (row_at m) e ∙ x.1, omega arith, omega arith)

  known_kept : (k : KnownElement) → OneOf known_elements k → (n : ℕ) (s : Standing) → IsRow m n s → s.this.name ≡ k.segment
      → Keeps k (over (λ x. x.rule) (find_rule k.element s.this.elements))
  known_kept k o n s i e =
      let all = all_one_of (λ k. implies (is_named k.segment s) (keeps_test k (over (λ x. x.rule) (find_rule k.element s.this.elements)))) known_elements (row n s i).5 k o in
      keeps_by k.must k (over (λ x. x.rule) (find_rule k.element s.this.elements)) (implied (is_named k.segment s) _ all (is_named_lem k.segment s e))

  uses_kept : (n : ℕ) (s : Standing) → IsRow m n s → (s.this.least ≤ s.this.greatest) × (1 ≤ s.this.greatest)
  uses_kept n s i =
      let a = and_parts (leb s.this.least s.this.greatest) (leb 1 s.this.greatest) (row n s i).1 in
      (leb-true s.this.least s.this.greatest a.0, leb-true 1 s.this.greatest a.1)

  words_kept : (n : ℕ) (s : Standing) → IsRow m n s → (good_name s.this.name ≡ true) × (list_all (list_all name_byte) s.this.placing ≡ true)
  words_kept n s i = and_parts (good_name s.this.name) (list_all (list_all name_byte) s.this.placing) (row n s i).2

  outside_envelope : (n : ℕ) (name : List ℕ) → OneOf envelope name → Named m n name → ⊥
  outside_envelope n name o h =
      both_ways (is_one_of envelope h.0.this.name) (not-true (is_one_of envelope h.0.this.name) (names n h.0 h.1).6)
      ((one_of_decides envelope h.0.this.name).1 (subst (OneOf envelope) (sym h.2) o))

  lawful_by : Lawful m
  lawful_by = record {
    few_rows = passed.0;
    few_loops = λ n s i. (bounds_is s (row n s i).0).0;
    few_elements = λ n s i. (bounds_is s (row n s i).0).1;
    few_pairs = λ n s i. (bounds_is s (row n s i).0).2;
    first_is_st = fixed_is m 1 (codes "ST") passed.1;
    second_is_bak = fixed_is m 2 (codes "BAK") passed.2;
    last_is_se = fixed_is m (size m.tree) (codes "SE") passed.3;
    no_other_st = λ n h. only_is (codes "ST") 1 n h.0 (names n h.0 h.1).0 h.2;
    no_other_bak = λ n h. only_is (codes "BAK") 2 n h.0 (names n h.0 h.1).1 h.2;
    no_other_se = λ n h. only_is (codes "SE") (size m.tree) n h.0 (names n h.0 h.1).2 h.2;
    no_envelope = outside_envelope;
    one_ctt = λ n k a b. ctt_number n a ∙ sym (ctt_number k b);
    ctt_once = λ n s i e. ((ctt_passed n s i e).0, (ctt_passed n s i e).1);
    ctt_behind_po1 = behind_po1;
    uses = uses_kept;
    names = λ n s i. (name_decides s.this.name).0 (words_kept n s i).0;
    placings = λ n s i. all_of_lem (list_all name_byte) (AllByRecursion (λ b. (class_of b ≡ 1) ⊎ (class_of b ≡ 2))) code_decides s.this.placing (words_kept n s i).1;
    followers = followers_test_sound (label_of m) (rows_of m) passed.7;
    po1 = (po1, po1_row_lem.0, po1_row_lem.1, po1_row_lem.2, po1_row_lem.3, po1_number);
    ack = (ack, ack_row_lem.0, ack_number);
    ack_in_po1 = inside_po1;
    elements = known_kept;
  }

-- a meaning that passes the test keeps the law
pub lawful_by_test : (m : Meaning) → law_test m ≡ true → Lawful m
lawful_by_test m t =
    lawful_by m (first_named (codes "PO1") 1 (standing 0 m.tree)) (first_named (codes "ACK") 1 (standing 0 m.tree)) (first_named (codes "CTT") 1 (standing 0 m.tree)) t
