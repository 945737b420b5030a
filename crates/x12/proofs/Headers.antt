-- The tests of the header decide its rules.
use Rattle.std.proofs.Common.{◌≡◌, ℕ, zero, suc, ◌<◌, ◌≤◌, Bool, true, false, cond, not, ◌&&◌, T, eqb, leb, ◌⊎◌, List, [], ◌∷◌, length, get_or, take, Ok, Err, codes, sym, refl, ap, ◌∙◌, inl, inr, arith, lit<}
use mathlib.Core.Bool.{beq}
use Rattle.std.proofs.lemmas.Bool.{true≢false, not-true, not_from_false, eqb-true, eqb-false, eq-eqb, ne_eqb, leb-true, le-leb, and_parts, and_from, cond-true, cases_order, cases_lt, cases_Bool}
use Rattle.x12.specs.Class.{class_of}
use Rattle.x12.specs.Causes.{fault}
use Rattle.x12.specs.Checks.{header_check}
use Rattle.x12.specs.Lists.{below, among}
use Rattle.x12.specs.Header.{separator_of, component_of, terminator_of, separator_places, Sized, Headed, Delimited, Sound, sized, placed_at, layout_holds, named, headed, delimited}

-- a test of each number below n
pub below_all : (f : ℕ → Bool) (n : ℕ) → ((k : ℕ) → k < n → f k ≡ true) → below f n ≡ true
below_all f zero h = refl
below_all f (suc n) h = and_from (f n) (below f n) (h n (omega arith)) (below_all f n (λ k l. h k (omega arith)))

pub laid_out : (I : List ℕ) → ((k : ℕ) → k < 105 → placed_at I k ≡ true) → true ≡ layout_holds I
unfolding layout_holds
laid_out I h = sym (below_all (placed_at I) 105 h)

-- every number below n passes the test, if the test of all does
pub below_each : (f : ℕ → Bool) (n : ℕ) → below f n ≡ true → (k : ℕ) → k < n → f k ≡ true
below_each f zero h k l = absurd (omega arith)
below_each f (suc n) h k l =
    let p = and_parts (f n) (below f n) h in
    elim (cases_order k n) [
      | inl e ↦ ap f e ∙ p.0
      | inr (inl lt) ↦ below_each f n p.1 k lt
      | inr (inr gt) ↦ absurd (omega arith)
    ]

pub placed_each : (I : List ℕ) → layout_holds I ≡ true → (k : ℕ) → k < 105 → placed_at I k ≡ true
unfolding layout_holds
placed_each I h k l = below_each (placed_at I) 105 h k l

same_truth : (a b : Bool) → beq a b ≡ true → a ≡ b
same_truth true true h = refl
same_truth true false h = absurd (true≢false (sym h))
same_truth false true h = absurd (true≢false (sym h))
same_truth false false h = refl

truth_same : (a b : Bool) → a ≡ b → beq a b ≡ true
truth_same true true h = refl
truth_same true false h = absurd (true≢false h)
truth_same false true h = absurd (true≢false (sym h))
truth_same false false h = refl

is_true : (b : Bool) → T b → b ≡ true
is_true true t = refl
is_true false t = absurd t

true_is : (b : Bool) → b ≡ true → T b
true_is true e = tt
true_is false e = absurd (true≢false (sym e))

-- the two tests at a place that is laid out
terminator_apart : (I : List ℕ) → layout_holds I ≡ true → (k : ℕ) → k < 105 → get_or I k 0 ≡ terminator_of I → ⊥
terminator_apart I h k l =
    eqb-false (get_or I k 0) (terminator_of I)
    (not-true (eqb (get_or I k 0) (terminator_of I)) (and_parts (not (eqb (get_or I k 0) (terminator_of I))) _ (placed_each I h k l)).0)

separator_there : (I : List ℕ) → layout_holds I ≡ true → (k : ℕ) → k < 105 → eqb (get_or I k 0) (separator_of I) ≡ among k separator_places
separator_there I h k l =
    same_truth (eqb (get_or I k 0) (separator_of I)) (among k separator_places) (and_parts (not (eqb (get_or I k 0) (terminator_of I))) _ (placed_each I h k l)).1

name_is : (I : List ℕ) → named I ≡ true → take 3 I ≡ codes "ISA"
name_is [] h = absurd (true≢false (sym h))
name_is (a ∷ []) h = absurd (omega (arith, eqb-true 0 83 (and_parts (eqb 0 83) (eqb 0 65) (and_parts (eqb a 73) (eqb 0 83 && eqb 0 65) h).1).0))
name_is (a ∷ b ∷ []) h = absurd (omega (arith, eqb-true 0 65 (and_parts (eqb b 83) (eqb 0 65) (and_parts (eqb a 73) (eqb b 83 && eqb 0 65) h).1).1))
name_is (a ∷ b ∷ c ∷ xs) h =
    let p = and_parts (eqb a 73) (eqb b 83 && eqb c 65) h in
    let q = and_parts (eqb b 83) (eqb c 65) p.1 in
    let x = eqb-true a 73 p.0 in
    let y = eqb-true b 83 q.0 in
    let z = eqb-true c 65 q.1 in
    (λ i. x i ∷ y i ∷ z i ∷ [])

is_name : (I : List ℕ) → take 3 I ≡ codes "ISA" → named I ≡ true
is_name [] h = let z : ◌≡◌ {A = ℕ} 0 1 = cc in absurd (omega arith)
is_name (a ∷ []) h = let z : ◌≡◌ {A = ℕ} 0 1 = cc in absurd (omega arith)
is_name (a ∷ b ∷ []) h = let z : ◌≡◌ {A = ℕ} 0 1 = cc in absurd (omega arith)
is_name (a ∷ b ∷ c ∷ xs) h =
    let x : a ≡ 73 = cc in
    let y : b ≡ 83 = cc in
    let z : c ≡ 65 = cc in
    and_from (eqb a 73) (eqb b 83 && eqb c 65) (eq-eqb a 73 x) (and_from (eqb b 83) (eqb c 65) (eq-eqb b 83 y) (eq-eqb c 65 z))

-- up to byte 104 the test tells; byte 105 is the terminator, which is no separator since byte 3 is one
separator_at : (I : List ℕ) → layout_holds I ≡ true → (i : ℕ) → i ≤ 105 → eqb (get_or I i 0) (separator_of I) ≡ among i separator_places
separator_at I h i l =
    elim (cases_lt i 105) [
      | inl lt ↦ separator_there I h i lt
      | inr ge ↦
          let e : i ≡ 105 = omega arith in
          let ne : eqb (terminator_of I) (separator_of I) ≡ false = ne_eqb (terminator_of I) (separator_of I) (λ q. terminator_apart I h 3 (lit< tt) (sym q)) in
          ap (λ (n : ℕ). eqb (get_or I n 0) (separator_of I)) e ∙ ne ∙ ap (λ (n : ℕ). among n separator_places) (sym e)
    ]

pub headed_means : (I : List ℕ) → headed I ≡ true → Headed I
headed_means I h =
    let p = and_parts (named I) (layout_holds I) h in
    record {
      name = name_is I p.0;
      placed = λ i l t. eqb-true (get_or I i 0) (separator_of I) (separator_at I p.1 i l ∙ is_true (among i separator_places) t);
      nowhere_else = λ i l e. true_is (among i separator_places) (sym (separator_at I p.1 i l) ∙ eq-eqb (get_or I i 0) (separator_of I) e);
      unended = terminator_apart I p.1;
    }

-- the rules give the test at each place
placed_from : (I : List ℕ) → Headed I → (k : ℕ) → k < 105 → placed_at I k ≡ true
placed_from I h k l =
    and_from (not (eqb (get_or I k 0) (terminator_of I))) (beq (eqb (get_or I k 0) (separator_of I)) (among k separator_places))
    (not_from_false (eqb (get_or I k 0) (terminator_of I)) (ne_eqb (get_or I k 0) (terminator_of I) (h.unended k l)))
    (truth_same (eqb (get_or I k 0) (separator_of I)) (among k separator_places) (go (cases_Bool (among k separator_places))))
  where
    go : (among k separator_places ≡ true) ⊎ (among k separator_places ≡ false) → eqb (get_or I k 0) (separator_of I) ≡ among k separator_places
    go (inl e) = eq-eqb (get_or I k 0) (separator_of I) (h.placed k (omega arith) (true_is (among k separator_places) e)) ∙ sym e
    go (inr e) = ne_eqb (get_or I k 0) (separator_of I) (λ q. true≢false (sym (is_true (among k separator_places) (h.nowhere_else k (omega arith) q)) ∙ e)) ∙ sym e

pub headed_from : (I : List ℕ) → Headed I → headed I ≡ true
headed_from I h = and_from (named I) (layout_holds I) (is_name I h.name) (sym (laid_out I (placed_from I h)))

pub sized_means : (I : List ℕ) → sized I ≡ true → Sized I
sized_means I h =
    let p = and_parts (leb 106 (length I)) (leb (length I) 65536) h in
    (leb-true 106 (length I) p.0, leb-true (length I) 65536 p.1)

pub sized_from : (I : List ℕ) → Sized I → sized I ≡ true
sized_from I h = and_from (leb 106 (length I)) (leb (length I) 65536) (le-leb 106 (length I) h.0) (le-leb (length I) 65536 h.1)

pub delimited_means : (I : List ℕ) → delimited I ≡ true → Delimited I
delimited_means I h =
    let p = and_parts (eqb (class_of (separator_of I)) 5) (eqb (class_of (component_of I)) 5 && eqb (class_of (terminator_of I)) 5) h in
    let q = and_parts (eqb (class_of (component_of I)) 5) (eqb (class_of (terminator_of I)) 5) p.1 in
    record {
      separator = eqb-true (class_of (separator_of I)) 5 p.0;
      component = eqb-true (class_of (component_of I)) 5 q.0;
      terminator = eqb-true (class_of (terminator_of I)) 5 q.1;
    }

pub delimited_from : (I : List ℕ) → Delimited I → delimited I ≡ true
delimited_from I h =
    and_from (eqb (class_of (separator_of I)) 5) (eqb (class_of (component_of I)) 5 && eqb (class_of (terminator_of I)) 5)
    (eq-eqb (class_of (separator_of I)) 5 h.separator)
    (and_from (eqb (class_of (component_of I)) 5) (eqb (class_of (terminator_of I)) 5) (eq-eqb (class_of (component_of I)) 5 h.component) (eq-eqb (class_of (terminator_of I)) 5 h.terminator))

-- a header that no fault is found in is sound, and the other way round
pub never_ok : {A F : Type 0} (f : F) (a : A) → Err f ≡ Ok a → ⊥
never_ok f a h = let z : ◌≡◌ {A = ℕ} 0 1 = cc in omega arith

all_passed : {F : Type 0} (a b c : Bool) (f g h : F) (u : Unit {0}) → cond a (cond b (cond c (Ok tt) (Err h)) (Err g)) (Err f) ≡ Ok u → (a ≡ true) × (b ≡ true) × (c ≡ true)
all_passed true true true f g h u e = (refl, refl, refl)
all_passed true true false f g h u e = absurd (never_ok h u e)
all_passed true false c f g h u e = absurd (never_ok g u e)
all_passed false b c f g h u e = absurd (never_ok f u e)

pub check_sound : (I : List ℕ) (u : Unit {0}) → header_check I ≡ Ok u → Sound I
check_sound I u e =
    let p = all_passed (sized I) (headed I) (delimited I) (fault 1 0 0 0) (fault 2 1 0 0) (fault 3 1 0 0) u e in
    (sized_means I p.0, headed_means I p.1, delimited_means I p.2)

pub sound_check : (I : List ℕ) → Sound I → header_check I ≡ Ok tt
sound_check I s =
    cond-true (sized I) _ (Err (fault 1 0 0 0)) (sized_from I s.0)
    ∙ cond-true (headed I) _ (Err (fault 2 1 0 0)) (headed_from I s.1)
    ∙ cond-true (delimited I) (Ok tt) (Err (fault 3 1 0 0)) (delimited_from I s.2)
