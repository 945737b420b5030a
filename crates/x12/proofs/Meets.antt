-- The checks of the byte layer give the first fault that an interchange meets.
use Rattle.std.proofs.Common.{◌≡◌, ℕ, zero, suc, ◌-◌, ◌<◌, ◌≤◌, Bool, true, false, cond, not, ◌&&◌, ◌||◌, eqb, leb, ◌⊎◌, List, [], ◌∷◌, length, get_or, Some, Ok, Err, Decides, Option, Result, sym, refl, ap, ◌∙◌, subst, inl, inr, arith, lit<}
use native.Mathlib.Nat.{sub-zero}
use Rattle.std.proofs.ByRecursion.{has_get_or, Decides-by_and}
use Rattle.std.proofs.lemmas.Bool.{true≢false, not-true, not_from_false, eqb-true, eq-eqb, leb-true, le-leb, and_parts, and_from, or_cases, or_left, or_right, cases_Bool, cases_order}
use Rattle.std.proofs.lemmas.Bool.Decides.{Decides-eqb, Decides-or, Decides-by_or}
use Rattle.std.specs.List.{ContainsAt as Has, AllByRecursion}
use Rattle.x12.specs.declared.faults.Fault.{Fault}
use Rattle.x12.specs.Class.{class_of, within}
use Rattle.std.specs.List.{list_all, list_any}
use Rattle.x12.specs.Lists.{nth, Item, and_then, each}
use Rattle.x12.specs.Header.{separator_of, component_of, Sized, Headed, Delimited, sized, headed, delimited}
use Rattle.x12.specs.Segments.{Part, Segment, segments_of}
use Rattle.x12.specs.Elements.{elements_of, end_of, part_at, element_at, place_of}
use Rattle.x12.specs.Causes.{layer_of, fault}
use Rattle.x12.specs.Rank.{phase, Before, First, NoneOf}
use Rattle.x12.specs.Checks.{header_check, bad_byte, name_byte, good_name, is_isa16, part_check, segment_check, bytes_check}
use Rattle.x12.specs.Met.{IsSegment, IsElement, Name, Unfit, Fails, wrong_length, wrong_header, wrong_delimiter, wrong_byte, no_terminator, wrong_name, place_for, Met}
use Rattle.x12.proofs.Headers.{headed_means, headed_from, sized_means, sized_from, delimited_means, delimited_from}
use Rattle.x12.proofs.Rank.{moved, same_rank}
use Rattle.x12.proofs.Splits.{parts_head}
use Rattle.x12.proofs.Judged.{Or, Judged, Earlier, Anything, Any, Never, judged_then, judged_as, judged_test, judged_none, item_from, each_judged}

-- the test of a byte, and of a name
bad_decides : (component b : ℕ) → Decides (bad_byte component b) ((class_of b ≡ 0) ⊎ (b ≡ component))
bad_decides component b = Decides-or (eqb (class_of b) 0) (eqb b component) (Decides-eqb (class_of b) 0) (Decides-eqb b component)

some_bad : (component : ℕ) (v : List ℕ) → list_any (bad_byte component) v ≡ true → (b : ℕ) × Has v b × ((class_of b ≡ 0) ⊎ (b ≡ component))
some_bad component v h =
    let t = (Decides-by_or (bad_byte component) (λ b. (class_of b ≡ 0) ⊎ (b ≡ component)) (list_any (bad_byte component)) (bad_decides component) refl (λ _ _. refl) v).0 h in
    (get_or v t.0 0, has_get_or v t.0 0 t.1, t.2 0)

bad_some : (component : ℕ) (v : List ℕ) (b : ℕ) → Has v b → ((class_of b ≡ 0) ⊎ (b ≡ component)) → list_any (bad_byte component) v ≡ true
bad_some component v b h u =
    (Decides-by_or (bad_byte component) (λ b. (class_of b ≡ 0) ⊎ (b ≡ component)) (list_any (bad_byte component)) (bad_decides component) refl (λ _ _. refl) v).1
    (h.0, h.1, λ d. subst (λ (x : ℕ). (class_of x ≡ 0) ⊎ (x ≡ component)) (sym (h.2 d)) u)

pub name_byte_decides : (b : ℕ) → Decides (name_byte b) ((class_of b ≡ 1) ⊎ (class_of b ≡ 2))
name_byte_decides b = (means, from)
  where
    means : name_byte b ≡ true → (class_of b ≡ 1) ⊎ (class_of b ≡ 2)
    means h = one_or_two (class_of b) (leb-true 1 (class_of b) (and_parts (leb 1 (class_of b)) (leb (class_of b) 2) h).0) (leb-true (class_of b) 2 (and_parts (leb 1 (class_of b)) (leb (class_of b) 2) h).1)
      where
        one_or_two : (n : ℕ) → 1 ≤ n → n ≤ 2 → (n ≡ 1) ⊎ (n ≡ 2)
        one_or_two zero a z = absurd (omega arith)
        one_or_two (suc zero) a z = inl refl
        one_or_two (suc (suc n)) a z = inr (omega arith)

    from : (class_of b ≡ 1) ⊎ (class_of b ≡ 2) → name_byte b ≡ true
    from (inl e) = ap (within 1 2) e
    from (inr e) = ap (within 1 2) e

pub name_decides : (v : List ℕ) → Decides (good_name v) (Name v)
name_decides v = (means, from)
  where
    bytes : Decides (list_all name_byte v) (AllByRecursion (λ b. (class_of b ≡ 1) ⊎ (class_of b ≡ 2)) v)
    bytes = Decides-by_and name_byte (λ b. (class_of b ≡ 1) ⊎ (class_of b ≡ 2)) (list_all name_byte) name_byte_decides refl (λ _ _. refl) v

    means : good_name v ≡ true → Name v
    means h =
        let p = and_parts (within 2 3 (length v)) (list_all name_byte v) h in
        let q = and_parts (leb 2 (length v)) (leb (length v) 3) p.0 in
        (leb-true 2 (length v) q.0, leb-true (length v) 3 q.1, bytes.0 p.1)

    from : Name v → good_name v ≡ true
    from n = and_from (within 2 3 (length v)) (list_all name_byte v) (and_from (leb 2 (length v)) (leb (length v) 3) (le-leb 2 (length v) n.0) (le-leb (length v) 3 n.1)) (bytes.1 n.2)

-- an item by its number
item_part : (stop : ℕ) (ps : List Part) (d n : ℕ) (p : Part) → Item d ps n p → part_at stop ps (n - d) ≡ p
item_part stop [] d n p i = elim i [ ]
item_part stop (q ∷ qs) d n p (inl i) = let z : n - d ≡ 0 = (let e : n ≡ d = i.0 in omega arith) in ap (part_at stop (q ∷ qs)) z ∙ sym i.1
item_part stop (q ∷ qs) d n p (inr i) =
    let l = item_from (suc d) qs n p i in
    let z : n - d ≡ suc (n - suc d) = omega arith in
    ap (part_at stop (q ∷ qs)) z ∙ item_part stop qs (suc d) n p i

pub item_nth : {X : Type 0} (xs : List X) (d n : ℕ) (x : X) → Item (suc d) xs n x → nth xs (n - d) ≡ Some x
item_nth [] d n x i = elim i [ ]
item_nth (y ∷ ys) d n x (inl i) = let z : n - d ≡ 1 = (let e : n ≡ suc d = i.0 in omega arith) in ap (nth (y ∷ ys)) z ∙ ap (λ v. Some v) (sym i.1)
item_nth (y ∷ ys) d n x (inr i) =
    let l = item_from (suc (suc d)) ys n x i in
    let z : n - d ≡ suc (suc (n - suc (suc d))) = omega arith in
    let w : n - suc d ≡ suc (n - suc (suc d)) = omega arith in
    ap (nth (y ∷ ys)) z ∙ ap (nth ys) (sym w) ∙ item_nth ys (suc d) n x i

module _ (I : List ℕ) where
  -- the place of an element
  place_of_lem : (k e : ℕ) (s : Segment) (p : Part) → IsSegment I k s → IsElement I s e p → place_of I k e ≡ p.0
  place_of_lem k e s p i j =
      ap (λ (n : ℕ). (element_at (separator_of I) (nth (segments_of I) n) e).0) (sym (sub-zero k))
      ∙ ap (λ (o : Option Segment). (element_at (separator_of I) o e).0) (item_nth (segments_of I) 0 k s i)
      ∙ ap (λ (n : ℕ). (part_at (end_of s) (elements_of (separator_of I) s) n).0) (sym (sub-zero e))
      ∙ ap (λ (q : Part). q.0) (item_part (end_of s) (elements_of (separator_of I) s) 0 e p j)

  -- the faults that the check of an element looks for
  abbrev pub Bad : ℕ → Segment → ℕ → Part → Fault → Type 0
  Bad k s e p f = ((k ≡ 1) × (e ≡ 16) → ⊥) × ((b : ℕ) × Has p.1 b × Unfit I b) × (f ≡ fault 4 k e p.0)

  abbrev pub Ill : ℕ → Segment → ℕ → Part → Fault → Type 0
  Ill k s e p f = (e ≡ 0) × ((s.closed ≡ false) ⊎ (Name p.1 → ⊥)) × (f ≡ fault 5 k 0 p.0)

  abbrev pub InPart : ℕ → Segment → ℕ → Part → Fault → Type 0
  InPart k s e p = Or (Bad k s e p) (Or (Ill k s e p) Never)

  not_isa16 : (k e : ℕ) → not (is_isa16 k e) ≡ true → (k ≡ 1) × (e ≡ 16) → ⊥
  not_isa16 k e h q = true≢false (sym (and_from (eqb k 1) (eqb e 16) (eq-eqb k 1 q.0) (eq-eqb e 16 q.1)) ∙ not-true (is_isa16 k e) h)

  isa16_not : (k e : ℕ) → ((k ≡ 1) × (e ≡ 16) → ⊥) → not (is_isa16 k e) ≡ true
  isa16_not k e h = go (cases_Bool (is_isa16 k e))
    where
      go : (is_isa16 k e ≡ true) ⊎ (is_isa16 k e ≡ false) → not (is_isa16 k e) ≡ true
      go (inl t) = let p = and_parts (eqb k 1) (eqb e 16) t in absurd (h (eqb-true k 1 p.0, eqb-true e 16 p.1))
      go (inr t) = not_from_false (is_isa16 k e) t

  ill_test : (s : Segment) (v : List ℕ) → (not s.closed || not (good_name v)) ≡ true → (s.closed ≡ false) ⊎ (Name v → ⊥)
  ill_test s v h =
      elim (or_cases (not s.closed) (not (good_name v)) h) [
        | inl c ↦ inl (not-true s.closed c)
        | inr n ↦ inr (λ w. true≢false (sym ((name_decides v).1 w) ∙ not-true (good_name v) n))
      ]

  test_ill : (s : Segment) (v : List ℕ) → (s.closed ≡ false) ⊎ (Name v → ⊥) → (not s.closed || not (good_name v)) ≡ true
  test_ill s v (inl c) = or_left (not s.closed) (not (good_name v)) (not_from_false s.closed c)
  test_ill s v (inr n) = or_right (not s.closed) (not (good_name v)) (go (cases_Bool (good_name v)))
    where
      go : (good_name v ≡ true) ⊎ (good_name v ≡ false) → not (good_name v) ≡ true
      go (inl t) = absurd (n ((name_decides v).0 t))
      go (inr t) = not_from_false (good_name v) t

  part_judged_lem : (k : ℕ) (s : Segment) (e : ℕ) (p : Part) → Judged (InPart k s e p) Anything (part_check (component_of I) k s.closed e p)
  part_judged_lem k s e p =
      judged_test (Bad k s e p) (Or (Ill k s e p) Never) Anything bad (fault 4 k e p.0) _
      (λ t. let q = and_parts (not (is_isa16 k e)) (list_any (bad_byte (component_of I)) p.1) t in (not_isa16 k e q.0, some_bad (component_of I) p.1 q.1, refl))
      (λ g b. (and_from (not (is_isa16 k e)) (list_any (bad_byte (component_of I)) p.1) (isa16_not k e b.0) (bad_some (component_of I) p.1 b.1.0 b.1.1 b.1.2), b.2))
      bad_first
      (judged_test (Ill k s e p) Never Anything ill (fault 5 k 0 p.0) (Ok tt)
      (λ t. let q = and_parts (eqb e 0) (not s.closed || not (good_name p.1)) t in (eqb-true e 0 q.0, ill_test s p.1 q.1, refl))
      (λ g b. (and_from (eqb e 0) (not s.closed || not (good_name p.1)) (eq-eqb e 0 b.0) (test_ill s p.1 b.1), b.2))
      (λ f g a b. elim b [ ])
      (judged_none Anything tt tt))
    where
      bad : Bool
      bad = not (is_isa16 k e) && list_any (bad_byte (component_of I)) p.1

      ill : Bool
      ill = eqb e 0 && (not s.closed || not (good_name p.1))

      bad_first : Earlier (Bad k s e p) (Or (Ill k s e p) Never)
      bad_first f g a (inr b) = elim b [ ]
      bad_first f g a (inl b) = moved f g (fault 4 k e p.0) (fault 5 k 0 p.0) a.2 b.2 (inr (refl, inr (refl, inr (refl, inr (b.0, inl (lit< tt))))))

  -- elements in order
  part_rising : (k : ℕ) (s : Segment) (d e : ℕ) (x y : Part) (f g : Fault) → d < e → InPart k s d x f → InPart k s e y g → Before f g
  part_rising k s d e x y f g l (inl a) (inl b) = moved f g (fault 4 k d x.0) (fault 4 k e y.0) a.2 b.2 (inr (refl, inr (refl, inr (refl, inl l))))
  part_rising k s d e x y f g l (inl a) (inr (inl b)) = let z : e ≡ 0 = b.0 in absurd (omega arith)
  part_rising k s d e x y f g l (inl a) (inr (inr b)) = elim b [ ]
  part_rising k s d e x y f g l (inr (inl a)) (inl b) =
      let h : 0 < e = omega arith in
      moved f g (fault 5 k 0 x.0) (fault 4 k e y.0) a.2 b.2 (inr (refl, inr (refl, inr (refl, inl h))))
  part_rising k s d e x y f g l (inr (inl a)) (inr (inl b)) = let z : e ≡ 0 = b.0 in absurd (omega arith)
  part_rising k s d e x y f g l (inr (inl a)) (inr (inr b)) = elim b [ ]
  part_rising k s d e x y f g l (inr (inr a)) b = elim a [ ]

  abbrev pub InSegment : ℕ → Segment → Fault → Type 0
  InSegment k s = Any (InPart k s) 0 (elements_of (separator_of I) s)

  pub segment_judged : (k : ℕ) (s : Segment) → Judged (InSegment k s) Anything (segment_check (separator_of I) (component_of I) k s)
  segment_judged k s =
      each_judged (InPart k s) (part_check (component_of I) k s.closed) (part_judged_lem k s) (part_rising k s) (elements_of (separator_of I) s) 0

  -- segments in order
  abbrev pub Of : ℕ → Fault → Type 0
  Of k f = (n : ℕ) × (e : ℕ) × (place : ℕ) × (3 < n) × (phase n ≡ 0) × (layer_of n ≡ 1) × (f ≡ fault n k e place)

  pub of_part : (k : ℕ) (s : Segment) (e : ℕ) (p : Part) (f : Fault) → InPart k s e p f → Of k f
  of_part k s e p f (inl a) = (4, e, p.0, lit< tt, refl, refl, a.2)
  of_part k s e p f (inr (inl a)) = (5, 0, p.0, lit< tt, refl, refl, a.2)
  of_part k s e p f (inr (inr a)) = elim a [ ]

  of_rising : (j k : ℕ) (f g : Fault) → j < k → Of j f → Of k g → Before f g
  of_rising j k f g l a b = moved f g (fault a.0 j a.1 a.2) (fault b.0 k b.1 b.2) a.6 b.6 (inr (a.4 ∙ sym b.4, inl l))

  abbrev pub InBody : Fault → Type 0
  InBody = Any InSegment 1 (segments_of I)

  body_judged : Judged InBody Anything (each (segment_check (separator_of I) (component_of I)) 1 (segments_of I))
  body_judged =
      each_judged InSegment (segment_check (separator_of I) (component_of I)) segment_judged
      (λ j k s t f g l a b. of_rising j k f g l (of_part j s a.0 a.1 f a.3) (of_part k t b.0 b.1 g b.3)) (segments_of I) 1

  -- the header
  abbrev pub Head : Fault → Type 0
  Head = Or (λ f. (Sized I → ⊥) × (f ≡ fault 1 0 0 0)) (Or (λ f. (Headed I → ⊥) × (f ≡ fault 2 1 0 0)) (Or (λ f. (Delimited I → ⊥) × (f ≡ fault 3 1 0 0)) Never))

  not_so : (b : Bool) (P : Type 0) → (P → b ≡ true) → not b ≡ true → P → ⊥
  not_so b P h n p = true≢false (sym (h p) ∙ not-true b n)

  so_not : (b : Bool) (P : Type 0) → (b ≡ true → P) → (P → ⊥) → not b ≡ true
  so_not true P h n = absurd (n (h refl))
  so_not false P h n = refl

  turned : {A : Type 0} (b : Bool) (x y : A) → cond b x y ≡ cond (not b) y x
  turned true x y = refl
  turned false x y = refl

  pub head_judged : Judged Head Anything (header_check I)
  head_judged = subst (Judged Head Anything) (sym as_tests)
      (judged_test _ _ Anything (not (sized I)) (fault 1 0 0 0) _
      (λ t. (not_so (sized I) (Sized I) (sized_from I) t, refl))
      (λ g a. (so_not (sized I) (Sized I) (sized_means I) a.0, a.1))
      first_one
      (judged_test _ _ Anything (not (headed I)) (fault 2 1 0 0) _
      (λ t. (not_so (headed I) (Headed I) (headed_from I) t, refl))
      (λ g a. (so_not (headed I) (Headed I) (headed_means I) a.0, a.1))
      then_two
      (judged_test _ Never Anything (not (delimited I)) (fault 3 1 0 0) (Ok tt)
      (λ t. (not_so (delimited I) (Delimited I) (delimited_from I) t, refl))
      (λ g a. (so_not (delimited I) (Delimited I) (delimited_means I) a.0, a.1))
      (λ f g a b. elim b [ ])
      (judged_none Anything tt tt))))
    where
      as_tests : header_check I ≡ cond (not (sized I)) (Err (fault 1 0 0 0)) (cond (not (headed I)) (Err (fault 2 1 0 0)) (cond (not (delimited I)) (Err (fault 3 1 0 0)) (Ok tt)))
      as_tests =
          turned (sized I) _ _
          ∙ ap (cond (not (sized I)) (Err (fault 1 0 0 0))) (turned (headed I) _ _ ∙ ap (cond (not (headed I)) (Err (fault 2 1 0 0))) (turned (delimited I) _ _))

      first_one : (f g : Fault) → (Sized I → ⊥) × (f ≡ fault 1 0 0 0) → Or (λ f. (Headed I → ⊥) × (f ≡ fault 2 1 0 0)) (Or (λ f. (Delimited I → ⊥) × (f ≡ fault 3 1 0 0)) Never) g → Before f g
      first_one f g a (inl b) = moved f g (fault 1 0 0 0) (fault 2 1 0 0) a.1 b.1 (inr (refl, inl (lit< tt)))
      first_one f g a (inr (inl b)) = moved f g (fault 1 0 0 0) (fault 3 1 0 0) a.1 b.1 (inr (refl, inl (lit< tt)))
      first_one f g a (inr (inr b)) = elim b [ ]

      then_two : (f g : Fault) → (Headed I → ⊥) × (f ≡ fault 2 1 0 0) → Or (λ f. (Delimited I → ⊥) × (f ≡ fault 3 1 0 0)) Never g → Before f g
      then_two f g a (inl b) = moved f g (fault 2 1 0 0) (fault 3 1 0 0) a.1 b.1 (inr (refl, inr (refl, inr (refl, inr (refl, inl (lit< tt))))))
      then_two f g a (inr b) = elim b [ ]

  -- the header's faults come first
  behind : (m n k e place : ℕ) → m < n → phase m ≡ phase n → layer_of m ≡ layer_of n → 1 ≤ k → Before (fault m 1 0 0) (fault n k e place)
  behind m n k zero place l p q h =
      elim (cases_order 1 k) [ inl c ↦ inr (p, inr (c, inr (q, inr (refl, inl l)))) | inr (inl c) ↦ inr (p, inl c) | inr (inr c) ↦ absurd (omega arith) ]
  behind m n k (suc e) place l p q h =
      let z : 0 < suc e = omega arith in
      elim (cases_order 1 k) [ inl c ↦ inr (p, inr (c, inr (q, inl z))) | inr (inl c) ↦ inr (p, inl c) | inr (inr c) ↦ absurd (omega arith) ]

  of_body : (g : Fault) → InBody g → (k : ℕ) × (1 ≤ k) × Of k g
  of_body g b = (b.0, item_from 1 (segments_of I) b.0 b.1 b.2, of_part b.0 b.1 b.3.0 b.3.1 g b.3.3)

  head_first : Earlier Head InBody
  head_first f g (inl a) b =
      let o = of_body g b in
      let h : 0 < o.0 = o.1 in
      moved f g (fault 1 0 0 0) (fault o.2.0 o.0 o.2.1 o.2.2) a.1 o.2.6 (inr (sym o.2.4, inl h))
  head_first f g (inr (inl a)) b =
      let o = of_body g b in
      let l : 3 < o.2.0 = o.2.3 in
      moved f g (fault 2 1 0 0) (fault o.2.0 o.0 o.2.1 o.2.2) a.1 o.2.6
      (behind 2 o.2.0 o.0 o.2.1 o.2.2 (omega arith) (sym o.2.4) (sym o.2.5) o.1)
  head_first f g (inr (inr (inl a))) b =
      let o = of_body g b in
      moved f g (fault 3 1 0 0) (fault o.2.0 o.0 o.2.1 o.2.2) a.1 o.2.6
      (behind 3 o.2.0 o.0 o.2.1 o.2.2 o.2.3 (sym o.2.4) (sym o.2.5) o.1)
  head_first f g (inr (inr (inr a))) b = elim a [ ]

  -- the words of the rule book, and what the checks look for
  pub to_met : (f : Fault) → Or Head InBody f → Met I f
  to_met f (inl (inl a)) = (1, 0, 0, wrong_length a.0, a.1)
  to_met f (inl (inr (inl a))) = (2, 1, 0, wrong_header a.0, a.1)
  to_met f (inl (inr (inr (inl a)))) = (3, 1, 0, wrong_delimiter a.0, a.1)
  to_met f (inl (inr (inr (inr a)))) = elim a [ ]
  to_met f (inr (k, s, i, (e, p, j, inl a))) =
      (4, k, e, wrong_byte s p a.1.0 i j a.0 a.1.1 a.1.2, a.2 ∙ ap (fault 4 k e) (sym (place_of_lem k e s p i j)))
  to_met f (inr (k, s, i, (e, p, j, inr (inl a)))) =
      let j₀ : IsElement I s 0 p = subst (λ (n : ℕ). IsElement I s n p) a.0 j in
      let q : f ≡ fault 5 k 0 (place_of I k 0) = a.2 ∙ ap (fault 5 k 0) (sym (place_of_lem k 0 s p i j₀)) in
      elim a.1 [ inl c ↦ (5, k, 0, no_terminator s i c, q) | inr n ↦ (5, k, 0, wrong_name s p i j₀ n, q) ]
  to_met f (inr (k, s, i, (e, p, j, inr (inr a)))) = elim a [ ]

  -- every segment has a name, if an empty one
  first_element : (s : Segment) → (p : Part) × IsElement I s 0 p
  first_element s = let t = parts_head s.bytes (separator_of I) s.place in ((s.place, t.0), subst (λ (l : List Part). Item 0 l 0 (s.place, t.0)) (sym t.2) (inl (refl, refl)))

  pub of_fails : {n k e : ℕ} (f : Fault) → Fails I n k e → f ≡ fault n k e (place_for I n k e) → Or Head InBody f
  of_fails f (wrong_length h) q = inl (inl (h, q))
  of_fails f (wrong_header h) q = inl (inr (inl (h, q)))
  of_fails f (wrong_delimiter h) q = inl (inr (inr (inl (h, q))))
  of_fails f (wrong_byte {k = k} {e = e} s p b i j n h u) q = inr (k, s, i, (e, p, j, inl (n, (b, h, u), q ∙ ap (fault 4 k e) (place_of_lem k e s p i j))))
  of_fails f (no_terminator {k = k} s i c) q =
      let t = first_element s in
      inr (k, s, i, (0, t.0, t.1, inr (inl (refl, inl c, q ∙ ap (fault 5 k 0) (place_of_lem k 0 s t.0 i t.1)))))
  of_fails f (wrong_name {k = k} s p i j n) q = inr (k, s, i, (0, p, j, inr (inl (refl, inr n, q ∙ ap (fault 5 k 0) (place_of_lem k 0 s p i j)))))

  pub bytes_judged : Judged (Met I) (λ n. n ≡ length (segments_of I)) (bytes_check I)
  bytes_judged =
      judged_as (Or Head InBody) (Met I) (λ n. n ≡ length (segments_of I)) (bytes_check I) to_met (λ f m. of_fails f m.3 m.4)
      (judged_then Head InBody Anything (λ n. n ≡ length (segments_of I)) (header_check I) _ head_first head_judged
      (λ u n j. counted (each (segment_check (separator_of I) (component_of I)) 1 (segments_of I)) body_judged))
    where
      counted : (r : Result (Unit {0}) Fault) → Judged InBody Anything r → Judged InBody (λ n. n ≡ length (segments_of I)) (and_then r (λ v. Ok (length (segments_of I))))
      counted (Ok u) j = (j.0, refl)
      counted (Err f) j = j

  -- what the check answers, by its parts
  pub header_refused : (f : Fault) → header_check I ≡ Err f → First (Met I) f
  header_refused f h =
      subst (Judged (Met I) (λ n. n ≡ length (segments_of I)))
      (ap (λ (r : Result (Unit {0}) Fault). and_then r (λ u. and_then (each (segment_check (separator_of I) (component_of I)) 1 (segments_of I)) (λ v. Ok (length (segments_of I))))) h)
      bytes_judged

  answered : (separator component : ℕ) → separator ≡ separator_of I → component ≡ component_of I → (u : Unit {0}) → header_check I ≡ Ok u → (r : Result (Unit {0}) Fault)
      → each (segment_check separator component) 1 (segments_of I) ≡ r → bytes_check I ≡ and_then r (λ v. Ok (length (segments_of I)))
  answered separator component p q u h r e =
      ap (λ (t : Result (Unit {0}) Fault). and_then t (λ u. and_then (each (segment_check (separator_of I) (component_of I)) 1 (segments_of I)) (λ v. Ok (length (segments_of I))))) h
      ∙ (λ i. and_then (each (segment_check (sym p i) (sym q i)) 1 (segments_of I)) (λ v. Ok (length (segments_of I))))
      ∙ ap (λ (t : Result (Unit {0}) Fault). and_then t (λ v. Ok (length (segments_of I)))) e

  pub body_refused : (separator component : ℕ) → separator ≡ separator_of I → component ≡ component_of I → (u : Unit {0}) → header_check I ≡ Ok u → (f : Fault)
      → each (segment_check separator component) 1 (segments_of I) ≡ Err f → First (Met I) f
  body_refused separator component p q u h f e = subst (Judged (Met I) (λ n. n ≡ length (segments_of I))) (answered separator component p q u h (Err f) e) bytes_judged

  pub body_passed : (separator component : ℕ) → separator ≡ separator_of I → component ≡ component_of I → (u : Unit {0}) → header_check I ≡ Ok u → (v : Unit {0})
      → each (segment_check separator component) 1 (segments_of I) ≡ Ok v → NoneOf (Met I)
  body_passed separator component p q u h v e = (subst (Judged (Met I) (λ n. n ≡ length (segments_of I))) (answered separator component p q u h (Ok v) e) bytes_judged).0

  -- faults of equal rank are one
  pub one_first : (f g : Fault) → First (Met I) f → First (Met I) g → f ≡ g
  one_first f g a b =
      let r = same_rank f g (a.1 g b.0) (b.1 f a.0) in
      let m = a.0 in
      let w = b.0 in
      let n : m.0 ≡ w.0 = sym (ap (λ (h : Fault). h.number) m.4) ∙ (r.0 ∙ ap (λ (h : Fault). h.number) w.4) in
      let k : m.1 ≡ w.1 = sym (ap (λ (h : Fault). h.segment) m.4) ∙ (r.1 ∙ ap (λ (h : Fault). h.segment) w.4) in
      let e : m.2 ≡ w.2 = sym (ap (λ (h : Fault). h.element) m.4) ∙ (r.3 ∙ ap (λ (h : Fault). h.element) w.4) in
      m.4 ∙ ((λ i. fault (n i) (k i) (e i) (place_for I (n i) (k i) (e i))) ∙ sym w.4)
