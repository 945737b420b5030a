-- The elements that are checked, by their numbers.
use Rattle.std.proofs.Common.{◌≡◌, ℕ, zero, suc, ◌+◌, ◌-◌, ◌<◌, ◌≤◌, ◌≢◌, ◌⊎◌, List, [], ◌∷◌, length, replicate, sym, refl, ap, ◌∙◌, subst, inl, inr, arith}
use Rattle.std.proofs.lemmas.Bool.{cases_lt}
use Rattle.x12.specs.Lists.{Item}
use Rattle.x12.specs.Segments.{Part, Segment}
use Rattle.x12.specs.Elements.{elements_of, end_of, part_at, element_of_segment}
use Rattle.x12.proofs.Judged.{item_from}
use Rattle.x12.proofs.Splits.{parts_head}
use Rattle.elements.specs.Checks.{behind_first, present}

-- the part with a number, in a list whose first has the number e
item_part : (stop e : ℕ) (ps : List Part) (n : ℕ) (p : Part) → Item e ps n p → (k : ℕ) → n ≡ e + k → part_at stop ps k ≡ p
item_part stop e [] n p i k q = elim i [ ]
item_part stop e (x ∷ ps) n p (inl i) zero q = sym i.1
item_part stop e (x ∷ ps) n p (inl i) (suc k) q = let z : n ≡ e = i.0 in absurd (omega arith)
item_part stop e (x ∷ ps) n p (inr i) zero q = let l = item_from (suc e) ps n p i in absurd (omega arith)
item_part stop e (x ∷ ps) n p (inr i) (suc k) q = item_part stop (suc e) ps n p i k (omega arith)

part_item : (stop e : ℕ) (ps : List Part) (k : ℕ) → k < length ps → Item e ps (e + k) (part_at stop ps k)
part_item stop e [] k l = absurd (omega arith)
part_item stop e (x ∷ ps) zero l = inl (omega arith, refl)
part_item stop e (x ∷ ps) (suc k) l = let q : suc e + k ≡ e + suc k = omega arith in inr (subst (λ (n : ℕ). Item (suc e) ps n (part_at stop ps k)) q (part_item stop (suc e) ps k (omega arith)))

part_past : (stop : ℕ) (ps : List Part) (k : ℕ) → length ps ≤ k → part_at stop ps k ≡ (stop, [])
part_past stop [] k l = refl
part_past stop (x ∷ ps) zero l = absurd (omega arith)
part_past stop (x ∷ ps) (suc k) l = part_past stop ps k (omega arith)

-- copies
copies_item : {A : Type 0} (e n k : ℕ) (x : A) → k < n → Item e (replicate n x) (e + k) x
copies_item e zero k x l = absurd (omega arith)
copies_item e (suc n) zero x l = inl (omega arith, refl)
copies_item e (suc n) (suc k) x l = let q : suc e + k ≡ e + suc k = omega arith in inr (subst (λ j. Item (suc e) (replicate n x) j x) q (copies_item (suc e) n k x (omega arith)))

item_copies : {A : Type 0} (e n k : ℕ) (x y : A) → Item e (replicate n x) k y → (y ≡ x) × (e ≤ k)
item_copies e zero k x y i = elim i [ ]
item_copies e (suc n) k x y (inl i) = let z : k ≡ e = i.0 in (i.1, omega arith)
item_copies e (suc n) k x y (inr i) = let t = item_copies (suc e) n k x y i in let l = t.1 in (t.0, omega arith)

module _ (separator : ℕ) (s : Segment) where
  -- a segment has a name, and behind it its elements from 1 on
  has_name : (q : Part) × (elements_of separator s ≡ q ∷ present separator s)
  has_name = let t = parts_head s.bytes separator s.place in ((s.place, t.0), t.2 ∙ ap (λ (l : List Part). (s.place, t.0) ∷ l) (sym (ap behind_first t.2)))

  element_behind : (k : ℕ) → element_of_segment separator s (suc k) ≡ part_at (end_of s) (present separator s) k
  element_behind k = ap (λ (l : List Part). part_at (end_of s) l (suc k)) has_name.1

  -- the place of the name is that of the segment
  pub name_place : (element_of_segment separator s 0).0 ≡ s.place
  name_place = let t = parts_head s.bytes separator s.place in ap (λ (l : List Part). (part_at (end_of s) l 0).0) t.2

  pub present_is : (e : ℕ) (part : Part) → Item 1 (present separator s) e part → (1 ≤ e) × (part ≡ element_of_segment separator s e)
  present_is zero part i = let l = item_from 1 (present separator s) 0 part i in absurd (omega arith)
  present_is (suc k) part i = (omega arith, sym (element_behind k ∙ item_part (end_of s) 1 (present separator s) (suc k) part i k (omega arith)))

  pub is_present : (e : ℕ) → 1 ≤ e → e ≤ length (present separator s) → Item 1 (present separator s) e (element_of_segment separator s e)
  is_present zero a l = absurd (omega arith)
  is_present (suc k) a l =
      let q : 1 + k ≡ suc k = omega arith in
      subst (Item 1 (present separator s) (suc k)) (sym (element_behind k)) (subst (λ (n : ℕ). Item 1 (present separator s) n (part_at (end_of s) (present separator s) k)) q (part_item (end_of s) 1 (present separator s) k (omega arith)))

  past_absent : (e : ℕ) → length (present separator s) < e → element_of_segment separator s e ≡ (end_of s, [])
  past_absent zero l = absurd (omega arith)
  past_absent (suc k) l = element_behind k ∙ part_past (end_of s) (present separator s) k (omega arith)

  -- a filled element is there
  pub filled_present : (e : ℕ) → (element_of_segment separator s e).1 ≢ [] → e ≤ length (present separator s)
  filled_present e h = go (cases_lt (length (present separator s)) e)
    where
      go : (length (present separator s) < e) ⊎ (e ≤ length (present separator s)) → e ≤ length (present separator s)
      go (inl l) = absurd (h (ap (λ (q : Part). q.1) (past_absent e l)))
      go (inr l) = l

  -- the absent elements up to a limit
  pub absent_is : (limit e : ℕ) (part : Part) → Item (suc (length (present separator s))) (replicate (limit - length (present separator s)) (end_of s, [])) e part → (1 ≤ e) × (part ≡ element_of_segment separator s e)
  absent_is limit e part i =
      let t = item_copies (suc (length (present separator s))) (limit - length (present separator s)) e (end_of s, []) part i in
      let l = t.1 in
      (omega arith, t.0 ∙ sym (past_absent e (omega arith)))

  pub is_absent : (limit e : ℕ) → length (present separator s) < e → e ≤ limit
      → Item (suc (length (present separator s))) (replicate (limit - length (present separator s)) (end_of s, [])) e (element_of_segment separator s e)
  is_absent limit e a l =
      let q : suc (length (present separator s)) + (e - suc (length (present separator s))) ≡ e = omega arith in
      let none : Part = (end_of s, []) in
      let all : List Part = replicate (limit - length (present separator s)) none in
      subst (λ (x : Part). Item (suc (length (present separator s))) all e x) (sym (past_absent e a))
      (subst (λ (j : ℕ). Item (suc (length (present separator s))) all j none) q
      (copies_item (suc (length (present separator s))) (limit - length (present separator s)) (e - suc (length (present separator s))) none (omega arith)))
