-- Lists that are parted at an item.
use Rattle.std.proofs.Common.{◌≡◌, ℕ, suc, List, [], ◌∷◌, ◌++◌, map, length, refl, ap, arith}

-- no list is empty and has a first item
pub never_empty : {A : Type 0} (x : A) (xs : List A) → [] ≡ x ∷ xs → ⊥
never_empty x xs e = let z : ◌≡◌ {A = ℕ} 0 1 = cc in omega arith

-- lists that are parted at the same place have the same item there
pub same_item : {A : Type 0} (a b u v : List A) (x y : A) → length a ≡ length b → a ++ (x ∷ u) ≡ b ++ (y ∷ v) → x ≡ y
same_item [] [] u v x y l e = cc
same_item [] (z ∷ b) u v x y l e = absurd (omega arith)
same_item (z ∷ a) [] u v x y l e = absurd (omega arith)
same_item (z ∷ a) (w ∷ b) u v x y l e = same_item a b u v x y (cc) (cc)

-- where a mapped list is parted, the list itself is parted there
pub record Parted {A B : Type 0} (f : A → B) (xs : List A) (front : List B) (s : B) : Type 0 where
  pub before : List A
  pub item : A
  pub behind : List A
  pub split : xs ≡ before ++ (item ∷ behind)
  pub same : f item ≡ s
  pub many : length before ≡ length front

one_before : {A B : Type 0} (f : A → B) (x : A) (xs : List A) (y : B) (front : List B) (s : B) → Parted f xs front s → Parted f (x ∷ xs) (y ∷ front) s
one_before {A} f x xs y front s r =
    record { before = x ∷ r.before; item = r.item; behind = r.behind; split = ap (λ (l : List A). x ∷ l) r.split; same = r.same; many = ap suc r.many }

pub part_map : {A B : Type 0} (f : A → B) (xs : List A) (front : List B) (s : B) (behind : List B) → map f xs ≡ front ++ (s ∷ behind) → Parted f xs front s
part_map f [] [] s behind e = absurd (never_empty s behind e)
part_map f [] (y ∷ front) s behind e = absurd (never_empty y (front ++ (s ∷ behind)) e)
part_map f (x ∷ xs) [] s behind e = record { before = []; item = x; behind = xs; split = refl; same = cc; many = refl }
part_map f (x ∷ xs) (y ∷ front) s behind e = one_before f x xs y front s (part_map f xs front s behind (cc))
