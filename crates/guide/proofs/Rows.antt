-- Tests of the rows of a guide, one by one with their numbers.
use Rattle.std.proofs.Common.{◌≡◌, ℕ, zero, suc, ◌+◌, Bool, true, false, not, ◌&&◌, ◌||◌, List, [], ◌∷◌, Some, None, Decides, Option, sym, refl, ap, ◌∙◌, inl, inr, arith}
use Rattle.std.proofs.lemmas.Bool.{true≢false, and_parts}
use Rattle.std.proofs.lemmas.Slice.Eq.{bytes_eq-Decides}
use Rattle.std.proofs.ByRecursion.{Decides-by_and}
use Rattle.std.specs.List.{AllByRecursion, list_all}
use Rattle.std.specs.Str.{bytes_eq}
use Rattle.x12.specs.Lists.{nth}
use Rattle.grammar.specs.Marks.{OneOf}
use Rattle.guide.specs.Meaning.{Standing}
use Rattle.guide.specs.Asked.{test}

-- a test of each row with its number, from n on
abbrev pub every_row : (ℕ → Standing → Bool) → ℕ → List Standing → Bool
every_row f n [] = true
every_row f n (s ∷ ss) = f n s && every_row f (suc n) ss

every_from : (f : ℕ → Standing → Bool) (n : ℕ) (xs : List Standing) → every_row f (suc n) xs ≡ true → (k : ℕ) (s : Standing) → nth xs k ≡ Some s → f (n + k) s ≡ true
every_from f n [] t k s e = absurd (grind arith)
every_from f n (x ∷ xs) t zero s e = absurd (grind arith)
every_from f n (x ∷ xs) t (suc zero) s e =
    let z : n + 1 ≡ suc n = omega arith in
    let same : s ≡ x = cc in
    (λ i. f (z i) (same i)) ∙ (and_parts (f (suc n) x) (every_row f (suc (suc n)) xs) t).0
every_from f n (x ∷ xs) t (suc (suc k)) s e =
    let z : n + suc (suc k) ≡ suc n + suc k = omega arith in
    ap (λ (j : ℕ). f j s) z ∙ every_from f (suc n) xs (and_parts (f (suc n) x) (every_row f (suc (suc n)) xs) t).1 (suc k) s e

-- what every row passes, the row with number k does
pub every_row_lem : (f : ℕ → Standing → Bool) (xs : List Standing) → every_row f 1 xs ≡ true → (k : ℕ) (s : Standing) → nth xs k ≡ Some s → f k s ≡ true
every_row_lem f xs t k s e = let z : k ≡ 0 + k = omega arith in ap (λ (j : ℕ). f j s) z ∙ every_from f 0 xs t k s e

-- a test of what stands at a number
pub test_some : {A : Type 0} (f : A → Bool) (o : Option A) → test f o ≡ true → (x : A) × (o ≡ Some x) × (f x ≡ true)
test_some f None t = absurd (true≢false (sym t))
test_some f (Some x) t = (x, refl, t)

-- what one test gives another
abbrev pub implies : Bool → Bool → Bool
implies a b = not a || b

pub implied : (a b : Bool) → implies a b ≡ true → a ≡ true → b ≡ true
implied true b t e = t
implied false b t e = absurd (true≢false (sym e))

-- the row has the name
abbrev pub is_named : List ℕ → Standing → Bool
is_named name s = bytes_eq s.this.name name

pub named_is : (name : List ℕ) (s : Standing) → is_named name s ≡ true → s.this.name ≡ name
named_is name s t = (bytes_eq-Decides s.this.name name).0 t

pub is_named_lem : (name : List ℕ) (s : Standing) → s.this.name ≡ name → is_named name s ≡ true
is_named_lem name s e = (bytes_eq-Decides s.this.name name).1 e

-- what each of a list passes, and one of it
pub all_of_lem : {X : Type 0} (f : X → Bool) (P : X → Type 0) → ((x : X) → Decides (f x) (P x)) → (xs : List X) → list_all f xs ≡ true → AllByRecursion P xs
all_of_lem f P d xs t = (Decides-by_and f P (list_all f) d refl (λ _ _. refl) xs).0 t

pub all_one_of : {X : Type 0} (f : X → Bool) (xs : List X) → list_all f xs ≡ true → (x : X) → OneOf xs x → f x ≡ true
all_one_of f [] t x o = elim o [ ]
all_one_of f (y ∷ ys) t x (inl e) = ap f e ∙ (and_parts (f y) (list_all f ys) t).0
all_one_of f (y ∷ ys) t x (inr o) = all_one_of f ys (and_parts (f y) (list_all f ys) t).1 x o
