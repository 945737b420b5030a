-- What the answer of a check means, and how checks are joined: each of two checks, of each of a list.
use Rattle.std.proofs.Common.{◌≡◌, ℕ, suc, ◌<◌, ◌≤◌, Bool, true, false, cond, ◌⊎◌, List, [], ◌∷◌, Ok, Err, Result, sym, refl, subst, inl, inr, arith}
use Rattle.std.proofs.lemmas.Bool.{true≢false}
use Rattle.x12.specs.declared.faults.Fault.{Fault}
use Rattle.x12.specs.Lists.{Item, and_then, each}
use Rattle.x12.specs.Rank.{key, Before, First, NoneOf}
use Rattle.x12.proofs.Rank.{lex_refl}

-- faults of one sort or the other
abbrev pub Or : (Fault → Type 0) → (Fault → Type 0) → Fault → Type 0
Or P Q f = P f ⊎ Q f

-- a fault that a check gives is the first of those that it looks for; where it gives none there is none, and J holds of what it hands on
abbrev pub Judged : {A : Type 0} → (Fault → Type 0) → (A → Type 0) → Result A Fault → Type 0
Judged P J (Ok a) = NoneOf P × J a
Judged P J (Err f) = First P f

-- all of P rank before all of Q
abbrev pub Earlier : (Fault → Type 0) → (Fault → Type 0) → Type 0
Earlier P Q = (f g : Fault) → P f → Q g → Before f g

abbrev pub Anything : Unit {0} → Type 0
Anything u = Unit {0}

-- one check after another
pub judged_then : {A B : Type 0} (P Q : Fault → Type 0) (J : A → Type 0) (K : B → Type 0) (r : Result A Fault) (next : A → Result B Fault) →
    Earlier P Q → Judged P J r → ((a : A) → NoneOf P → J a → Judged Q K (next a)) → Judged (Or P Q) K (and_then r next)
judged_then P Q J K (Ok a) next o j c = on (next a) (c a j.0 j.1)
  where
    on : (r : Result _ Fault) → Judged Q K r → Judged (Or P Q) K r
    on (Ok b) d = ((λ f x. elim x [ inl p ↦ j.0 f p | inr q ↦ d.0 f q ]), d.1)
    on (Err f) d = (inr d.0, (λ g x. elim x [ inl p ↦ absurd (j.0 g p) | inr q ↦ d.1 g q ]))
judged_then P Q J K (Err f) next o j c = (inl j.0, (λ g x. elim x [ inl p ↦ j.1 g p | inr q ↦ o f g j.0 q ]))

-- in other words
pub judged_as : {A : Type 0} (P Q : Fault → Type 0) (J : A → Type 0) (r : Result A Fault) → ((f : Fault) → P f → Q f) → ((f : Fault) → Q f → P f) → Judged P J r → Judged Q J r
judged_as P Q J (Ok a) u v j = ((λ f q. j.0 f (v f q)), j.1)
judged_as P Q J (Err f) u v j = (u f j.0, (λ g q. j.1 g (v g q)))

-- a test for one fault, and then another check
pub judged_test : {A : Type 0} (P Q : Fault → Type 0) (J : A → Type 0) (b : Bool) (f : Fault) (r : Result A Fault) → (b ≡ true → P f) → ((g : Fault) → P g → (b ≡ true) × (g ≡ f)) → Earlier P Q
    → Judged Q J r → Judged (Or P Q) J (cond b (Err f) r)
judged_test P Q J true f r y n o j =
    (inl (y refl), (λ g x. elim x [ inl p ↦ subst (λ (h : Fault). Before f h) (sym (n g p).1) (lex_refl (key f)) | inr q ↦ o f g (y refl) q ]))
judged_test P Q J false f (Ok a) y n o j = ((λ g x. elim x [ inl p ↦ absurd (true≢false (sym (n g p).0)) | inr q ↦ j.0 g q ]), j.1)
judged_test P Q J false f (Err h) y n o j = (inr j.0, (λ g x. elim x [ inl p ↦ absurd (true≢false (sym (n g p).0)) | inr q ↦ j.1 g q ]))

-- no fault at all
abbrev pub Never : Fault → Type 0
Never f = ⊥

pub judged_none : {A : Type 0} (J : A → Type 0) (a : A) → J a → Judged Never J (Ok a)
judged_none J a j = ((λ f x. x), j)

-- what holds of an item of a list and its place
abbrev pub Any : {X : Type 0} → (ℕ → X → Fault → Type 0) → ℕ → List X → Fault → Type 0
Any {X} P e xs f = (n : ℕ) × (y : X) × Item e xs n y × P n y f

pub item_from : {X : Type 0} (e : ℕ) (xs : List X) (n : ℕ) (y : X) → Item e xs n y → e ≤ n
item_from e [] n y i = elim i [ ]
item_from e (x ∷ xs) n y (inl i) = let q : n ≡ e = i.0 in omega arith
item_from e (x ∷ xs) n y (inr i) = let q = item_from (suc e) xs n y i in omega arith

-- a check of each of a list in order, where the faults of an earlier item rank before those of a later one
module _ {X : Type 0} (P : ℕ → X → Fault → Type 0) (check : ℕ → X → Result (Unit {0}) Fault)
    (one : (e : ℕ) (x : X) → Judged (P e x) Anything (check e x)) (rising : (d e : ℕ) (x y : X) (f g : Fault) → d < e → P d x f → P e y g → Before f g) where
  pub each_judged : (xs : List X) (e : ℕ) → Judged (Any P e xs) Anything (each check e xs)
  each_judged [] e = ((λ f x. x.2), tt)
  each_judged (x ∷ xs) e =
      judged_as (Or (P e x) (Any P (suc e) xs)) (Any P e (x ∷ xs)) Anything (each check e (x ∷ xs))
      (λ f o. elim o [ inl p ↦ (e, x, inl (refl, refl), p) | inr s ↦ (s.0, s.1, inr s.2, s.3) ])
      (λ f s. apart f s.0 s.1 s.2 s.3)
      (judged_then (P e x) (Any P (suc e) xs) Anything Anything (check e x) (λ u. each check (suc e) xs)
      (λ f g p s. rising e s.0 x s.1 f g (item_from (suc e) xs s.0 s.1 s.2) p s.3)
      (one e x)
      (λ u n j. each_judged xs (suc e)))
    where
      apart : (f : Fault) (n : ℕ) (y : X) → ((n ≡ e) × (y ≡ x)) ⊎ Item (suc e) xs n y → P n y f → Or (P e x) (Any P (suc e) xs) f
      apart f n y (inl i) p = inl (subst (λ (z : ℕ × X). P z.0 z.1 f) (λ j. (i.0 j, i.1 j)) p)
      apart f n y (inr i) p = inr (n, y, i, p)
