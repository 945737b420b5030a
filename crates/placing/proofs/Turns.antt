-- What the turn of a segment tells of the phase and the name.
use Rattle.std.proofs.Common.{◌≡◌, ℕ, Bool, true, false, cond, eqb, ◌≢◌, ◌⊎◌, List, [], ◌∷◌, length, get_or, codes, sym, refl, ap, ◌∙◌, inl, inr, true≢false, arith}
use Rattle.std.proofs.lemmas.Bool.{eqb-true, and_parts}
use Rattle.placing.specs.declared.phase.Phase.{Phase}
use Rattle.placing.specs.declared.phase.Phase.TheVariants.{Start, Header, Group, Set, Closed, Trailer, End}
use Rattle.placing.specs.declared.turn.Turn.{Turn}
use Rattle.placing.specs.declared.turn.Turn.TheVariants.{Isa, FirstGs, NextGs, FirstSt, NextSt, Ge, Iea, Inside, Nowhere}
use Rattle.placing.specs.Turns.{is2, is3, turn_of}

two_bytes : (n : List ℕ) (a b : ℕ) → is2 n a b ≡ true → n ≡ a ∷ b ∷ []
two_bytes n a b h =
    let p = and_parts (eqb (length n) 2) _ h in
    let q = and_parts (eqb (get_or n 0 0) a) _ p.1 in
    go n (eqb-true (length n) 2 p.0) (eqb-true (get_or n 0 0) a q.0) (eqb-true (get_or n 1 0) b q.1)
  where
    go : (n : List ℕ) → length n ≡ 2 → get_or n 0 0 ≡ a → get_or n 1 0 ≡ b → n ≡ a ∷ b ∷ []
    go [] l x y = absurd (omega arith)
    go (c ∷ []) l x y = absurd (omega arith)
    go (c ∷ d ∷ []) l x y = (λ i. x i ∷ y i ∷ [])
    go (c ∷ d ∷ e ∷ n) l x y = absurd (omega arith)

three_bytes : (n : List ℕ) (a b c : ℕ) → is3 n a b c ≡ true → n ≡ a ∷ b ∷ c ∷ []
three_bytes n a b c h =
    let p = and_parts (eqb (length n) 3) _ h in
    let q = and_parts (eqb (get_or n 0 0) a) _ p.1 in
    let r = and_parts (eqb (get_or n 1 0) b) _ q.1 in
    go n (eqb-true (length n) 3 p.0) (eqb-true (get_or n 0 0) a q.0) (eqb-true (get_or n 1 0) b r.0) (eqb-true (get_or n 2 0) c r.1)
  where
    go : (n : List ℕ) → length n ≡ 3 → get_or n 0 0 ≡ a → get_or n 1 0 ≡ b → get_or n 2 0 ≡ c → n ≡ a ∷ b ∷ c ∷ []
    go [] l x y z = absurd (omega arith)
    go (d ∷ []) l x y z = absurd (omega arith)
    go (d ∷ e ∷ []) l x y z = absurd (omega arith)
    go (d ∷ e ∷ f ∷ []) l x y z = (λ i. x i ∷ y i ∷ z i ∷ [])
    go (d ∷ e ∷ f ∷ g ∷ n) l x y z = absurd (omega arith)

-- a phase and a name that have no turn
abbrev pub NoTurn : Phase → List ℕ → Type 0
NoTurn Start n = n ≢ codes "ISA"
NoTurn Header n = n ≢ codes "GS"
NoTurn Group n = n ≢ codes "ST"
NoTurn Set n = ⊥
NoTurn Closed n = (n ≢ codes "ST") × (n ≢ codes "GE")
NoTurn Trailer n = (n ≢ codes "GS") × (n ≢ codes "IEA")
NoTurn End n = Unit {0}

abbrev pub Told : Phase → List ℕ → Turn → Type 0
Told p n Isa = (p ≡ Start) × (n ≡ codes "ISA")
Told p n FirstGs = (p ≡ Header) × (n ≡ codes "GS")
Told p n NextGs = (p ≡ Trailer) × (n ≡ codes "GS")
Told p n FirstSt = (p ≡ Group) × (n ≡ codes "ST")
Told p n NextSt = (p ≡ Closed) × (n ≡ codes "ST")
Told p n Ge = (p ≡ Closed) × (n ≡ codes "GE")
Told p n Iea = (p ≡ Trailer) × (n ≡ codes "IEA")
Told p n Inside = p ≡ Set
Told p n Nowhere = NoTurn p n

by_test : (P : Turn → Type 0) (b : Bool) (x y : Turn) → (b ≡ true → P x) → (b ≡ false → P y) → P (cond b x y)
by_test P true x y f g = f refl
by_test P false x y f g = g refl

not_by : {A : Type 0} (b : Bool) → b ≡ false → (A → b ≡ true) → A → ⊥
not_by b e f a = true≢false (sym (f a) ∙ e)

pub turn_tells : (p : Phase) (n : List ℕ) → Told p n (turn_of p n)
turn_tells Start n = by_test (Told Start n) (is3 n 73 83 65) Isa Nowhere (λ t. (refl, three_bytes n 73 83 65 t)) (λ f. not_by (is3 n 73 83 65) f (λ e. ap (λ (v : List ℕ). is3 v 73 83 65) e))
turn_tells Header n = by_test (Told Header n) (is2 n 71 83) FirstGs Nowhere (λ t. (refl, two_bytes n 71 83 t)) (λ f. not_by (is2 n 71 83) f (λ e. ap (λ (v : List ℕ). is2 v 71 83) e))
turn_tells Group n = by_test (Told Group n) (is2 n 83 84) FirstSt Nowhere (λ t. (refl, two_bytes n 83 84 t)) (λ f. not_by (is2 n 83 84) f (λ e. ap (λ (v : List ℕ). is2 v 83 84) e))
turn_tells Set n = refl
turn_tells Closed n =
    by_test (Told Closed n) (is2 n 83 84) NextSt (cond (is2 n 71 69) Ge Nowhere) (λ t. (refl, two_bytes n 83 84 t))
    (λ f. by_test (Told Closed n) (is2 n 71 69) Ge Nowhere (λ t. (refl, two_bytes n 71 69 t))
    (λ g. (not_by (is2 n 83 84) f (λ e. ap (λ (v : List ℕ). is2 v 83 84) e), not_by (is2 n 71 69) g (λ e. ap (λ (v : List ℕ). is2 v 71 69) e))))
turn_tells Trailer n =
    by_test (Told Trailer n) (is2 n 71 83) NextGs (cond (is3 n 73 69 65) Iea Nowhere) (λ t. (refl, two_bytes n 71 83 t))
    (λ f. by_test (Told Trailer n) (is3 n 73 69 65) Iea Nowhere (λ t. (refl, three_bytes n 73 69 65 t))
    (λ g. (not_by (is2 n 71 83) f (λ e. ap (λ (v : List ℕ). is2 v 71 83) e), not_by (is3 n 73 69 65) g (λ e. ap (λ (v : List ℕ). is3 v 73 69 65) e))))
turn_tells End n = tt

-- SE closes the set, and no other name does
abbrev pub NextPhase : List ℕ → Phase → Type 0
NextPhase name p = ((name ≡ codes "SE") × (p ≡ Closed)) ⊎ ((name ≢ codes "SE") × (p ≡ Set))

pub phase_behind_lem : (n : List ℕ) → NextPhase n (cond (is2 n 83 69) Closed Set)
phase_behind_lem n = go (is2 n 83 69) refl
  where
    go : (b : Bool) → is2 n 83 69 ≡ b → NextPhase n (cond b Closed Set)
    go true t = inl (two_bytes n 83 69 t, refl)
    go false f = inr (not_by (is2 n 83 69) f (λ e. ap (λ (v : List ℕ). is2 v 83 69) e), refl)
