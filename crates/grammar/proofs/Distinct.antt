-- Where no row stands twice in a tree, a row leads from a state to one state only.
use Rattle.std.proofs.Common.{◌≡◌, ℕ, ◌⊎◌, List, [], ◌∷◌, ◌++◌, refl, subst, inl, inr}
use Rattle.grammar.specs.Tree.{Rows, end, row, HasRow}
use Rattle.grammar.proofs.States.{State, Step, take_row, skip_row, leave_list, Run, stay, move, run_split, Accepts}

-- no row stands twice in the tree
abbrev pub DistinctRows : Rows → Type 0
DistinctRows end = Unit {0}
DistinctRows (row a lo hi inner after) = (HasRow inner a → ⊥) × (HasRow after a → ⊥) × ((q : ℕ) → HasRow inner q → HasRow after q → ⊥) × DistinctRows inner × DistinctRows after

-- the rows of a list that stand in no other row of it; and of the lists of a state
abbrev pub OutermostRow : Rows → ℕ → Type 0
OutermostRow end q = ⊥
OutermostRow (row a lo hi inner after) q = (q ≡ a) ⊎ OutermostRow after q

abbrev pub StateOutermostRow : State → ℕ → Type 0
StateOutermostRow [] q = ⊥
StateOutermostRow (rows ∷ outer) q = OutermostRow rows q ⊎ StateOutermostRow outer q

-- in a state the inner rows of a row in use stand twice: in the row, and as a list of their own
abbrev pub DistinctState : State → Type 0
DistinctState [] = Unit {0}
DistinctState (rows ∷ outer) = DistinctRows rows × ((q : ℕ) → HasRow rows q → StateOutermostRow outer q → ⊥) × DistinctState outer

pub tree_distinct : (rows : Rows) → DistinctRows rows → DistinctState (rows ∷ [])
tree_distinct rows d = (d, (λ q i j. j), tt)

pub outermost_has : (rows : Rows) (q : ℕ) → OutermostRow rows q → HasRow rows q
outermost_has end q t = elim t [ ]
outermost_has (row a lo hi inner after) q (inl e) = inl e
outermost_has (row a lo hi inner after) q (inr t) = inr (inr (outermost_has after q t))

pub step_outermost : {S S' : State} {q : ℕ} → Step S q S' → StateOutermostRow S q
step_outermost (take_row e h) = inl (inl e)
step_outermost (skip_row e s) = elim (step_outermost s) [ inl t ↦ inl (inr t) | inr t ↦ inr t ]
step_outermost (leave_list s) = inr (step_outermost s)

pub step_distinct : {S S' : State} {q : ℕ} → Step S q S' → DistinctState S → DistinctState S'
step_distinct (take_row {a = a} {inner = inner} {after = after} {outer = outer} e h) d =
    (d.0.3, inner_only, (d.0, d.1, d.2))
  where
    inner_only : (q : ℕ) → HasRow inner q → (((q ≡ a) ⊎ OutermostRow after q) ⊎ StateOutermostRow outer q) → ⊥
    inner_only q i (inl (inl e)) = d.0.0 (subst (HasRow inner) e i)
    inner_only q i (inl (inr t)) = d.0.2 q i (outermost_has after q t)
    inner_only q i (inr t) = d.1 q (inr (inl i)) t
step_distinct (skip_row e s) d = step_distinct s (d.0.4, λ q i t. d.1 q (inr (inr i)) t, d.2)
step_distinct (leave_list s) d = step_distinct s d.2

-- a row that stands first is no row behind it
pub first_not_behind : (a : ℕ) (after : Rows) (outer : State) {q : ℕ} → (HasRow after a → ⊥) → (StateOutermostRow outer a → ⊥) → q ≡ a → (OutermostRow after q ⊎ StateOutermostRow outer q) → ⊥
first_not_behind a after outer {q} f g e (inl t) = f (subst (HasRow after) e (outermost_has after q t))
first_not_behind a after outer {q} f g e (inr t) = g (subst (StateOutermostRow outer) e t)

pub step_unique : {S S₁ S₂ : State} {q : ℕ} → DistinctState S → Step S q S₁ → Step S q S₂ → S₁ ≡ S₂
step_unique d (take_row e h) (take_row e' h') = refl
step_unique d (take_row {a = a} {after = after} {outer = outer} e h) (skip_row e' s) = absurd (first_not_behind a after outer d.0.1 (d.1 a (inl refl)) e (step_outermost s))
step_unique d (skip_row {a = a} {after = after} {outer = outer} e' s) (take_row e h) = absurd (first_not_behind a after outer d.0.1 (d.1 a (inl refl)) e (step_outermost s))
step_unique d (skip_row e s) (skip_row e' s') = step_unique (d.0.4, λ q i t. d.1 q (inr (inr i)) t, d.2) s s'
step_unique d (leave_list s) (leave_list s') = step_unique d.2 s s'

-- so rows lead to one state
pub run_unique : {S S₁ S₂ : State} {w : List ℕ} → DistinctState S → Run S w S₁ → Run S w S₂ → S₁ ≡ S₂
run_unique d stay stay = refl
run_unique {S₂ = S₂} d (move {w = w} s r) (move s' r') = run_unique (step_distinct s d) r (subst (λ (X : State). Run X w S₂) (step_unique d s' s) r')

-- what follows rows that were read is accepted by the state that they lead to
pub accepts_rest : {S S₁ : State} {u v : List ℕ} → DistinctState S → Run S u S₁ → Accepts S (u ++ v) → Accepts S₁ v
accepts_rest {u = u} {v = v} d r (X, r', m) =
    let t = run_split u r' in
    (X, subst (λ (Y : State). Run Y v X) (run_unique d t.1 r) t.2, m)
