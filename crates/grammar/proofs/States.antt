-- The states between two segments, the steps from one to the next, and where a state may end. Nothing is assumed of the rows.
use Rattle.std.proofs.Common.{◌≡◌, ℕ, pred, ◌≤◌, ◌⊎◌, List, [], ◌∷◌, ◌++◌, refl, inl, inr}
use Rattle.grammar.specs.Tree.{Rows, end, row, HasRow}

-- A state has the lists of rows that are not yet finished, innermost first. In all but the innermost the first row is in use.
-- The least and the greatest use of a row in use are counted down: they say how often it must and may still be used.
abbrev pub State : Type 0
State = List Rows

-- A step uses a row: the first of the innermost list, or one behind rows that need no more use, or one behind lists that are finished.
pub data Step : State → ℕ → State → Type 0 where
  take_row : {q a lo hi : ℕ} {inner after : Rows} {outer : State} → q ≡ a → 1 ≤ hi → Step (row a lo hi inner after ∷ outer) q (inner ∷ row a (pred lo) (pred hi) inner after ∷ outer)
  skip_row : {q a lo hi : ℕ} {inner after : Rows} {outer S : State} → lo ≡ 0 → Step (after ∷ outer) q S → Step (row a lo hi inner after ∷ outer) q S
  leave_list : {q : ℕ} {outer S : State} → Step outer q S → Step (end ∷ outer) q S

-- a step from each form of state
pub step_row : {q a lo hi : ℕ} {inner after : Rows} {outer S : State} → Step (row a lo hi inner after ∷ outer) q S → ((q ≡ a) × (1 ≤ hi) × (S ≡ inner ∷ row a (pred lo) (pred hi) inner after ∷ outer)) ⊎ ((lo ≡ 0) × Step (after ∷ outer) q S)
step_row (take_row e h) = inl (e, h, refl)
step_row (skip_row e s) = inr (e, s)

pub step_end : {q : ℕ} {outer S : State} → Step (end ∷ outer) q S → Step outer q S
step_end (leave_list s) = s

pub step_none : {q : ℕ} {S : State} → Step [] q S → ⊥
step_none s = elim s [ ]

-- A run takes one step for each row of a list.
pub data Run : State → List ℕ → State → Type 0 where
  stay : {S : State} → Run S [] S
  move : {S S₁ S₂ : State} {q : ℕ} {w : List ℕ} → Step S q S₁ → Run S₁ w S₂ → Run S (q ∷ w) S₂

pub run_append : {S S₁ S₂ : State} {u v : List ℕ} → Run S u S₁ → Run S₁ v S₂ → Run S (u ++ v) S₂
run_append stay r = r
run_append (move s r) r' = move s (run_append r r')

pub run_cons : {S S₂ : State} {q : ℕ} {w : List ℕ} → Run S (q ∷ w) S₂ → (S₁ : State) × Step S q S₁ × Run S₁ w S₂
run_cons (move {S₁ = S₁} s r) = (S₁, s, r)

pub run_split : (u : List ℕ) {v : List ℕ} {S S₂ : State} → Run S (u ++ v) S₂ → (S₁ : State) × Run S u S₁ × Run S₁ v S₂
run_split [] {S = S} r = (S, stay, r)
run_split (q ∷ u) r =
    let c = run_cons r in
    let t = run_split u c.2 in
    (t.0, move c.1 t.1, t.2)

-- Rows may end where none of them must still be used, and a state where all of its lists may.
abbrev pub MayEnd : Rows → Type 0
MayEnd end = Unit {0}
MayEnd (row a lo hi inner after) = (lo ≡ 0) × MayEnd after

abbrev pub StateMayEnd : State → Type 0
StateMayEnd [] = Unit {0}
StateMayEnd (rows ∷ outer) = MayEnd rows × StateMayEnd outer

-- A state accepts the rows that lead to a state that may end.
abbrev pub Accepts : State → List ℕ → Type 0
Accepts S w = (S' : State) × Run S w S' × StateMayEnd S'

-- Row q directly follows row p in some rows that the tree accepts.
abbrev pub Follows : Rows → ℕ → ℕ → Type 0
Follows rows p q = (u v : List ℕ) × Accepts (rows ∷ []) (u ++ (p ∷ q ∷ v))

-- The rows of a state, at any depth; a step is by one of them, and leads to no other.
abbrev pub StateHasRow : State → ℕ → Type 0
StateHasRow [] q = ⊥
StateHasRow (rows ∷ outer) q = HasRow rows q ⊎ StateHasRow outer q

pub step_has : {S S' : State} {q : ℕ} → Step S q S' → StateHasRow S q
step_has (take_row e h) = inl (inl e)
step_has (skip_row e s) = elim (step_has s) [ inl i ↦ inl (inr (inr i)) | inr i ↦ inr i ]
step_has (leave_list s) = inr (step_has s)

pub step_keeps : {S S' : State} {p : ℕ} (q : ℕ) → Step S p S' → StateHasRow S' q → StateHasRow S q
step_keeps q (take_row e h) (inl i) = inl (inr (inl i))
step_keeps q (take_row e h) (inr i) = i
step_keeps q (skip_row e s) i = elim (step_keeps q s i) [ inl j ↦ inl (inr (inr j)) | inr j ↦ inr j ]
step_keeps q (leave_list s) i = inr (step_keeps q s i)

pub run_keeps : {S S' : State} {w : List ℕ} (q : ℕ) → Run S w S' → StateHasRow S' q → StateHasRow S q
run_keeps q stay i = i
run_keeps q (move s r) i = step_keeps q s (run_keeps q r i)

-- so each step of a run from a tree is by a row of the tree
pub run_has : {rows : Rows} {S S' : State} {w : List ℕ} {q : ℕ} → Run (rows ∷ []) w S → Step S q S' → HasRow rows q
run_has {q = q} r s = elim (run_keeps q r (step_has s)) [ inl i ↦ i | inr i ↦ absurd i ]

pub follows_has : (rows : Rows) (p q : ℕ) → Follows rows p q → HasRow rows p × HasRow rows q
follows_has rows p q f =
    let t = run_split f.0 f.2.1 in
    let c = run_cons t.2 in
    let d = run_cons c.2 in
    (run_has t.1 c.1, run_has (run_append t.1 (move c.1 stay)) d.1)
