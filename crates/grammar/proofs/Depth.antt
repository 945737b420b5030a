-- A state of a tree that is nested at most D deep has at most D rows in use.
use Rattle.std.proofs.Common.{◌≡◌, ℕ, zero, suc, pred, ◌+◌, ◌≤◌, List, [], ◌∷◌, length, arith}
use Rattle.grammar.specs.Tree.{Rows, end, row}
use Rattle.grammar.proofs.States.{State, Step, take_row, skip_row, leave_list, Run, stay, move}

-- the rows are nested at most e deep: side by side they are 1 deep
abbrev pub Nested : ℕ → Rows → Type 0
Nested e end = Unit {0}
Nested zero (row a lo hi inner after) = ⊥
Nested (suc e) (row a lo hi inner after) = Nested e inner × Nested (suc e) after

-- each list of a state is nested as deep as its place leaves room for
abbrev pub StateNested : ℕ → State → Type 0
StateNested D [] = Unit {0}
StateNested D (rows ∷ outer) = ((e : ℕ) × (e + length outer ≡ D) × Nested e rows) × StateNested D outer

take_nested : (D e a lo hi lo' hi' : ℕ) (inner after : Rows) (outer : State) → e + length outer ≡ D → Nested e (row a lo hi inner after) → StateNested D outer → StateNested D (inner ∷ row a lo' hi' inner after ∷ outer)
take_nested D zero a lo hi lo' hi' inner after outer q d b = elim d [ ]
take_nested D (suc e) a lo hi lo' hi' inner after outer q d b = ((e, omega arith, d.0), ((suc e, q, d), b))

after_nested : (e a lo hi : ℕ) (inner after : Rows) → Nested e (row a lo hi inner after) → Nested e after
after_nested zero a lo hi inner after d = elim d [ ]
after_nested (suc e) a lo hi inner after d = d.1

pub step_nested : {S X : State} {q : ℕ} (D : ℕ) → Step S q X → StateNested D S → StateNested D X
step_nested D (take_row {a = a} {lo = lo} {hi = hi} {inner = inner} {after = after} {outer = outer} e h) b = take_nested D b.0.0 a lo hi (pred lo) (pred hi) inner after outer b.0.1 b.0.2 b.1
step_nested D (skip_row {a = a} {lo = lo} {hi = hi} {inner = inner} {after = after} e s) b = step_nested D s ((b.0.0, b.0.1, after_nested b.0.0 a lo hi inner after b.0.2), b.1)
step_nested D (leave_list s) b = step_nested D s b.1

pub run_nested : {S X : State} {w : List ℕ} (D : ℕ) → Run S w X → StateNested D S → StateNested D X
run_nested D stay b = b
run_nested D (move s r) b = run_nested D r (step_nested D s b)

pub tree_nested : (D : ℕ) (rows : Rows) → Nested D rows → StateNested D (rows ∷ [])
tree_nested D rows d = ((D, omega arith, d), tt)

-- each outer list has a row in use
pub nested_in_use : (D : ℕ) (rows : Rows) (outer : State) → StateNested D (rows ∷ outer) → length outer ≤ D
nested_in_use D rows outer b =
    let e : b.0.0 + length outer ≡ D = b.0.1 in
    omega arith
