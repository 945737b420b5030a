-- A set whose last row is used once, as SE: its state may end after that row, and not before.
use Rattle.std.proofs.Common.{◌≡◌, ℕ, pred, ◌⊎◌, [], ◌∷◌, refl, ◌∙◌, inl, inr, arith}
use Rattle.grammar.specs.Tree.{Rows, end, row}
use Rattle.grammar.proofs.States.{State, Step, take_row, skip_row, leave_list, step_none, MayEnd, StateMayEnd}

-- the last of the rows is this one, to be used once, and opens nothing
abbrev pub EndsWith : ℕ → Rows → Type 0
EndsWith last end = ⊥
EndsWith last (row a lo hi inner after) = ((a ≡ last) × (lo ≡ 1) × (hi ≡ 1) × (inner ≡ end) × (after ≡ end)) ⊎ EndsWith last after

-- the outermost list of a state ends with it, so that it was not yet used
abbrev OutermostEndsWith : ℕ → Rows → State → Type 0
OutermostEndsWith last rows [] = EndsWith last rows
OutermostEndsWith last rows (list ∷ outer) = OutermostEndsWith last list outer

abbrev pub BeforeLast : ℕ → State → Type 0
BeforeLast last [] = ⊥
BeforeLast last (rows ∷ outer) = OutermostEndsWith last rows outer

-- the state after it
abbrev pub after_last : ℕ → State
after_last last = end ∷ row last 0 0 end end ∷ []

rows_not_ended : (last : ℕ) (rows : Rows) → EndsWith last rows → MayEnd rows → ⊥
rows_not_ended last end w e = w
rows_not_ended last (row a lo hi inner after) (inl w) e =
    let f : lo ≡ 1 = w.1 in
    let g : lo ≡ 0 = e.0 in
    omega arith
rows_not_ended last (row a lo hi inner after) (inr w) e = rows_not_ended last after w e.1

outermost_not_ended : (last : ℕ) (rows : Rows) (outer : State) → OutermostEndsWith last rows outer → StateMayEnd (rows ∷ outer) → ⊥
outermost_not_ended last rows [] w e = rows_not_ended last rows w e.0
outermost_not_ended last rows (list ∷ outer) w e = outermost_not_ended last list outer w e.1

-- before the last row a state may not end
pub before_last_not_ended : (last : ℕ) (S : State) → BeforeLast last S → StateMayEnd S → ⊥
before_last_not_ended last [] w e = w
before_last_not_ended last (rows ∷ outer) w e = outermost_not_ended last rows outer w e

take_before_last : (last a lo hi : ℕ) (inner after : Rows) (outer : State) → OutermostEndsWith last (row a lo hi inner after) outer → OutermostEndsWith last inner (row a (pred lo) (pred hi) inner after ∷ outer) ⊎ ((a ≡ last) × (inner ∷ row a (pred lo) (pred hi) inner after ∷ outer ≡ after_last last))
take_before_last last a lo hi inner after [] (inl w) = inr (w.0, λ i. w.3 i ∷ row (w.0 i) (pred (w.1 i)) (pred (w.2 i)) (w.3 i) (w.4 i) ∷ [])
take_before_last last a lo hi inner after [] (inr w) = inl (inr w)
take_before_last last a lo hi inner after (list ∷ outer) w = inl w

skip_before_last : (last a lo hi : ℕ) (inner after : Rows) (outer : State) → lo ≡ 0 → OutermostEndsWith last (row a lo hi inner after) outer → OutermostEndsWith last after outer
skip_before_last last a lo hi inner after [] e (inl w) =
    let f : lo ≡ 1 = w.1 in
    absurd (omega arith)
skip_before_last last a lo hi inner after [] e (inr w) = w
skip_before_last last a lo hi inner after (list ∷ outer) e w = w

leave_before_last : (last : ℕ) (outer : State) → OutermostEndsWith last end outer → BeforeLast last outer
leave_before_last last [] w = w
leave_before_last last (list ∷ outer) w = w

-- a step before the last row leads to a state before it, or is by that row
pub step_before_last : {S X : State} {q : ℕ} (last : ℕ) → Step S q X → BeforeLast last S → BeforeLast last X ⊎ ((q ≡ last) × (X ≡ after_last last))
step_before_last last (take_row {a = a} {lo = lo} {hi = hi} {inner = inner} {after = after} {outer = outer} e h) w = elim (take_before_last last a lo hi inner after outer w) [ inl t ↦ inl t | inr t ↦ inr (e ∙ t.0, t.1) ]
step_before_last last (skip_row {a = a} {lo = lo} {hi = hi} {inner = inner} {after = after} {outer = outer} e s) w = step_before_last last s (skip_before_last last a lo hi inner after outer e w)
step_before_last last (leave_list {outer = outer} s) w = step_before_last last s (leave_before_last last outer w)

-- after it the state may end, and has no step
pub after_last_ended : (last : ℕ) → StateMayEnd (after_last last)
after_last_ended last = (tt, ((refl, tt), tt))

pub after_last_no_step : {X : State} {q : ℕ} (last : ℕ) → Step (after_last last) q X → ⊥
after_last_no_step last (leave_list (take_row e h)) = omega arith
after_last_no_step last (leave_list (skip_row e (leave_list s))) = step_none s
