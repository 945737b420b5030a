-- A state over another, as a set's over the envelope's: a step is the upper's, or the lower's where the upper may end.
use Rattle.std.proofs.Common.{◌≡◌, ℕ, pred, ◌⊎◌, [], ◌∷◌, ◌++◌, inl, inr}
use Rattle.grammar.specs.Tree.{Rows, end, row}
use Rattle.grammar.proofs.States.{State, Step, take_row, skip_row, leave_list, step_row, step_end, MayEnd, StateMayEnd}
use Rattle.grammar.proofs.Determined.{Refuses}

abbrev pub StepOver : State → State → ℕ → State → Type 0
StepOver S O q X = ((S' : State) × Step S q S' × (X ≡ S' ++ O)) ⊎ (StateMayEnd S × Step O q X)

pub step_over_in : (rows : Rows) (outer O : State) (q : ℕ) (X : State) → (Step (outer ++ O) q X → StepOver outer O q X) → Step (rows ∷ (outer ++ O)) q X → StepOver (rows ∷ outer) O q X
step_over_in end outer O q X f s = elim (f (step_end s)) [ inl t ↦ inl (t.0, leave_list t.1, t.2) | inr t ↦ inr ((tt, t.0), t.1) ]
step_over_in (row a lo hi inner after) outer O q X f s =
    elim (step_row s) [
      | inl t ↦ inl (inner ∷ row a (pred lo) (pred hi) inner after ∷ outer, take_row t.0 t.1, t.2)
      | inr t ↦ elim (step_over_in after outer O q X f t.1) [ inl u ↦ inl (u.0, skip_row t.0 u.1, u.2) | inr u ↦ inr (((t.0, u.0.0), u.0.1), u.1) ]
    ]

pub step_over : (S O : State) (q : ℕ) (X : State) → Step (S ++ O) q X → StepOver S O q X
step_over [] O q X s = inr (tt, s)
step_over (rows ∷ outer) O q X s = step_over_in rows outer O q X (step_over outer O q X) s

-- and back
pub upper_step : {S S' : State} {q : ℕ} (O : State) → Step S q S' → Step (S ++ O) q (S' ++ O)
upper_step O (take_row e h) = take_row e h
upper_step O (skip_row e s) = skip_row e (upper_step O s)
upper_step O (leave_list s) = leave_list (upper_step O s)

pub step_behind : (rows : Rows) (outer : State) (q : ℕ) (X : State) → MayEnd rows → Step outer q X → Step (rows ∷ outer) q X
step_behind end outer q X e s = leave_list s
step_behind (row a lo hi inner after) outer q X e s = skip_row e.0 (step_behind after outer q X e.1 s)

pub lower_step : (S O : State) (q : ℕ) (X : State) → StateMayEnd S → Step O q X → Step (S ++ O) q X
lower_step [] O q X e s = s
lower_step (rows ∷ outer) O q X e s = step_behind rows (outer ++ O) q X e.0 (lower_step outer O q X e.1 s)

pub refuses_over : {M : Type 0} (R : ℕ → M → Type 0) (S O : State) (m : M) → Refuses R S m → (StateMayEnd S → Refuses R O m) → Refuses R (S ++ O) m
refuses_over R S O m f g q X s r = elim (step_over S O q X s) [ inl t ↦ f q t.0 t.1 r | inr t ↦ g t.0 q X t.1 r ]
