-- States that keep the loop of each list: the rows of a run determine the loops that it gives.
use Rattle.std.proofs.Common.{◌≡◌, ℕ, suc, pred, ◌+◌, ◌≤◌, List, [], ◌∷◌, ◌++◌, map, length, sym, refl, ap, ◌∙◌, subst, inl, inr, arith}
use mathlib.Core.List.{cons≢nil}
use Rattle.grammar.specs.Tree.{Rows, end, row}
use Rattle.grammar.specs.Derivations.{Spot, loop_of, spot_of}
use Rattle.grammar.proofs.States.{State, Step, take_row, skip_row, leave_list, step_row, step_end, Run, stay, move}
use Rattle.grammar.proofs.Distinct.{DistinctState, step_outermost, step_distinct, first_not_behind}

-- a state with the loop that each of its lists stands in
abbrev pub LoopState : Type 0
LoopState = List (Rows × ℕ)

abbrev pub without_loops : LoopState → State
without_loops [] = []
without_loops (list ∷ outer) = list.0 ∷ without_loops outer

-- the rows of spots
abbrev pub rows_of : List Spot → List ℕ
rows_of spots = map (λ (x : Spot). x.row) spots

-- a step to the segment at the place n
pub data LoopStep : LoopState → ℕ → Spot → LoopState → Type 0 where
  loop_take : {a lo hi h n : ℕ} {x : Spot} {inner after : Rows} {outer : LoopState} → x ≡ spot_of a inner h n → 1 ≤ hi → LoopStep ((row a lo hi inner after, h) ∷ outer) n x ((inner, loop_of a inner h n) ∷ (row a (pred lo) (pred hi) inner after, h) ∷ outer)
  loop_skip : {a lo hi h n : ℕ} {x : Spot} {inner after : Rows} {outer S : LoopState} → lo ≡ 0 → LoopStep ((after, h) ∷ outer) n x S → LoopStep ((row a lo hi inner after, h) ∷ outer) n x S
  loop_leave : {h n : ℕ} {x : Spot} {outer S : LoopState} → LoopStep outer n x S → LoopStep ((end, h) ∷ outer) n x S

pub data LoopRun : LoopState → ℕ → List Spot → LoopState → Type 0 where
  loop_stay : {S : LoopState} {n : ℕ} → LoopRun S n [] S
  loop_move : {S S₁ S₂ : LoopState} {n : ℕ} {x : Spot} {w : List Spot} → LoopStep S n x S₁ → LoopRun S₁ (suc n) w S₂ → LoopRun S n (x ∷ w) S₂

pub loop_run_append : {S S₁ S₂ : LoopState} {n : ℕ} {u v : List Spot} → LoopRun S n u S₁ → LoopRun S₁ (n + length u) v S₂ → LoopRun S n (u ++ v) S₂
loop_run_append {S₂ = S₂} {v = v} (loop_stay {S = S} {n = n}) r = subst (λ (k : ℕ). LoopRun S k v S₂) (omega arith) r
loop_run_append {S₂ = S₂} {v = v} (loop_move {S₂ = S₁} s r) r' = loop_move s (loop_run_append r (subst (λ (k : ℕ). LoopRun S₁ k v S₂) (omega arith) r'))

-- without its loops a step is a step, and a run is a run
pub forget_step : {S S' : LoopState} {n : ℕ} {x : Spot} → LoopStep S n x S' → Step (without_loops S) x.row (without_loops S')
forget_step (loop_take e h) = take_row (ap (λ (y : Spot). y.row) e) h
forget_step (loop_skip e s) = skip_row e (forget_step s)
forget_step (loop_leave s) = leave_list (forget_step s)

pub forget_run : {S S' : LoopState} {n : ℕ} {w : List Spot} → LoopRun S n w S' → Run (without_loops S) (rows_of w) (without_loops S')
forget_run loop_stay = stay
forget_run (loop_move s r) = move (forget_step s) (forget_run r)

-- and each step has its loops, and so has each run
abbrev pub LoopedStep : LoopState → ℕ → ℕ → State → Type 0
LoopedStep S n q X = (x : Spot) × (S' : LoopState) × LoopStep S n x S' × (x.row ≡ q) × (without_loops S' ≡ X)

pub looped_step_in : (rows : Rows) (h : ℕ) (outer : LoopState) (n q : ℕ) (X : State) → (Step (without_loops outer) q X → LoopedStep outer n q X) → Step (rows ∷ without_loops outer) q X → LoopedStep ((rows, h) ∷ outer) n q X
looped_step_in end h outer n q X f s = let t = f (step_end s) in (t.0, t.1, loop_leave t.2, t.3, t.4)
looped_step_in (row a lo hi inner after) h outer n q X f s =
    elim (step_row s) [
      | inl t ↦ (spot_of a inner h n, (inner, loop_of a inner h n) ∷ (row a (pred lo) (pred hi) inner after, h) ∷ outer, loop_take refl t.1, sym t.0, sym t.2)
      | inr t ↦ let u = looped_step_in after h outer n q X f t.1 in (u.0, u.1, loop_skip t.0 u.2, u.3, u.4)
    ]

pub looped_step : (S : LoopState) (n q : ℕ) (X : State) → Step (without_loops S) q X → LoopedStep S n q X
looped_step [] n q X s = elim s [ ]
looped_step (list ∷ outer) n q X s = looped_step_in list.0 list.1 outer n q X (looped_step outer n q X) s

abbrev pub LoopedRun : LoopState → ℕ → List ℕ → State → Type 0
LoopedRun S n w X = (v : List Spot) × (S' : LoopState) × LoopRun S n v S' × (rows_of v ≡ w) × (without_loops S' ≡ X)

pub looped_run : {R X : State} {w : List ℕ} → Run R w X → (S : LoopState) (n : ℕ) → without_loops S ≡ R → LoopedRun S n w X
looped_run stay S n e = ([], S, loop_stay, refl, e)
looped_run (move {S₁ = R₁} {q = q} s r) S n e =
    let t = looped_step S n q R₁ (subst (λ (Y : State). Step Y q R₁) (sym e) s) in
    let u = looped_run r t.1 (suc n) t.4 in
    (t.0 ∷ u.0, u.1, loop_move t.2 u.2, (λ i. t.3 i ∷ u.3 i), u.4)

-- a row is taken in one way, with its loops
pub loop_step_unique : {S S₁ S₂ : LoopState} {n : ℕ} {x y : Spot} → DistinctState (without_loops S) → x.row ≡ y.row → LoopStep S n x S₁ → LoopStep S n y S₂ → (x ≡ y) × (S₁ ≡ S₂)
loop_step_unique d q (loop_take e h) (loop_take e' h') = (e ∙ sym e', refl)
loop_step_unique d q (loop_take {a = a} {after = after} {outer = outer} e h) (loop_skip e' s) = absurd (first_not_behind a after (without_loops outer) d.0.1 (d.1 a (inl refl)) (sym q ∙ ap (λ (z : Spot). z.row) e) (step_outermost (forget_step s)))
loop_step_unique d q (loop_skip {a = a} {after = after} {outer = outer} e' s) (loop_take e h) = absurd (first_not_behind a after (without_loops outer) d.0.1 (d.1 a (inl refl)) (q ∙ ap (λ (z : Spot). z.row) e) (step_outermost (forget_step s)))
loop_step_unique d q (loop_skip e s) (loop_skip e' s') = loop_step_unique (d.0.4, λ z i t. d.1 z (inr (inr i)) t, d.2) q s s'
loop_step_unique d q (loop_leave s) (loop_leave s') = loop_step_unique d.2 q s s'

-- so two runs by the same rows give the same loops
pub same_rows_same_spots : {S S₁ S₂ : LoopState} {n : ℕ} {v w : List Spot} → DistinctState (without_loops S) → LoopRun S n v S₁ → LoopRun S n w S₂ → rows_of v ≡ rows_of w → v ≡ w
same_rows_same_spots d loop_stay loop_stay e = refl
same_rows_same_spots d loop_stay (loop_move s r) e = absurd (cons≢nil (sym e))
same_rows_same_spots d (loop_move s r) loop_stay e = absurd (cons≢nil e)
same_rows_same_spots {S₂ = S₂} {n = n} d (loop_move {x = x} {w = v} s r) (loop_move {x = y} {w = w} s' r') e =
    let first : x.row ≡ y.row = cc in
    let others : rows_of v ≡ rows_of w = cc in
    let u = loop_step_unique d first s s' in
    let same = same_rows_same_spots (step_distinct (forget_step s) d) r (subst (λ (X : LoopState). LoopRun X (suc n) w S₂) (sym u.1) r') others in
    (λ j. u.0 j ∷ same j)
