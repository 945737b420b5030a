-- From every state of a tree whose rows can be used, some rows lead to a state that may end, and some marks match them.
use Rattle.std.proofs.Common.{◌≡◌, ℕ, zero, suc, pred, ◌≤◌, List, [], ◌∷◌, ◌++◌, refl, ap, arith}
use Rattle.grammar.specs.Tree.{Rows, end, row}
use Rattle.grammar.proofs.States.{State, Step, take_row, skip_row, leave_list, Run, stay, move, run_append, StateMayEnd, Accepts}

-- the rows match the marks, one by one
abbrev pub RowsFit : {M : Type 0} → (ℕ → M → Type 0) → List ℕ → List M → Type 0
RowsFit R [] [] = Unit {0}
RowsFit R [] (m ∷ ms) = ⊥
RowsFit R (q ∷ w) [] = ⊥
RowsFit R (q ∷ w) (m ∷ ms) = R q m × RowsFit R w ms

pub fit_append : {M : Type 0} (R : ℕ → M → Type 0) (u : List ℕ) (ms : List M) (v : List ℕ) (ns : List M) → RowsFit R u ms → RowsFit R v ns → RowsFit R (u ++ v) (ms ++ ns)
fit_append R [] [] v ns f g = g
fit_append R [] (m ∷ ms) v ns f g = elim f [ ]
fit_append R (q ∷ u) [] v ns f g = elim f [ ]
fit_append R (q ∷ u) (m ∷ ms) v ns f g = (f.0, fit_append R u ms v ns f.1 g)

pub fit_split : {M : Type 0} (R : ℕ → M → Type 0) (w : List ℕ) (ms ns : List M) → RowsFit R w (ms ++ ns) → (u v : List ℕ) × (w ≡ u ++ v) × RowsFit R u ms × RowsFit R v ns
fit_split R w [] ns f = ([], w, refl, tt, f)
fit_split R [] (m ∷ ms) ns f = elim f [ ]
fit_split R (q ∷ w) (m ∷ ms) ns f =
    let t = fit_split R w ms ns f.1 in
    (q ∷ t.0, t.1, ap (λ (x : List ℕ). q ∷ x) t.2, (f.0, t.3), t.4)

-- each row may be used as often as it must, and there is a mark that it matches
abbrev pub Usable : {M : Type 0} → (ℕ → M → Type 0) → Rows → Type 0
Usable R end = Unit {0}
Usable {M} R (row a lo hi inner after) = (lo ≤ hi) × ((m : M) × R a m) × Usable R inner × Usable R after

abbrev pub UsableState : {M : Type 0} → (ℕ → M → Type 0) → State → Type 0
UsableState R [] = Unit {0}
UsableState R (rows ∷ outer) = Usable R rows × UsableState R outer

-- S can do all that X can
abbrev pub Includes : State → State → Type 0
Includes S X = ((q : ℕ) (Y : State) → Step X q Y → Step S q Y) × (StateMayEnd X → StateMayEnd S)

module _ {M : Type 0} (R : ℕ → M → Type 0) where
  pub step_usable : {S S' : State} {q : ℕ} → Step S q S' → UsableState R S → UsableState R S'
  step_usable (take_row {lo = lo} {hi = hi} e h) u =
      let l : lo ≤ hi = u.0.0 in
      (u.0.2, ((omega arith, u.0.1, u.0.2, u.0.3), u.1))
  step_usable (skip_row e s) u = step_usable s (u.0.3, u.1)
  step_usable (leave_list s) u = step_usable s u.1

  pub run_usable : {S S' : State} {w : List ℕ} → Run S w S' → UsableState R S → UsableState R S'
  run_usable stay u = u
  run_usable (move s r) u = run_usable r (step_usable s u)

  -- some rows and marks lead from S to a state that can do all that X can
  abbrev Reaches : State → State → Type 0
  Reaches S X = (w : List ℕ) × (ms : List M) × (S' : State) × Run S w S' × RowsFit R w ms × Includes S' X

  then_reach : {S X Y : State} → (to : Reaches S X) → Reaches to.2 Y → Reaches S Y
  then_reach (u, ms, S₁, r, f, i) (v, ns, S₂, r', g, j) = (u ++ v, ms ++ ns, S₂, run_append r r', fit_append R u ms v ns f g, j)

  -- each row is used as often as it must be
  abbrev Finishes : Rows → Type 0
  Finishes rows = (S outer : State) → Includes S (rows ∷ outer) → Reaches S outer

  finish_row : (a : ℕ) (inner after : Rows) → ((m : M) × R a m) → Finishes inner → Finishes after → (lo hi : ℕ) → lo ≤ hi → Finishes (row a lo hi inner after)
  finish_row a inner after m f g zero hi h S outer i = g S outer ((λ q Y s. i.0 q Y (skip_row refl s)), (λ e. i.1 ((refl, e.0), e.1)))
  finish_row a inner after m f g (suc lo) hi h S outer i =
      let X : State = row a lo (pred hi) inner after ∷ outer in
      let t : Reaches (inner ∷ X) X = f (inner ∷ X) X ((λ q Y s. s), (λ e. e)) in
      let v : Reaches (inner ∷ X) outer = then_reach t (finish_row a inner after m f g lo (pred hi) (omega arith) t.2 outer t.5) in
      (a ∷ v.0, m.0 ∷ v.1, v.2, move (i.0 a (inner ∷ X) (take_row refl (omega arith))) v.3, (m.1, v.4), v.5)

  finish_rows : (rows : Rows) → Usable R rows → Finishes rows
  finish_rows end u S outer i = ([], [], S, stay, tt, ((λ q Y s. i.0 q Y (leave_list s)), (λ e. i.1 (tt, e))))
  finish_rows (row a lo hi inner after) u S outer i = finish_row a inner after u.1 (finish_rows inner u.2) (finish_rows after u.3) lo hi u.0 S outer i

  finish_state : (S outer : State) → UsableState R outer → Includes S outer → Reaches S []
  finish_state S [] u i = ([], [], S, stay, tt, i)
  finish_state S (rows ∷ outer) u i =
      let t : Reaches S outer = finish_rows rows u.0 S outer i in
      then_reach t (finish_state t.2 outer u.1 t.5)

  -- so a usable state accepts some rows that some marks match
  pub some_accepted : (S : State) → UsableState R S → (w : List ℕ) × (ms : List M) × Accepts S w × RowsFit R w ms
  some_accepted S u =
      let t : Reaches S [] = finish_state S S u ((λ q Y s. s), (λ e. e)) in
      (t.0, t.1, (t.2, t.3, t.5.1 tt), t.4)
