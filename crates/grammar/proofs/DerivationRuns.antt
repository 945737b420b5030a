-- The derivations by a tree are the runs from it that may end.
use Rattle.std.proofs.Common.{◌≡◌, ℕ, suc, pred, ◌+◌, ◌≤◌, List, [], ◌∷◌, ◌++◌, length, sym, refl, ap, ◌∙◌, subst, append_assoc, append-nil, arith, length-append}
use Rattle.grammar.specs.Tree.{Rows, end, row}
use Rattle.grammar.specs.Derivations.{Spot, loop_of, spot_of, InOrder, no_row, next_row, Uses, no_use, next_use}
use Rattle.grammar.proofs.States.{MayEnd, StateMayEnd}
use Rattle.grammar.proofs.LoopStates.{LoopState, without_loops, LoopStep, loop_take, loop_skip, loop_leave, LoopRun, loop_stay, loop_move, loop_run_append}

-- S can do all that X can
abbrev LoopIncludes : LoopState → LoopState → Type 0
LoopIncludes S X = ((n : ℕ) (x : Spot) (Y : LoopState) → LoopStep X n x Y → LoopStep S n x Y) × (StateMayEnd (without_loops X) → StateMayEnd (without_loops S))

-- the spots lead from S to a state that can do all that X can
abbrev Leads : LoopState → ℕ → List Spot → LoopState → Type 0
Leads S n w X = (S' : LoopState) × LoopRun S n w S' × LoopIncludes S' X

-- rows in order are a run
mutual
  rows_lead : {rows : Rows} {h n : ℕ} {w : List Spot} (S outer : LoopState) → InOrder rows h n w → LoopIncludes S ((rows, h) ∷ outer) → Leads S n w outer
  rows_lead S outer no_row i = (S, loop_stay, ((λ n x Y s. i.0 n x Y (loop_leave s)), (λ e. i.1 (tt, e))))
  rows_lead S outer (next_row {least = lo} {greatest = hi} {after = after} l g u r) i =
      let t = uses_lead lo hi after S outer u l g i in
      let v = rows_lead t.0 outer r t.2 in
      (v.0, loop_run_append t.1 v.1, v.2)

  uses_lead : {a k h n : ℕ} {inner : Rows} {w : List Spot} (lo hi : ℕ) (after : Rows) (S outer : LoopState) → Uses a inner k h n w → lo ≤ k → k ≤ hi → LoopIncludes S ((row a lo hi inner after, h) ∷ outer) → Leads S n w ((after, h) ∷ outer)
  uses_lead lo hi after S outer no_use l g i = (S, loop_stay, ((λ n x Y s. i.0 n x Y (loop_skip (omega arith) s)), (λ e. i.1 ((omega arith, e.0), e.1))))
  uses_lead lo hi after S outer (next_use {number = a} {around = h} {place = n} {inner = inner} r u) l g i =
      let X : LoopState = (row a (pred lo) (pred hi) inner after, h) ∷ outer in
      let t = rows_lead ((inner, loop_of a inner h n) ∷ X) X r ((λ n x Y s. s), (λ e. e)) in
      let v = uses_lead (pred lo) (pred hi) after t.0 outer u (omega arith) (omega arith) t.2 in
      (v.0, loop_move (i.0 n (spot_of a inner h n) ((inner, loop_of a inner h n) ∷ X) (loop_take refl (omega arith))) (loop_run_append t.1 v.1), v.2)

-- A tree's run to a state that may end.
abbrev pub FullRun : Rows → ℕ → ℕ → List Spot → Type 0
FullRun rows h n w = (S : LoopState) × LoopRun ((rows, h) ∷ []) n w S × StateMayEnd (without_loops S)

pub derivation_run : {rows : Rows} {h n : ℕ} {w : List Spot} → InOrder rows h n w → FullRun rows h n w
derivation_run {rows} {h} d =
    let t = rows_lead ((rows, h) ∷ []) [] d ((λ n x Y s. s), (λ e. e)) in
    (t.0, t.1, t.2.1 tt)

-- the spots of the lists of a state, each in order, one list after the other
abbrev AllInOrder : LoopState → ℕ → List Spot → Type 0
AllInOrder [] n w = w ≡ []
AllInOrder (list ∷ outer) n w = (u v : List Spot) × (w ≡ u ++ v) × InOrder list.0 list.1 n u × AllInOrder outer (n + length u) v

-- a row is used once more, or not at all
use_more : {a lo hi h n : ℕ} {inner after : Rows} {u v : List Spot} → 1 ≤ hi → InOrder inner (loop_of a inner h n) (suc n) u → InOrder (row a (pred lo) (pred hi) inner after) h (suc n + length u) v → InOrder (row a lo hi inner after) h n (spot_of a inner h n ∷ (u ++ v))
use_more {a} {lo} {hi} {h} {n} {inner} {after} {u} g d (next_row {times = k} {used = used} {others = others} l m r o) =
    let o' : InOrder after h (n + length (spot_of a inner h n ∷ (u ++ used))) others = subst (λ (j : ℕ). InOrder after h j others) (omega (arith, length-append u used)) o in
    subst (λ (w : List Spot). InOrder (row a lo hi inner after) h n (spot_of a inner h n ∷ w)) (append_assoc u used others) (next_row (omega arith) (omega arith) (next_use d r) o')

use_none : {a lo hi h n : ℕ} {inner after : Rows} {w : List Spot} → lo ≡ 0 → InOrder after h n w → InOrder (row a lo hi inner after) h n w
use_none {h = h} {after = after} {w = w} e d = next_row {times = 0} (omega arith) (omega arith) no_use (subst (λ (j : ℕ). InOrder after h j w) (omega arith) d)

step_back : {S S' : LoopState} {n : ℕ} {x : Spot} (w : List Spot) → LoopStep S n x S' → AllInOrder S' (suc n) w → AllInOrder S n (x ∷ w)
step_back w (loop_take {a = a} {lo = lo} {hi = hi} {h = h} {n = n} {x = x} {inner = inner} {after = after} {outer = outer} e g) (u, v, e₁, d, (u', v', e₂, d', o)) = (
  x ∷ (u ++ u'),
  v',
  ap (λ (z : List Spot). x ∷ z) (e₁ ∙ (ap (λ (z : List Spot). u ++ z) e₂ ∙ sym (append_assoc u u' v'))),
  subst (λ (y : Spot). InOrder (row a lo hi inner after) h n (y ∷ (u ++ u'))) (sym e) (use_more g d d'),
  subst (λ (j : ℕ). AllInOrder outer j v') (omega (arith, length-append u u')) o,
)
step_back w (loop_skip e s) o =
    let t = step_back w s o in
    (t.0, t.1, t.2, use_none e t.3, t.4)
step_back {n = n} {x = x} w (loop_leave {outer = outer} s) o = ([], x ∷ w, refl, no_row, subst (λ (k : ℕ). AllInOrder outer k (x ∷ w)) (omega arith) (step_back w s o))

end_in_order : (rows : Rows) (h n : ℕ) → MayEnd rows → InOrder rows h n []
end_in_order end h n e = no_row
end_in_order (row a lo hi inner after) h n e = use_none e.0 (end_in_order after h n e.1)

end_all_in_order : (S : LoopState) (n : ℕ) → StateMayEnd (without_loops S) → AllInOrder S n []
end_all_in_order [] n e = refl
end_all_in_order (list ∷ outer) n e = ([], [], refl, end_in_order list.0 list.1 n e.0, end_all_in_order outer (n + 0) e.1)

run_back : {S S' : LoopState} {n : ℕ} {w : List Spot} → LoopRun S n w S' → StateMayEnd (without_loops S') → AllInOrder S n w
run_back (loop_stay {S = S} {n = n}) e = end_all_in_order S n e
run_back (loop_move {w = w} s r) e = step_back w s (run_back r e)

pub run_derivation : {rows : Rows} {h n : ℕ} {w : List Spot} → FullRun rows h n w → InOrder rows h n w
run_derivation {rows} {h} {n} f =
    let t = run_back f.1 f.2 in
    subst (InOrder rows h n) (sym (t.2 ∙ (ap (λ (z : List Spot). t.0 ++ z) t.4 ∙ append-nil t.0))) t.3
