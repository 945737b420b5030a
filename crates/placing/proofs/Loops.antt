-- The loops of a set's segments: what the code keeps of them is what a step gives.
use Rattle.std.proofs.Common.{◌≡◌, ℕ, zero, suc, pred, ◌+◌, ◌<◌, ◌≤◌, Bool, true, false, cond, ◌&&◌, ltb, List, [], ◌∷◌, ◌++◌, length, get_or, drop, set, Some, sym, refl, ap, ◌∙◌, subst, inl, inr, arith, length-drop, get_or-set_other, get_or-set_same}
use Rattle.std.proofs.lemmas.Bool.{lt-ltb, le-ltb, cond-true, cases_lt}
use Rattle.grammar.specs.Tree.{Rows, end, row}
use Rattle.grammar.specs.Derivations.{Spot, opens_loop, loop_of, spot_of}
use Rattle.grammar.proofs.States.{State}
use Rattle.grammar.proofs.LoopStates.{LoopState, without_loops, LoopStep, loop_take, loop_skip, loop_leave, looped_step}
use Rattle.grammar.proofs.FlatTable.{TableRow, flatten, behind_used, skip_deeper, skip_none, FirstNotDeeper, flatten_not_deeper, behind_not_deeper, counted_length}
use Rattle.grammar.proofs.Search.{StandsFor}
use Rattle.guide.specs.Meaning.{Meaning, Standing}
use Rattle.guide.specs.Asked.{row_at, matches}
use Rattle.guide.proofs.Rows.{test_some}
use Rattle.placing.specs.declared.sets.UsedRow.{UsedRow as CodeRow}
use Rattle.placing.specs.declared.sets.Choice.{Choice}
use Rattle.placing.specs.Model.{table_of, least_of, greatest_of, opens_in, opens_of, depth_in, depth_of, blank, below, Stands, Chosen, loop_with, around_of, LoopsAre, taken}
use Rattle.placing.proofs.Tables.{table_skips, loop_within, length_table}
use Rattle.placing.proofs.Finds.{below_length}

length_without : (U : LoopState) → length (without_loops U) ≡ length U
length_without [] = refl
length_without (list ∷ outer) = ap suc (length_without outer)

-- a step takes a row of one of the lists, and its loops are those of that list
abbrev StepTakes : List CodeRow → LoopState → ℕ → Spot → LoopState → Type 0
StepTakes us U n x V =
    (a lo hi : ℕ) × (inner after : Rows) × (outer : LoopState) × (h : ℕ)
    × (V ≡ (inner, loop_of a inner h n) ∷ (row a lo hi inner after, h) ∷ outer) × (x ≡ spot_of a inner h n) × (h ≡ loop_with us (length outer)) × LoopsAre us outer

step_takes : {U V : LoopState} {n : ℕ} {x : Spot} (us : List CodeRow) → LoopStep U n x V → LoopsAre us U → StepTakes us U n x V
step_takes us (loop_take {a = a} {lo = lo} {hi = hi} {h = h} {inner = inner} {after = after} {outer = outer} e g) l = (a, pred lo, pred hi, inner, after, outer, h, refl, e, l.0, l.1)
step_takes us (loop_skip e s) l = step_takes us s l
step_takes us (loop_leave s) l = step_takes us s l.1

-- the rows in use below a depth are not touched by what is written at it
below_set : (us : List CodeRow) (d k : ℕ) (x : CodeRow) → d ≤ k → below (set us k x) d ≡ below us d
below_set us zero k x h = refl
below_set us (suc d) k x h =
    let ne : d ≡ k → ⊥ = (λ e. omega arith) in
    let g : get_or (set us k x) d blank ≡ get_or us d blank = get_or-set_other us k d x blank ne in
    (λ i. record { row = (g i).row; count = (g i).count } ∷ below_set us d k x (omega arith) i)

loop_set : (us : List CodeRow) (d k : ℕ) (x : CodeRow) → d ≤ k → loop_with (set us k x) d ≡ loop_with us d
loop_set us zero k x h = refl
loop_set us (suc d) k x h = let ne : d ≡ k → ⊥ = (λ e. omega arith) in ap (λ (y : CodeRow). y.around) (get_or-set_other us k d x blank ne)

loops_set : (us : List CodeRow) (U : LoopState) (k : ℕ) (x : CodeRow) → length U ≤ suc k → LoopsAre us U → LoopsAre (set us k x) U
loops_set us [] k x h l = tt
loops_set us (list ∷ outer) k x h l = (l.0 ∙ sym (loop_set us (length outer) k x (omega arith)), loops_set us outer k x (omega arith) l.1)

-- what is deeper than a row behind it are the rows of its loop: there is none exactly where it opens no loop
length_skip : (d : ℕ) (xs : List TableRow) → length (skip_deeper d xs) ≤ length xs
length_skip d [] = omega arith
length_skip d (x ∷ xs) = go (ltb d x.depth) (length_skip d xs)
  where
    go : (b : Bool) → length (skip_deeper d xs) ≤ length xs → length (cond b (skip_deeper d xs) (x ∷ xs)) ≤ suc (length xs)
    go true h = omega arith
    go false h = omega arith

no_loop : (m : Meaning) (a : ℕ) (s : Standing) → row_at m a ≡ Some s → FirstNotDeeper s.depth (drop a (table_of m)) → s.inner ≡ 0
no_loop m a s e f =
    let k = ap length (table_skips m a s e ∙ skip_none s.depth (drop a (table_of m)) f) in
    let w = loop_within m a s e in
    let l = length_table m in
    omega (arith, k, length-drop (a + s.inner) (table_of m), length-drop a (table_of m))

some_loop : (m : Meaning) (a : ℕ) (s : Standing) (x : TableRow) (xs : List TableRow) → row_at m a ≡ Some s → drop a (table_of m) ≡ x ∷ xs → s.depth < x.depth → 0 < s.inner
some_loop m a s x xs e q h =
    let k : length (drop (a + s.inner) (table_of m)) ≡ length (skip_deeper s.depth xs) =
    ap length (table_skips m a s e ∙ ap (skip_deeper s.depth) q ∙ cond-true (ltb s.depth x.depth) (skip_deeper s.depth xs) (x ∷ xs) (lt-ltb s.depth x.depth h)) in
    let l = length_skip s.depth xs in
    let r : length (drop a (table_of m)) ≡ suc (length xs) = ap length q in
    omega (arith, length-drop (a + s.inner) (table_of m), length-drop a (table_of m))

opens_by : (m : Meaning) (a : ℕ) (s : Standing) (inner after : Rows) (outer : State) → row_at m a ≡ Some s → s.depth ≡ length outer → 1 < a → a < 65
    → drop a (table_of m) ≡ flatten (suc (length outer)) inner ++ (flatten (length outer) after ++ behind_used outer) → opens_of m a ≡ opens_loop a inner
opens_by m a s end after outer e d lo hi q =
    let n = no_loop m a s e (subst (λ (k : ℕ). FirstNotDeeper k (drop a (table_of m))) (sym d) (subst (FirstNotDeeper (length outer)) (sym q) (flatten_not_deeper (length outer) after (behind_used outer) (behind_not_deeper outer (length outer) (omega arith))))) in
    ap opens_in e ∙ le-ltb 0 s.inner (omega arith)
opens_by m a s (row b least greatest inside next) after outer e d lo hi q =
    let n = some_loop m a s (record { number = b; depth = suc (length outer); least = least; greatest = greatest }) _ e q (omega arith) in
    ap opens_in e ∙ lt-ltb 0 s.inner n ∙ (λ i. sym (lt-ltb 1 a lo) i && sym (lt-ltb a 65 hi) i)

-- the chosen row is taken: the state has that step, with the loops that the code gives, and the code's state stands for what it leads to
module _ (m : Meaning) (us : List CodeRow) (place depth : ℕ) (U : LoopState) (n : ℕ) (mark : List ℕ × List ℕ) (c : Choice) where
  new : CodeRow
  new = record { row = c.row; count = c.count; around = around_of us c n }

  abbrev pub spot : Spot
  spot = record { row = c.row; loop = around_of us c n; outer = loop_with us c.depth }

  below_taken : c.depth < length us → below (taken us c n) (suc c.depth) ≡ record { row = c.row; count = c.count } ∷ below us c.depth
  unfolding new
  below_taken h =
      let e : get_or (taken us c n) c.depth blank ≡ new = get_or-set_same us c.depth new blank h in
      (λ i. record { row = (e i).row; count = (e i).count } ∷ below_set us c.depth c.depth new (omega arith) i)

  levels_taken : c.depth < length us → c.depth ≤ depth → ((k : ℕ) → k < depth → depth_of m (get_or us k blank).row ≡ k) → depth_of m c.row ≡ c.depth
      → (k : ℕ) → k < suc c.depth → depth_of m (get_or (taken us c n) k blank).row ≡ k
  unfolding new
  levels_taken h d old here k l =
      elim (cases_lt k c.depth) [
        | inl lt ↦ let ne : k ≡ c.depth → ⊥ = (λ e. omega arith) in ap (λ (y : CodeRow). depth_of m y.row) (get_or-set_other us c.depth k new blank ne) ∙ old k (omega arith)
        | inr ge ↦ let e : c.depth ≡ k = omega arith in subst (λ (j : ℕ). depth_of m (get_or (taken us c n) j blank).row ≡ j) e (ap (λ (y : CodeRow). depth_of m y.row) (get_or-set_same us c.depth new blank h) ∙ here)
      ]

  -- the lists of the state that the step leads to
  module _ (lo hi : ℕ) (inner after : Rows) (outer : LoopState) (h : ℕ) (s : Standing)
      (stands : StandsFor (table_of m) (least_of m) (greatest_of m) (inner ∷ row c.row lo hi inner after ∷ without_loops outer) c.row (record { row = c.row; count = c.count } ∷ below us c.depth))
      (here : row_at m c.row ≡ Some s) (level : depth_of m c.row ≡ c.depth) (opens : c.opens ≡ opens_of m c.row) (low : 1 < c.row) (high : c.row < 65)
      (eh : h ≡ loop_with us (length outer)) (loops : LoopsAre us outer) (room : c.depth < length us) where
    outer_length : length outer ≡ c.depth
    outer_length =
        let a = counted_length (least_of m) (greatest_of m) (row c.row lo hi inner after ∷ without_loops outer) (record { row = c.row; count = c.count } ∷ below us c.depth) stands.1 in
        let b = length_without outer in
        let d = below_length us c.depth in
        omega arith

    same_loop : loop_of c.row inner h n ≡ around_of us c n
    same_loop =
        let b = length_without outer in
        let l = outer_length in
        let d : s.depth ≡ length (without_loops outer) = ap depth_in (sym here) ∙ level ∙ sym l ∙ sym b in
        let o : opens_of m c.row ≡ opens_loop c.row inner = opens_by m c.row s inner after (without_loops outer) here d low high stands.0.0 in
        (λ i. cond (sym (opens ∙ o) i) n ((eh ∙ ap (loop_with us) l) i))

    same_spot : spot_of c.row inner h n ≡ spot
    same_spot = let e = eh ∙ ap (loop_with us) outer_length in (λ i. record { row = c.row; loop = same_loop i; outer = e i })

    loops_taken : LoopsAre (taken us c n) ((inner, loop_of c.row inner h n) ∷ (row c.row lo hi inner after, h) ∷ outer)
    unfolding new
    loops_taken =
        let l = outer_length in (
          same_loop ∙ sym (ap (λ (k : ℕ). (get_or (taken us c n) k blank).around) l ∙ ap (λ (y : CodeRow). y.around) (get_or-set_same us c.depth new blank room)),
          (eh ∙ sym (loop_set us (length outer) c.depth new (omega arith)), loops_set us outer c.depth new (omega arith) loops),
        )

  pub set_step : Stands m place us depth (without_loops U) → LoopsAre us U → Chosen m us depth mark (without_loops U) c → c.depth < length us → 1 < c.row → c.row < 65
      → (V : LoopState) × LoopStep U n spot V × Stands m c.row (taken us c n) (suc c.depth) (without_loops V) × LoopsAre (taken us c n) V
  set_step st loops ch room low high =
      let f = ch.4 in
      let t = looped_step U n c.row f.0 f.1 in
      let k = step_takes us t.2 loops in
      let fit = test_some (λ (s : Standing). matches s.this mark.0 mark.1) (row_at m c.row) ch.1 in
      by_lists f.0 f.2 t.0 t.1 t.2 t.3 t.4 k.0 k.1 k.2 k.3 k.4 k.5 k.6 k.7 k.8 k.9 k.10 fit.0 fit.1
    where
      by_lists : (X : State) → StandsFor (table_of m) (least_of m) (greatest_of m) X c.row (record { row = c.row; count = c.count } ∷ below us c.depth)
          → (x : Spot) (V : LoopState) → LoopStep U n x V → x.row ≡ c.row → without_loops V ≡ X
          → (a lo hi : ℕ) (inner after : Rows) (outer : LoopState) (h : ℕ) → V ≡ (inner, loop_of a inner h n) ∷ (row a lo hi inner after, h) ∷ outer → x ≡ spot_of a inner h n → h ≡ loop_with us (length outer) → LoopsAre us outer
          → (s : Standing) → row_at m c.row ≡ Some s
          → (V : LoopState) × LoopStep U n spot V × Stands m c.row (taken us c n) (suc c.depth) (without_loops V) × LoopsAre (taken us c n) V
      by_lists X sx x V ls xr vx a lo hi inner after outer h ev ex eh lp s here =
          let ea : a ≡ c.row = sym (ap (λ (y : Spot). y.row) ex) ∙ xr in
          let V₁ : LoopState = (inner, loop_of c.row inner h n) ∷ (row c.row lo hi inner after, h) ∷ outer in
          let e₁ : V ≡ V₁ = ev ∙ (λ i. (inner, loop_of (ea i) inner h n) ∷ (row (ea i) lo hi inner after, h) ∷ outer) in
          let sv : StandsFor (table_of m) (least_of m) (greatest_of m) (without_loops V₁) c.row (record { row = c.row; count = c.count } ∷ below us c.depth) =
          subst (λ (Y : State). StandsFor (table_of m) (least_of m) (greatest_of m) Y c.row (record { row = c.row; count = c.count } ∷ below us c.depth)) (sym vx ∙ ap without_loops e₁) sx in
          let es : x ≡ spot = ex ∙ ap (λ (b : ℕ). spot_of b inner h n) ea ∙ same_spot lo hi inner after outer h s sv here ch.3 ch.2 low high eh lp room in
          let l₁ : LoopStep U n spot V₁ = subst (λ (Y : LoopState). LoopStep U n spot Y) e₁ (subst (λ (y : Spot). LoopStep U n y V) es ls) in (
            V₁,
            l₁,
            (
              subst (StandsFor (table_of m) (least_of m) (greatest_of m) (without_loops V₁) c.row) (sym (below_taken room)) sv,
              levels_taken room ch.0 st.1 ch.3,
            ),
            loops_taken lo hi inner after outer h s sv here ch.3 ch.2 low high eh lp room,
          )
