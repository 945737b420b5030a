-- A segment inside a set: the row that the search chose takes it, and SE closes the set.
use Rattle.std.proofs.Common.{◌≡◌, ℕ, suc, ◌<◌, true, List, [], ◌∷◌, ◌++◌, length, Some, codes, Option, sym, refl, ap, ◌∙◌, subst, inl, inr, arith}
use Rattle.grammar.specs.Tree.{HasRow}
use Rattle.grammar.specs.Marks.{Mark}
use Rattle.grammar.proofs.States.{State, Run, stay, move, run_append, run_has}
use Rattle.grammar.proofs.Distinct.{DistinctState, tree_distinct, step_distinct}
use Rattle.grammar.proofs.LoopStates.{LoopState, without_loops, LoopStep, forget_step}
use Rattle.grammar.proofs.Determined.{Refuses}
use Rattle.grammar.proofs.LawfulSets.{RowMatches, lawful_distinct}
use Rattle.guide.specs.Meaning.{Meaning, Standing, size}
use Rattle.guide.specs.Asked.{row_at, rows_of, label, label_of, fits_row}
use Rattle.guide.specs.Law.{Lawful}
use Rattle.guide.proofs.Sets.{lawful_rows}
use Rattle.placing.specs.declared.phase.Phase.{Phase}
use Rattle.placing.specs.declared.phase.Phase.TheVariants.{Set}
use Rattle.placing.specs.declared.sets.UsedRow.{UsedRow as CodeRow}
use Rattle.placing.specs.declared.sets.Choice.{Choice}
use Rattle.placing.specs.Model.{Fits, Stands, Chosen, taken, around_of, loop_with}
use Rattle.placing.specs.Stages.{others_of, sets_left, StandsAt}
use Rattle.placing.proofs.Loops.{set_step}
use Rattle.placing.proofs.Ends.{last_taken, other_taken}
use Rattle.placing.proofs.Turns.{NextPhase}
use Rattle.placing.proofs.Fitting.{fits_decides, others_within, others_known}
use Rattle.placing.proofs.Phases.{loop_upper, fits_row_lem, refuse_set}

run_distinct : {S X : State} {w : List ℕ} → Run S w X → DistinctState S → DistinctState X
run_distinct stay d = d
run_distinct (move s r) d = run_distinct r (step_distinct s d)

module _ (m : Meaning) (w : Lawful m) (us : List CodeRow) (place depth g s : ℕ) (mk : Mark) where
  pub inside_refused : (S : LoopState) → StandsAt m Set g s place us depth S → ((X : State) → Stands m place us depth X → Refuses (Fits m) X (mk.name, mk.first))
      → Refuses (RowMatches (label_of m)) (without_loops S) mk
  inside_refused S (a, b, (U, e, (st, loops, (v, run), before))) f =
      subst (λ (T : LoopState). Refuses (RowMatches (label_of m)) (without_loops T) mk) (sym e) (refuse_set m w mk U (sets_left m g s) v run before (f (without_loops U) st))

  set_distinct : DistinctState (others_of m ∷ [])
  set_distinct = tree_distinct (others_of m) (lawful_distinct (label_of m) (rows_of m) (lawful_rows m w)).4.3.3

  -- a row of the set takes a segment named SE exactly if it is the last
  se_is_last : (q : ℕ) → HasRow (others_of m) q → fits_row m q mk.name mk.first ≡ true → mk.name ≡ codes "SE" → q ≡ size m.tree
  se_is_last q i f e =
      let k = others_known m w q i in
      w.no_other_se q (k.0, k.1, sym (((fits_decides m q k.0 mk k.1).0 f).0 ∙ named q k.0 k.1) ∙ e)
    where
      named : (q : ℕ) (x : Standing) → row_at m q ≡ Some x → (label_of m q).name ≡ x.this.name
      named q x e = ap (λ (o : Option Standing). (label o).name) e

  last_is_se : (q : ℕ) → fits_row m q mk.name mk.first ≡ true → q ≡ size m.tree → mk.name ≡ codes "SE"
  last_is_se q f e =
      let l = w.last_is_se in
      let h : row_at m q ≡ Some l.0 = ap (row_at m) e ∙ l.1 in
      ((fits_decides m q l.0 mk h).0 f).0 ∙ ap (λ (o : Option Standing). (label o).name) h ∙ l.2

  module _ (n : ℕ) (c : Choice) where
    abbrev pub Taken : LoopState → Phase → Type 0
    Taken S p =
        RowMatches (label_of m) c.row mk
        × ((V : LoopState) × LoopStep S n (record { row = c.row; loop = around_of us c n; outer = loop_with us c.depth }) V
        × StandsAt m p g s c.row (taken us c n) (suc c.depth) V)

    pub inside_taken : (S : LoopState) (p : Phase) → StandsAt m Set g s place us depth S → ((X : State) → Stands m place us depth X → Chosen m us depth (mk.name, mk.first) X c) → c.depth < length us → NextPhase mk.name p → Taken S p
    inside_taken S p (a, b, (U, e, (st, loops, (v, run), before))) f room next =
        let ch = f (without_loops U) st in
        let step = ch.4.1 in
        let has = run_has run step in
        let within = others_within m w c.row has in
        let few = w.few_rows in
        let t = set_step m us place depth U n (mk.name, mk.first) c st loops ch room (omega (arith, within.0)) (omega (arith, within.1)) in
        let ls = loop_upper (sets_left m g s) t.1 in
        let fs = forget_step t.1 in (
          fits_row_lem m w c.row mk has ch.1,
          (
            t.0 ++ sets_left m g s,
            subst (λ (T : LoopState). LoopStep T n (record { row = c.row; loop = around_of us c n; outer = loop_with us c.depth }) (t.0 ++ sets_left m g s)) (sym e) ls,
            elim next [
              | inl x ↦ subst (λ (k : Phase). StandsAt m k g s c.row (taken us c n) (suc c.depth) (t.0 ++ sets_left m g s)) (sym x.1)
                  (a, b, (t.0, refl, last_taken (size m.tree) fs (run_distinct run set_distinct) before (se_is_last c.row has ch.1 x.0)))
              | inr x ↦ subst (λ (k : Phase). StandsAt m k g s c.row (taken us c n) (suc c.depth) (t.0 ++ sets_left m g s)) (sym x.1)
                  (a, b, (t.0, refl, (t.2, t.3, (v ++ (c.row ∷ []), run_append run (move fs stay)), other_taken (size m.tree) fs before (λ q. x.0 (last_is_se c.row ch.1 q)))))
            ],
          ),
        )
