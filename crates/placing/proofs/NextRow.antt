-- The placing that computes is right: it finds the row that every derivation gives the next segment, and tells where the marks are whole.
use Rattle.std.proofs.Common.{◌≡◌, ℕ, suc, pred, ◌≤◌, Bool, true, false, cond, ◌&&◌, eqb, leb, List, [], ◌∷◌, ◌++◌, length, Some, None, codes, Decides, MatchBool, Option, sym, refl, subst, inl, inr, arith, MatchOption}
use Rattle.std.proofs.lemmas.Slice.Eq.{bytes_eq-Decides}
use Rattle.std.proofs.lemmas.Bool.{false≢true, cond-true, leb-true, le-leb}
use Rattle.std.proofs.lemmas.Bool.Decides.{Decides-at, Decides-and, Decides-eqb}
use Rattle.std.specs.Str.{bytes_eq}
use Rattle.grammar.specs.Tree.{Rows, end, row, HasRow}
use Rattle.grammar.specs.Marks.{Mark, Label, Matches}
use Rattle.grammar.specs.Derivations.{Spot, loop_of, spot_of}
use Rattle.grammar.specs.Interchange.{interchange, with_envelope, Begins}
use Rattle.grammar.specs.Theorems.{OneDerivation, OnlyBegun}
use Rattle.grammar.proofs.States.{State, step_row, step_end, step_none, MayEnd, StateMayEnd, StateHasRow, run_keeps}
use Rattle.grammar.proofs.LoopStates.{LoopState, without_loops, LoopStep, loop_take, loop_skip, loop_leave, loop_stay, forget_run, rows_of as rows_in}
use Rattle.grammar.proofs.Determined.{Refuses}
use Rattle.grammar.proofs.Followers.{match_fit}
use Rattle.grammar.proofs.LawfulSets.{RowMatches, label_of_set}
use Rattle.grammar.proofs.Judging.{read_whole, read_part}
use Rattle.guide.specs.Meaning.{Meaning, Standing}
use Rattle.guide.specs.Asked.{row_at, rows_of, label_of, fits_row}
use Rattle.guide.specs.Law.{Lawful}
use Rattle.guide.proofs.Sets.{lawful_rows}
use Rattle.placing.specs.Placing.{EveryDerivationGives, FitsNowhere}
use Rattle.placing.specs.Next.{takes, next_in, next_by, next_spot, rows_may_end, may_end, start_state}
use Rattle.placing.proofs.Fitting.{fits_decides, others_within, others_known}
use Rattle.placing.proofs.Runs.{LeadsTo, led_begins, refused_nowhere, leads_on, all_give}

-- a test that tells which rows match the mark finds a step of the state that does, or there is none
module _ (R : ℕ → Mark → Type 0) (mk : Mark) (test : ℕ → Bool) (n : ℕ) where
  abbrev Found : LoopState → Option (Spot × LoopState) → Type 0
  Found S None = Refuses R (without_loops S) mk
  Found S (Some r) = LoopStep S n r.0 r.1 × R r.0.row mk

  abbrev Tells : State → Type 0
  Tells S = (q : ℕ) → StateHasRow S q → Decides (test q) (R q mk)

  found_row : (a lo hi : ℕ) (inner after : Rows) (h : ℕ) (outer : LoopState) (on : Option (Spot × LoopState)) → Found ((after, h) ∷ outer) on
      → (b c : Bool) → Decides b ((1 ≤ hi) × R a mk) → Decides c (lo ≡ 0)
      → Found ((row a lo hi inner after, h) ∷ outer) (cond b (Some (spot_of a inner h n, (inner, loop_of a inner h n) ∷ (row a (pred lo) (pred hi) inner after, h) ∷ outer)) (cond c on None))
  found_row a lo hi inner after h outer on f true c y z = let t = y.0 refl in (loop_take refl t.0, t.1)
  found_row a lo hi inner after h outer None f false true y z =
      λ q X s r. elim (step_row s) [ inl t ↦ false≢true (y.1 (t.1, subst (λ (k : ℕ). R k mk) t.0 r)) | inr t ↦ f q X t.1 r ]
  found_row a lo hi inner after h outer (Some v) f false true y z = (loop_skip (z.0 refl) f.0, f.1)
  found_row a lo hi inner after h outer on f false false y z =
      λ q X s r. elim (step_row s) [ inl t ↦ false≢true (y.1 (t.1, subst (λ (k : ℕ). R k mk) t.0 r)) | inr t ↦ false≢true (z.1 t.0) ]

  found_end : (h : ℕ) (outer : LoopState) (up : Option (Spot × LoopState)) → Found outer up → Found ((end, h) ∷ outer) up
  found_end h outer None f = λ q X s r. f q X (step_end s) r
  found_end h outer (Some v) f = (loop_leave f.0, f.1)

  found_in : (rows : Rows) (h : ℕ) (outer : LoopState) (up : Option (Spot × LoopState)) → Tells (rows ∷ without_loops outer) → Found outer up → Found ((rows, h) ∷ outer) (next_in test n rows h outer up)
  found_in end h outer up d f = found_end h outer up f
  found_in (row a lo hi inner after) h outer up d f =
      found_row a lo hi inner after h outer (next_in test n after h outer up)
      (found_in after h outer up (λ q i. d q (elim i [ inl j ↦ inl (inr (inr j)) | inr j ↦ inr j ])) f)
      (leb 1 hi && test a) (eqb lo 0)
      (Decides-and (leb 1 hi) (test a) (leb-true 1 hi, le-leb 1 hi) (d a (inl (inl refl))))
      (Decides-eqb lo 0)

  pub found_by : (S : LoopState) → Tells (without_loops S) → Found S (next_by test n S)
  found_by [] d = λ q X s r. step_none s
  found_by (list ∷ outer) d = found_in list.0 list.1 outer (next_by test n outer) d (found_by outer (λ q i. d q (inr i)))

-- whether a state may end
rows_end_decided : (rows : Rows) → Decides (rows_may_end rows) (MayEnd rows)
rows_end_decided end = ((λ e. tt), (λ x. refl))
rows_end_decided (row a lo hi inner after) = Decides-and (eqb lo 0) (rows_may_end after) (Decides-eqb lo 0) (rows_end_decided after)

pub end_decided : (S : LoopState) → Decides (may_end S) (StateMayEnd (without_loops S))
end_decided [] = ((λ e. tt), (λ x. refl))
end_decided (list ∷ outer) = Decides-and (rows_may_end list.0) (may_end outer) (rows_end_decided list.0) (end_decided outer)

module _ (m : Meaning) (w : Lawful m) where
  -- the test of a row of the guide
  guide_takes : (mk : Mark) (q : ℕ) (s : Standing) → q ≤ 64 → row_at m q ≡ Some s → Decides (takes m mk q) (RowMatches (label_of m) q mk)
  guide_takes mk q s h e =
      Decides-at (takes m mk q) (fits_row m q mk.name mk.first) (cond-true (leb q 64) (fits_row m q mk.name mk.first) (bytes_eq mk.name (with_envelope (label_of m) q).name) (le-leb q 64 h))
      (subst (λ (l : Label). Decides (fits_row m q mk.name mk.first) (Matches l mk)) (sym (label_of_set (label_of m) q h)) (fits_decides m q s mk e))

  -- and of one that matches every mark of its name
  name_takes : (mk : Mark) (name : List ℕ) → Decides (bytes_eq mk.name name) ((mk.name ≡ name) × Unit {0})
  name_takes mk name = let d = bytes_eq-Decides mk.name name in ((λ e. (d.0 e, tt)), (λ x. d.1 x.0))

  abbrev TakesRight : Mark → ℕ → Type 0
  TakesRight mk q = Decides (takes m mk q) (RowMatches (label_of m) q mk)

  takes_right : (mk : Mark) (q : ℕ) → HasRow (interchange (rows_of m)) q → TakesRight mk q
  takes_right mk q (inl e) = subst (TakesRight mk) (sym e) (name_takes mk (codes "ISA"))
  takes_right mk q (inr (inl i)) = absurd i
  takes_right mk q (inr (inr (inl e))) = subst (TakesRight mk) (sym e) (name_takes mk (codes "GS"))
  takes_right mk q (inr (inr (inr (inl (inl e))))) =
      let t = w.first_is_st in
      subst (TakesRight mk) (sym e) (guide_takes mk 1 t.0 (omega arith) t.1)
  takes_right mk q (inr (inr (inr (inl (inr (inl i)))))) =
      let b = others_within m w q i in
      let few = w.few_rows in
      let k = others_known m w q i in
      guide_takes mk q k.0 (omega (arith, b.1)) k.1
  takes_right mk q (inr (inr (inr (inl (inr (inr (inl e))))))) = subst (TakesRight mk) (sym e) (name_takes mk (codes "GE"))
  takes_right mk q (inr (inr (inr (inl (inr (inr (inr (inl i)))))))) = absurd i
  takes_right mk q (inr (inr (inr (inl (inr (inr (inr (inr i)))))))) = absurd i
  takes_right mk q (inr (inr (inr (inr (inl e))))) = subst (TakesRight mk) (sym e) (name_takes mk (codes "IEA"))
  takes_right mk q (inr (inr (inr (inr (inr (inl i)))))) = absurd i
  takes_right mk q (inr (inr (inr (inr (inr (inr i)))))) = absurd i

  -- no marks lead to the state in which an interchange begins
  pub start_right : LeadsTo m [] [] (start_state m)
  start_right = (loop_stay, tt)

  module _ (marks : List Mark) (spots : List Spot) (S : LoopState) (run : LeadsTo m marks spots S) where
    tells : (mk : Mark) (q : ℕ) → StateHasRow (without_loops S) q → TakesRight mk q
    tells mk q i = elim (run_keeps q (forget_run run.0) i) [ inl j ↦ takes_right mk q j | inr j ↦ absurd j ]

    -- the next segment is placed as every derivation places it, or it fits nowhere
    pub next_right : (n : ℕ) (mk : Mark) → n ≡ suc (length marks)
        → MatchOption (next_spot m S n mk) (FitsNowhere m marks mk)
        (λ r. Begins (label_of m) (rows_of m) (marks ++ (mk ∷ [])) × EveryDerivationGives m marks mk r.0 × LeadsTo m (marks ++ (mk ∷ [])) (spots ++ (r.0 ∷ [])) r.1)
    next_right n mk e = go (next_spot m S n mk) (found_by (RowMatches (label_of m)) mk (takes m mk) n S (tells mk))
      where
        go : (o : Option (Spot × LoopState)) → Found (RowMatches (label_of m)) mk (takes m mk) n S o
            → MatchOption o (FitsNowhere m marks mk)
            (λ r. Begins (label_of m) (rows_of m) (marks ++ (mk ∷ [])) × EveryDerivationGives m marks mk r.0 × LeadsTo m (marks ++ (mk ∷ [])) (spots ++ (r.0 ∷ [])) r.1)
        go None f = refused_nowhere m w marks spots S run n mk f
        go (Some r) f =
            let on = leads_on m w marks spots S run n mk r.0 r.1 e f.1 f.0 in (
              led_begins m w (marks ++ (mk ∷ [])) (spots ++ (r.0 ∷ [])) r.1 on,
              all_give m w marks spots S run n mk r.0 r.1 e f.1 f.0,
              on,
            )

    -- where the state may end the marks have exactly one derivation, and else they only begin one
    pub end_right : MatchBool (may_end S) (OneDerivation (label_of m) (rows_of m) marks) (OnlyBegun (label_of m) (rows_of m) marks)
    end_right = go (may_end S) (end_decided S)
      where
        go : (b : Bool) → Decides b (StateMayEnd (without_loops S)) → MatchBool b (OneDerivation (label_of m) (rows_of m) marks) (OnlyBegun (label_of m) (rows_of m) marks)
        go true d = read_whole (label_of m) (rows_of m) (lawful_rows m w) marks (rows_in spots) (without_loops S) (forget_run run.0) (match_fit (with_envelope (label_of m)) spots marks run.1) (d.0 refl)
        go false d = read_part (label_of m) (rows_of m) (lawful_rows m w) marks (rows_in spots) (without_loops S) (forget_run run.0) (match_fit (with_envelope (label_of m)) spots marks run.1) (λ x. false≢true (d.1 x))
