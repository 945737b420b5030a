-- The steps of an interchange, phase by phase: which row takes a segment, and where none does.
use Rattle.std.proofs.Common.{◌≡◌, ℕ, pred, ◌+◌, ◌-◌, ◌<◌, ◌≤◌, true, ◌≢◌, ◌⊎◌, List, [], ◌∷◌, ◌++◌, codes, sym, refl, ap, subst, inl, inr, arith, lit≤}
use Rattle.grammar.specs.Tree.{Rows, end, row, HasRow}
use Rattle.grammar.specs.Marks.{Mark, Label, Matches}
use Rattle.grammar.specs.Derivations.{Spot, loop_of}
use Rattle.grammar.specs.Interchange.{group_rows, interchange}
use Rattle.grammar.proofs.States.{State, Step, take_row, skip_row, leave_list, Run, run_has, StateMayEnd}
use Rattle.grammar.proofs.LoopStates.{LoopState, without_loops, LoopStep, loop_take, loop_skip, loop_leave}
use Rattle.grammar.proofs.Determined.{Refuses}
use Rattle.grammar.proofs.Envelope.{interchange_rows, from_start, from_isa, from_gs, from_iea}
use Rattle.grammar.proofs.UpperState.{refuses_over}
use Rattle.grammar.proofs.LastRow.{BeforeLast, after_last, before_last_not_ended, after_last_no_step}
use Rattle.grammar.proofs.LawfulSets.{RowMatches, label_of_set}
use Rattle.guide.specs.Meaning.{Meaning, size}
use Rattle.guide.specs.Asked.{rows_of, label_of, fits_row}
use Rattle.guide.specs.Law.{Lawful}
use Rattle.placing.specs.Model.{Fits}
use Rattle.placing.specs.Stages.{others_of, groups_left, sets_left}
use Rattle.placing.proofs.Fitting.{fits_decides, others_within, others_known}

-- a state over another, with loops
pub without_append : (U O : LoopState) → without_loops (U ++ O) ≡ without_loops U ++ without_loops O
without_append [] O = refl
without_append (list ∷ outer) O = ap (λ (l : State). list.0 ∷ l) (without_append outer O)

pub loop_upper : {U V : LoopState} {n : ℕ} {x : Spot} (O : LoopState) → LoopStep U n x V → LoopStep (U ++ O) n x (V ++ O)
loop_upper O (loop_take e h) = loop_take e h
loop_upper O (loop_skip e s) = loop_skip e (loop_upper O s)
loop_upper O (loop_leave s) = loop_leave (loop_upper O s)

rows_lower : (rows : Rows) (h : ℕ) (outer : LoopState) (n : ℕ) (x : Spot) (V : LoopState) → StateMayEnd (rows ∷ []) → LoopStep outer n x V → LoopStep ((rows, h) ∷ outer) n x V
rows_lower end h outer n x V e s = loop_leave s
rows_lower (row a lo hi inner after) h outer n x V e s = loop_skip e.0.0 (rows_lower after h outer n x V (e.0.1, tt) s)

pub loop_lower : (U O : LoopState) (n : ℕ) (x : Spot) (V : LoopState) → StateMayEnd (without_loops U) → LoopStep O n x V → LoopStep (U ++ O) n x V
loop_lower [] O n x V e s = s
loop_lower (list ∷ outer) O n x V e s = rows_lower list.0 list.1 (outer ++ O) n x V (e.0, tt) (loop_lower outer O n x V e.1 s)

-- a segment of the envelope stands in no loop
abbrev pub envelope_spot : ℕ → Spot
envelope_spot r = record { row = r; loop = 0; outer = 0 }

loop_one : (t : Rows) (h n : ℕ) → loop_of 1 t h n ≡ h
loop_one end h n = refl
loop_one (row a lo hi inner after) h n = refl

module _ (m : Meaning) where
  pub step_isa : (n : ℕ) → LoopStep ((interchange (rows_of m), 0) ∷ []) n (envelope_spot 65) ((end, 0) ∷ (row 65 0 0 end (interchange_rows (others_of m)), 0) ∷ [])
  step_isa n = loop_take refl (lit≤ tt)

  pub step_gs : (n : ℕ) → LoopStep ((end, 0) ∷ (row 65 0 0 end (interchange_rows (others_of m)), 0) ∷ []) n (envelope_spot 66) ((group_rows (others_of m), 0) ∷ groups_left m 1)
  step_gs n = loop_leave (loop_skip refl (loop_take refl (lit≤ tt)))

  pub step_st : (n g : ℕ) → LoopStep ((group_rows (others_of m), 0) ∷ groups_left m g) n (envelope_spot 1) ((others_of m, 0) ∷ sets_left m g 1)
  step_st n g =
      let e = loop_one (others_of m) 0 n in
      subst (λ (h : ℕ). LoopStep ((group_rows (others_of m), 0) ∷ groups_left m g) n (record { row = 1; loop = h; outer = 0 }) ((others_of m, h) ∷ sets_left m g 1)) e (loop_take refl (lit≤ tt))

  pub step_st_again : (n g s : ℕ) → s < 256 → LoopStep (sets_left m g s) n (envelope_spot 1) ((others_of m, 0) ∷ sets_left m g (s + 1))
  step_st_again n g s h =
      let e = loop_one (others_of m) 0 n in
      let lo : pred (1 - s) ≡ 1 - (s + 1) = omega arith in
      let hi : pred (256 - s) ≡ 256 - (s + 1) = omega arith in
      let t : LoopStep (sets_left m g s) n (record { row = 1; loop = loop_of 1 (others_of m) 0 n; outer = 0 }) ((others_of m, loop_of 1 (others_of m) 0 n) ∷ (row 1 (pred (1 - s)) (pred (256 - s)) (others_of m) (row 67 1 1 end end), 0) ∷ groups_left m g)
      = loop_take refl (omega arith) in
      subst (λ (z : ℕ × ℕ × ℕ). LoopStep (sets_left m g s) n (record { row = 1; loop = z.0; outer = 0 }) ((others_of m, z.0) ∷ (row 1 z.1 z.2 (others_of m) (row 67 1 1 end end), 0) ∷ groups_left m g)) (λ i. (e i, lo i, hi i)) t

  pub step_ge : (n g s : ℕ) → 1 ≤ s → LoopStep (sets_left m g s) n (envelope_spot 67) ((end, 0) ∷ (row 67 0 0 end end, 0) ∷ groups_left m g)
  step_ge n g s h = loop_skip (omega arith) (loop_take refl (lit≤ tt))

  pub step_gs_again : (n g : ℕ) → g < 99 → LoopStep ((end, 0) ∷ (row 67 0 0 end end, 0) ∷ groups_left m g) n (envelope_spot 66) ((group_rows (others_of m), 0) ∷ groups_left m (g + 1))
  step_gs_again n g h =
      let lo : pred (1 - g) ≡ 1 - (g + 1) = omega arith in
      let hi : pred (99 - g) ≡ 99 - (g + 1) = omega arith in
      let t : LoopStep ((end, 0) ∷ (row 67 0 0 end end, 0) ∷ groups_left m g) n (envelope_spot 66) ((group_rows (others_of m), 0) ∷ (row 66 (pred (1 - g)) (pred (99 - g)) (group_rows (others_of m)) (row 68 1 1 end end), 0) ∷ [])
      = loop_leave (loop_skip refl (loop_leave (loop_take refl (omega arith)))) in
      subst (λ (z : ℕ × ℕ). LoopStep ((end, 0) ∷ (row 67 0 0 end end, 0) ∷ groups_left m g) n (envelope_spot 66) ((group_rows (others_of m), 0) ∷ (row 66 z.0 z.1 (group_rows (others_of m)) (row 68 1 1 end end), 0) ∷ [])) (λ i. (lo i, hi i)) t

  pub step_iea : (n g : ℕ) → 1 ≤ g → LoopStep ((end, 0) ∷ (row 67 0 0 end end, 0) ∷ groups_left m g) n (envelope_spot 68) ((end, 0) ∷ (row 68 0 0 end end, 0) ∷ [])
  step_iea n g h = loop_leave (loop_skip refl (loop_leave (loop_skip (omega arith) (loop_take refl (lit≤ tt)))))

  abbrev Refusing : LoopState → Mark → Type 0
  Refusing S mark = Refuses (RowMatches (label_of m)) (without_loops S) mark

  by_row : (q r : ℕ) (mark : Mark) → q ≡ r → RowMatches (label_of m) q mark → RowMatches (label_of m) r mark
  by_row q r mark e x = subst (λ (k : ℕ). RowMatches (label_of m) k mark) e x

  pub refuse_start : (mark : Mark) → mark.name ≢ codes "ISA" → Refusing ((interchange (rows_of m), 0) ∷ []) mark
  refuse_start mark n q X s r = n (by_row q 65 mark (from_start (others_of m) s).0 r).0

  pub refuse_header : (mark : Mark) → mark.name ≢ codes "GS" → Refusing ((end, 0) ∷ (row 65 0 0 end (interchange_rows (others_of m)), 0) ∷ []) mark
  refuse_header mark n q X s r = n (by_row q 66 mark (from_isa (others_of m) s).0 r).0

  pub refuse_group : (mark : Mark) (g : ℕ) → (RowMatches (label_of m) 1 mark → ⊥) → Refusing ((group_rows (others_of m), 0) ∷ groups_left m g) mark
  refuse_group mark g n q X s r = n (by_row q 1 mark (from_gs (others_of m) s).0 r)

  pub refuse_end : (mark : Mark) → Refusing ((end, 0) ∷ (row 68 0 0 end end, 0) ∷ []) mark
  refuse_end mark q X s r = from_iea (others_of m) s

  -- around a set: ST again, where sets are left, or GE
  pub refuse_sets : (mark : Mark) (g s : ℕ) → ((256 ≤ s) ⊎ (RowMatches (label_of m) 1 mark → ⊥)) → mark.name ≢ codes "GE" → Refusing (sets_left m g s) mark
  refuse_sets mark g s n k q X (take_row e h) r = elim n [ inl f ↦ omega arith | inr f ↦ f (by_row q 1 mark e r) ]
  refuse_sets mark g s n k q X (skip_row z (take_row e h)) r = k (by_row q 67 mark e r).0
  refuse_sets mark g s n k q X (skip_row z (skip_row e t)) r = omega arith

  pub refuse_trailer : (mark : Mark) (g : ℕ) → ((99 ≤ g) ⊎ (mark.name ≢ codes "GS")) → mark.name ≢ codes "IEA" → Refusing ((end, 0) ∷ (row 67 0 0 end end, 0) ∷ groups_left m g) mark
  refuse_trailer mark g n k q X (leave_list (take_row e h)) r = omega arith
  refuse_trailer mark g n k q X (leave_list (skip_row z (leave_list (take_row e h)))) r = elim n [ inl f ↦ omega arith | inr f ↦ f (by_row q 66 mark e r).0 ]
  refuse_trailer mark g n k q X (leave_list (skip_row z (leave_list (skip_row y (take_row e h))))) r = k (by_row q 68 mark e r).0
  refuse_trailer mark g n k q X (leave_list (skip_row z (leave_list (skip_row y (skip_row e t))))) r = omega arith

  -- in a set
  refuse_over : (U O : LoopState) (mark : Mark) → Refuses (RowMatches (label_of m)) (without_loops U) mark → (StateMayEnd (without_loops U) → Refusing O mark) → Refusing (U ++ O) mark
  refuse_over U O mark a b = subst (λ (S : State). Refuses (RowMatches (label_of m)) S mark) (sym (without_append U O)) (refuses_over (RowMatches (label_of m)) (without_loops U) (without_loops O) mark a b)

  module _ (w : Lawful m) where
    small : (q : ℕ) → HasRow (others_of m) q → q ≤ 64
    small q i = let h = (others_within m w q i).1 in let f = w.few_rows in omega arith

    pub row_fits : (q : ℕ) (mark : Mark) → HasRow (others_of m) q → RowMatches (label_of m) q mark → fits_row m q mark.name mark.first ≡ true
    row_fits q mark i r =
        let k = others_known m w q i in
        (fits_decides m q k.0 mark k.1).1 (subst (λ (x : Label). Matches x mark) (label_of_set (label_of m) q (small q i)) r)

    pub fits_row_lem : (q : ℕ) (mark : Mark) → HasRow (others_of m) q → fits_row m q mark.name mark.first ≡ true → RowMatches (label_of m) q mark
    fits_row_lem q mark i r =
        let k = others_known m w q i in
        subst (λ (x : Label). Matches x mark) (sym (label_of_set (label_of m) q (small q i))) ((fits_decides m q k.0 mark k.1).0 r)

    pub st_fits : (mark : Mark) → RowMatches (label_of m) 1 mark → fits_row m 1 mark.name mark.first ≡ true
    st_fits mark r = (fits_decides m 1 w.first_is_st.0 mark w.first_is_st.1).1 r

    pub fits_st : (mark : Mark) → fits_row m 1 mark.name mark.first ≡ true → RowMatches (label_of m) 1 mark
    fits_st mark r = (fits_decides m 1 w.first_is_st.0 mark w.first_is_st.1).0 r

    pub refuse_set : (mark : Mark) (U O : LoopState) (v : List ℕ) → Run (others_of m ∷ []) v (without_loops U) → BeforeLast (size m.tree) (without_loops U) → Refuses (Fits m) (without_loops U) (mark.name, mark.first) → Refusing (U ++ O) mark
    refuse_set mark U O v run b n =
        refuse_over U O mark (λ q X s r. n q X s (row_fits q mark (run_has run s) r)) (λ e. absurd (before_last_not_ended (size m.tree) (without_loops U) b e))

    pub refuse_closed : (mark : Mark) (U : LoopState) (g s : ℕ) → without_loops U ≡ after_last (size m.tree) → ((256 ≤ s) ⊎ (RowMatches (label_of m) 1 mark → ⊥)) → mark.name ≢ codes "GE" → Refusing (U ++ sets_left m g s) mark
    refuse_closed mark U g s e n k =
        refuse_over U (sets_left m g s) mark (λ q X t r. after_last_no_step (size m.tree) (subst (λ (S : State). Step S q X) e t)) (λ z. refuse_sets mark g s n k)
