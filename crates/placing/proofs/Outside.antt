-- A segment of the envelope: what each turn leads to, and where there is none.
use Rattle.std.proofs.Common.{◌≡◌, ℕ, ◌+◌, ◌<◌, ◌≤◌, true, false, ◌≢◌, ◌⊎◌, List, [], ◌∷◌, ◌++◌, length, get_or, drop, codes, sym, refl, ap, ◌∙◌, subst, inl, inr, true≢false, append-nil, arith, lit≤}
use Rattle.grammar.specs.Tree.{Rows, end, row, after_first}
use Rattle.grammar.specs.Marks.{Mark}
use Rattle.grammar.proofs.States.{stay}
use Rattle.grammar.proofs.LoopStates.{LoopState, without_loops, LoopStep}
use Rattle.grammar.proofs.FlatTable.{flatten}
use Rattle.grammar.proofs.Determined.{Refuses}
use Rattle.grammar.proofs.LastRow.{after_last_ended}
use Rattle.grammar.proofs.States.{StateMayEnd}
use Rattle.grammar.proofs.LawfulSets.{RowMatches}
use Rattle.guide.specs.Meaning.{Meaning, size}
use Rattle.guide.specs.Asked.{rows_of, label_of, fits_row}
use Rattle.guide.specs.Law.{Lawful}
use Rattle.guide.proofs.Sets.{lawful_rows}
use Rattle.placing.specs.declared.phase.Phase.{Phase}
use Rattle.placing.specs.declared.phase.Phase.TheVariants.{Start, Header, Group, Set, Closed, Trailer, End}
use Rattle.placing.specs.declared.turn.Turn.TheVariants.{Isa, FirstGs, NextGs, FirstSt, NextSt, Ge, Iea, Nowhere}
use Rattle.placing.specs.declared.sets.UsedRow.{UsedRow as CodeRow}
use Rattle.placing.specs.Stages.{others_of, sets_left, SetStands, StandsAt}
use Rattle.placing.proofs.Ends.{set_ends}
use Rattle.placing.proofs.Turns.{NoTurn, Told}
use Rattle.placing.proofs.Phases.{envelope_spot, loop_lower, step_isa, step_gs, step_gs_again, step_st, step_st_again, step_ge, step_iea, refuse_start, refuse_header, refuse_group, refuse_trailer, refuse_end, refuse_closed, st_fits, fits_st}

-- behind ST the set stands at its second row, with no row in use
drop_first : (rows : Rows) → rows ≡ row 1 1 1 end (after_first rows) → drop 1 (flatten 0 rows) ≡ flatten 0 (after_first rows) ++ []
drop_first rows e = ap (λ (r : Rows). drop 1 (flatten 0 r)) e ∙ sym (append-nil (flatten 0 (after_first rows)))

pub set_begins : (m : Meaning) → Lawful m → (us : List CodeRow) → SetStands m 1 us 0 ((others_of m, 0) ∷ [])
set_begins m w us =
    let e = (lawful_rows m w).first in
    ((((drop_first (rows_of m) e, tt), tt), (λ k h. absurd (omega arith))), (refl, tt), ([], stay), set_ends m w e)

module _ (m : Meaning) (w : Lawful m) (mk : Mark) (n : ℕ) (p : Phase) (g s place : ℕ) (us : List CodeRow) (depth : ℕ) (S : LoopState) where
  abbrev pub Now : Type 0
  Now = StandsAt m p g s place us depth S

  -- the row takes the segment, and the state is then this
  abbrev pub Leads : ℕ → Phase → ℕ → ℕ → ℕ → List CodeRow → ℕ → Type 0
  Leads r p' g' s' place' us' depth' = RowMatches (label_of m) r mk × ((V : LoopState) × LoopStep S n (envelope_spot r) V × StandsAt m p' g' s' place' us' depth' V)

  abbrev pub RefusedHere : Type 0
  RefusedHere = Refuses (RowMatches (label_of m)) (without_loops S) mk

  at : (q : Phase) → p ≡ q → Now → StandsAt m q g s place us depth S
  at q e t = subst (λ (k : Phase). StandsAt m k g s place us depth S) e t

  from_state : (T : LoopState) → S ≡ T → (r : ℕ) (V : LoopState) → LoopStep T n (envelope_spot r) V → LoopStep S n (envelope_spot r) V
  from_state T e r V l = subst (λ (X : LoopState). LoopStep X n (envelope_spot r) V) (sym e) l

  refused_from : (T : LoopState) → S ≡ T → Refuses (RowMatches (label_of m)) (without_loops T) mk → RefusedHere
  refused_from T e x = subst (λ (X : LoopState). Refuses (RowMatches (label_of m)) (without_loops X) mk) (sym e) x

  pub isa : Told p mk.name Isa → Now → Leads 65 Header g s place us depth
  isa (e, name) t = ((name, tt), (_, from_state _ (at Start e t) 65 _ (step_isa m n), refl))

  pub first_gs : Told p mk.name FirstGs → Now → Leads 66 Group 1 s place us depth
  first_gs (e, name) t = ((name, tt), (_, from_state _ (at Header e t) 66 _ (step_gs m n), (lit≤ tt, refl)))

  pub next_gs : Told p mk.name NextGs → g < 99 → Now → Leads 66 Group (g + 1) s place us depth
  next_gs (e, name) h t = let k = at Trailer e t in ((name, tt), (_, from_state _ k.1 66 _ (step_gs_again m n g h), (omega arith, refl)))

  pub no_next_gs : Told p mk.name NextGs → 99 ≤ g → Now → RefusedHere
  no_next_gs (e, name) h t = refused_from _ (at Trailer e t).1 (refuse_trailer m mk g (inl h) (λ x. let y : codes "GS" ≡ codes "IEA" = sym name ∙ x in let z : ◌≡◌ {A = ℕ} 2 3 = ap length y in omega arith))

  pub ge : Told p mk.name Ge → Now → Leads 67 Trailer g s place us depth
  ge (e, name) t =
      let k = at Closed e t in
      let U = k.2.0 in
      ((name, tt), (_, from_state _ k.2.1 67 _ (loop_lower U (sets_left m g s) n (envelope_spot 67) _ (subst StateMayEnd (sym k.2.2) (after_last_ended (size m.tree))) (step_ge m n g s k.1)), (k.0, refl)))

  pub iea : Told p mk.name Iea → Now → Leads 68 End g s place us depth
  iea (e, name) t = let k = at Trailer e t in ((name, tt), (_, from_state _ k.1 68 _ (step_iea m n g k.0), refl))

  pub first_st : Told p mk.name FirstSt → fits_row m 1 mk.name mk.first ≡ true → Now → (vs : List CodeRow) → Leads 1 Set g 1 1 vs 0
  first_st (e, name) f t vs =
      let k = at Group e t in
      (fits_st m w mk f, (_, from_state _ k.1 1 _ (step_st m n g), (k.0, lit≤ tt, ((others_of m, 0) ∷ [], refl, set_begins m w vs))))

  pub no_first_st : Told p mk.name FirstSt → fits_row m 1 mk.name mk.first ≡ false → Now → RefusedHere
  no_first_st (e, name) f t = refused_from _ (at Group e t).1 (refuse_group m mk g (λ x. true≢false (sym (st_fits m w mk x) ∙ f)))

  pub next_st : Told p mk.name NextSt → s < 256 → fits_row m 1 mk.name mk.first ≡ true → Now → (vs : List CodeRow) → Leads 1 Set g (s + 1) 1 vs 0
  next_st (e, name) h f t vs =
      let k = at Closed e t in
      let U = k.2.0 in (
        fits_st m w mk f,
        (
          _,
          from_state _ k.2.1 1 _ (loop_lower U (sets_left m g s) n (envelope_spot 1) _ (subst StateMayEnd (sym k.2.2) (after_last_ended (size m.tree))) (step_st_again m n g s h)),
          (k.0, omega arith, ((others_of m, 0) ∷ [], refl, set_begins m w vs)),
        ),
      )

  pub no_next_st : Told p mk.name NextSt → ((256 ≤ s) ⊎ (fits_row m 1 mk.name mk.first ≡ false)) → Now → RefusedHere
  no_next_st (e, name) h t =
      let k = at Closed e t in
      refused_from _ k.2.1 (refuse_closed m w mk k.2.0 g s k.2.2 (elim h [ inl l ↦ inl l | inr f ↦ inr (λ x. true≢false (sym (st_fits m w mk x) ∙ f)) ])
      (λ x. let y : codes "ST" ≡ codes "GE" = sym name ∙ x in let z : ◌≡◌ {A = ℕ} 83 71 = ap (λ (v : List ℕ). get_or v 0 0) y in omega arith))

  pub nowhere : Told p mk.name Nowhere → Now → RefusedHere
  nowhere x t = go p x t
    where
      not_st : mk.name ≢ codes "ST" → RowMatches (label_of m) 1 mk → ⊥
      not_st h r = h (r.0 ∙ (lawful_rows m w).first_is_st)

      go : (q : Phase) → NoTurn q mk.name → StandsAt m q g s place us depth S → RefusedHere
      go Start h k = refused_from _ k (refuse_start m mk h)
      go Header h k = refused_from _ k (refuse_header m mk h)
      go Group h k = refused_from _ k.1 (refuse_group m mk g (not_st h))
      go Set h k = absurd h
      go Closed h k = refused_from _ k.2.1 (refuse_closed m w mk k.2.0 g s k.2.2 (inr (not_st h.0)) h.1)
      go Trailer h k = refused_from _ k.1 (refuse_trailer m mk g (inr h.0) h.1)
      go End h k = refused_from _ k (refuse_end m mk)
