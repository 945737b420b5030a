-- The two theorems: one derivation or a first mark that does not fit; and the same spots for the same marks.
use Rattle.std.proofs.Common.{◌≡◌, ℕ, ◌⊎◌, List, [], ◌∷◌, ◌++◌, length, take, sym, subst, inl, inr}
use Rattle.grammar.specs.Tree.{Rows}
use Rattle.grammar.specs.Marks.{Mark, Label}
use Rattle.grammar.specs.Derivations.{Spot, RowsMatch}
use Rattle.grammar.specs.Interchange.{interchange, with_envelope, Derivation, Begins}
use Rattle.grammar.specs.Law.{LawfulSet}
use Rattle.grammar.specs.Theorems.{OneDerivation, FirstMisfit, OnlyBegun, OneDerivationOrFirstMisfit, SameMarksSameSpots}
use Rattle.grammar.proofs.States.{State, Run, StateMayEnd, Accepts}
use Rattle.grammar.proofs.Distinct.{DistinctState, tree_distinct}
use Rattle.grammar.proofs.Finishing.{RowsFit}
use Rattle.grammar.proofs.Determined.{BeginsRows, same_marks_same_rows, read_begins, refused_begins_none}
use Rattle.grammar.proofs.LoopStates.{LoopState, LoopRun, loop_stay, loop_move, rows_of, forget_run, same_rows_same_spots}
use Rattle.grammar.proofs.DerivationRuns.{derivation_run}
use Rattle.grammar.proofs.Matching.{matches_decided}
use Rattle.grammar.proofs.Followers.{match_fit, fit_match, derivation_accepts, accepts_derivation}
use Rattle.grammar.proofs.LawfulSets.{RowMatches, lawful_usable, lawful_distinct, lawful_determined}
use Rattle.grammar.proofs.Deciding.{state_may_end_decided, ReadAll, RefusedAt, read_all}

-- the beginning of a run that matches the first marks
pub front_run : (label : ℕ → Label) (marks more : List Mark) {S X : LoopState} {n : ℕ} {w : List Spot} → LoopRun S n w X → RowsMatch label w (marks ++ more) → (S₁ : LoopState) × LoopRun S n (take (length marks) w) S₁ × RowsMatch label (take (length marks) w) marks
front_run label [] more {S = S} r f = (S, loop_stay, tt)
front_run label (mark ∷ marks) more loop_stay f = elim f [ ]
front_run label (mark ∷ marks) more (loop_move s r) f =
    let t = front_run label marks more r f.1 in
    (t.0, loop_move s t.1, (f.0, t.2))

module _ (label : ℕ → Label) (set : Rows) (lawful : LawfulSet label set) where
  pub distinct : DistinctState (interchange set ∷ [])
  distinct = tree_distinct (interchange set) (lawful_distinct label set lawful)

  -- two runs whose rows match the same marks have the same spots
  pub same_runs : {S₁ S₂ : LoopState} (w₁ w₂ : List Spot) (marks : List Mark) → LoopRun ((interchange set, 0) ∷ []) 1 w₁ S₁ → LoopRun ((interchange set, 0) ∷ []) 1 w₂ S₂ → RowsMatch (with_envelope label) w₁ marks → RowsMatch (with_envelope label) w₂ marks → w₁ ≡ w₂
  same_runs w₁ w₂ marks r₁ r₂ f₁ f₂ =
      let t = same_marks_same_rows (RowMatches label) (rows_of w₁) (rows_of w₂) marks distinct (lawful_determined label set lawful) (forget_run r₁) (forget_run r₂) (match_fit (with_envelope label) w₁ marks f₁) (match_fit (with_envelope label) w₂ marks f₂) in
      same_rows_same_spots distinct r₁ r₂ t.0

  pub same_spots : (marks more more' : List Mark) (spots spots' : List Spot) → Derivation label set (marks ++ more) spots → Derivation label set (marks ++ more') spots' → take (length marks) spots ≡ take (length marks) spots'
  same_spots marks more more' spots spots' d d' =
      let r = front_run (with_envelope label) marks more (derivation_run d.0).1 d.1 in
      let r' = front_run (with_envelope label) marks more' (derivation_run d'.0).1 d'.1 in
      same_runs (take (length marks) spots) (take (length marks) spots') marks r.1 r'.1 r.2 r'.2

  -- rows that the interchange accepts and that match the marks are a derivation of them
  accepted_derivation : (w : List ℕ) (marks : List Mark) → Accepts (interchange set ∷ []) w → RowsFit (RowMatches label) w marks → (spots : List Spot) × Derivation label set marks spots
  accepted_derivation w marks a f =
      let t = accepts_derivation (interchange set) 0 1 w a in
      (t.0, (t.1, fit_match (with_envelope label) t.0 marks (subst (λ (z : List ℕ). RowsFit (RowMatches label) z marks) (sym t.2) f)))

  pub rows_begin : (marks : List Mark) → BeginsRows (RowMatches label) (interchange set) marks → Begins label set marks
  rows_begin marks (more, w, f, a) =
      let t = accepted_derivation w (marks ++ more) a f in
      (more, t.0, t.1)

  pub begin_rows : (marks : List Mark) → Begins label set marks → BeginsRows (RowMatches label) (interchange set) marks
  begin_rows marks (more, w, d) = (more, rows_of w, match_fit (with_envelope label) w (marks ++ more) d.1, derivation_accepts (interchange set) 0 1 w d.0)

  -- marks that were all read have one derivation where the state may end, and else only begin one
  pub read_whole : (marks : List Mark) (w : List ℕ) (S : State) → Run (interchange set ∷ []) w S → RowsFit (RowMatches label) w marks → StateMayEnd S → OneDerivation label set marks
  read_whole marks w S r f e =
      let t = accepted_derivation w marks (S, r, e) f in
      (t.0, t.1, λ v d. same_runs v t.0 marks (derivation_run d.0).1 (derivation_run t.1.0).1 d.1 t.1.1)

  pub read_part : (marks : List Mark) (w : List ℕ) (S : State) → Run (interchange set ∷ []) w S → RowsFit (RowMatches label) w marks → (StateMayEnd S → ⊥) → OnlyBegun label set marks
  read_part marks w S r f n = (
    rows_begin marks (read_begins (RowMatches label) (interchange set) (lawful_usable label set lawful) w S marks r f),
    λ v d.
        let a = derivation_accepts (interchange set) 0 1 v d.0 in
        let t = same_marks_same_rows (RowMatches label) (rows_of v) w marks distinct (lawful_determined label set lawful) a.1 r (match_fit (with_envelope label) v marks d.1) f in
        n (subst StateMayEnd t.1 a.2),
  )

  all_read : (marks : List Mark) (w : List ℕ) (S : State) → Run (interchange set ∷ []) w S → RowsFit (RowMatches label) w marks → Dec (StateMayEnd S) → OneDerivation label set marks ⊎ OnlyBegun label set marks
  all_read marks w S r f (yes e) = inl (read_whole marks w S r f e)
  all_read marks w S r f (no n) = inr (read_part marks w S r f n)

  pub judge : (marks : List Mark) → OneDerivation label set marks ⊎ (FirstMisfit label set marks ⊎ OnlyBegun label set marks)
  judge marks = by_reading (read_all (RowMatches label) (λ q m. matches_decided (with_envelope label q) m) marks (interchange set ∷ []))
    where
      by_reading : ReadAll (RowMatches label) (interchange set ∷ []) marks ⊎ RefusedAt (RowMatches label) (interchange set ∷ []) marks → OneDerivation label set marks ⊎ (FirstMisfit label set marks ⊎ OnlyBegun label set marks)
      by_reading (inl (w, S, r, f)) = elim (all_read marks w S r f (state_may_end_decided S)) [ inl t ↦ inl t | inr t ↦ inr (inr t) ]
      by_reading (inr (before, m, behind, e, (w, S, r, f, n))) =
          inr (inl (
            before,
            m,
            behind,
            e,
            rows_begin before (read_begins (RowMatches label) (interchange set) (lawful_usable label set lawful) w S before r f),
            λ b. refused_begins_none (RowMatches label) (interchange set) (lawful_usable label set lawful) distinct (lawful_determined label set lawful) w S before m r f n (begin_rows (before ++ (m ∷ [])) b),
          ))

pub one_derivation_or_first_misfit : OneDerivationOrFirstMisfit
one_derivation_or_first_misfit label set lawful marks = judge label set lawful marks

pub same_marks_same_spots : SameMarksSameSpots
same_marks_same_spots label set lawful marks more more' spots spots' = same_spots label set lawful marks more more' spots spots'
