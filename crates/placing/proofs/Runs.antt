-- From runs of states to derivations: what follows of the marks that lead to a state.
use Rattle.std.proofs.Common.{◌≡◌, ℕ, suc, ◌+◌, List, [], ◌∷◌, ◌++◌, length, take, drop, sym, refl, ap, ◌∙◌, subst, append_assoc, arith, take-append-drop}
use Rattle.grammar.specs.Marks.{Mark, Label, Matches}
use Rattle.grammar.specs.Derivations.{Spot, RowsMatch}
use Rattle.grammar.specs.Interchange.{interchange, with_envelope, Begins}
use Rattle.grammar.specs.Law.{LawfulSet}
use Rattle.grammar.proofs.LoopStates.{LoopState, without_loops, LoopStep, LoopRun, loop_move, loop_stay, loop_run_append, forget_run, rows_of as rows_in}
use Rattle.grammar.proofs.Determined.{Refuses, read_begins, refused_begins_none}
use Rattle.grammar.proofs.DerivationRuns.{derivation_run}
use Rattle.grammar.proofs.Followers.{match_fit}
use Rattle.grammar.proofs.LawfulSets.{RowMatches, lawful_usable, lawful_determined}
use Rattle.grammar.proofs.Judging.{front_run, distinct, same_runs, rows_begin, begin_rows}
use Rattle.guide.specs.Meaning.{Meaning}
use Rattle.guide.specs.Asked.{rows_of, label_of}
use Rattle.guide.specs.Law.{Lawful}
use Rattle.guide.proofs.Sets.{lawful_rows}
use Rattle.placing.specs.Placing.{EveryDerivationGives, FitsNowhere}

-- The marks lead to this state: a run of the interchange's rows, which match them one by one, gives them these rows and loops.
abbrev pub LeadsTo : Meaning → List Mark → List Spot → LoopState → Type 0
LeadsTo m marks spots S = LoopRun ((interchange (rows_of m), 0) ∷ []) 1 spots S × RowsMatch (with_envelope (label_of m)) spots marks

-- rows that match marks, one by one
pub match_length : (label : ℕ → Label) (w : List Spot) (ms : List Mark) → RowsMatch label w ms → length w ≡ length ms
match_length label [] [] f = refl
match_length label [] (mk ∷ ms) f = elim f [ ]
match_length label (x ∷ w) [] f = elim f [ ]
match_length label (x ∷ w) (mk ∷ ms) f = ap suc (match_length label w ms f.1)

match_one_more : (label : ℕ → Label) (w : List Spot) (ms : List Mark) (x : Spot) (mk : Mark) → RowsMatch label w ms → Matches (label x.row) mk → RowsMatch label (w ++ (x ∷ [])) (ms ++ (mk ∷ []))
match_one_more label [] [] x mk f g = (g, tt)
match_one_more label [] (y ∷ ms) x mk f g = elim f [ ]
match_one_more label (z ∷ w) [] x mk f g = elim f [ ]
match_one_more label (z ∷ w) (y ∷ ms) x mk f g = (f.0, match_one_more label w ms x mk f.1 g)

module _ (m : Meaning) (w : Lawful m) where
  lawful : LawfulSet (label_of m) (rows_of m)
  lawful = lawful_rows m w

  -- marks that lead to a state begin a derivation
  pub led_begins : (marks : List Mark) (spots : List Spot) (S : LoopState) → LeadsTo m marks spots S → Begins (label_of m) (rows_of m) marks
  led_begins marks spots S run =
      rows_begin (label_of m) (rows_of m) lawful marks
      (read_begins (RowMatches (label_of m)) (interchange (rows_of m)) (lawful_usable (label_of m) (rows_of m) lawful) (rows_in spots) (without_loops S) marks (forget_run run.0)
      (match_fit (with_envelope (label_of m)) spots marks run.1))

  module _ (before : List Mark) (spots : List Spot) (S : LoopState) (run : LeadsTo m before spots S) (n : ℕ) (mk : Mark) where
    -- a mark that every row refuses fits nowhere
    pub refused_nowhere : Refuses (RowMatches (label_of m)) (without_loops S) mk → FitsNowhere m before mk
    refused_nowhere x = (
      led_begins before spots S run,
      λ b. refused_begins_none (RowMatches (label_of m)) (interchange (rows_of m)) (lawful_usable (label_of m) (rows_of m) lawful) (distinct (label_of m) (rows_of m) lawful) (lawful_determined (label_of m) (rows_of m) lawful)
          (rows_in spots) (without_loops S) before mk (forget_run run.0) (match_fit (with_envelope (label_of m)) spots before run.1) x (begin_rows (label_of m) (rows_of m) lawful (before ++ (mk ∷ [])) b),
    )

    -- a step by a row that matches one more mark leads on, and every derivation that begins so makes it
    module _ (x : Spot) (V : LoopState) (e : n ≡ suc (length before)) (r : RowMatches (label_of m) x.row mk) (s : LoopStep S n x V) where
      pub leads_on : LeadsTo m (before ++ (mk ∷ [])) (spots ++ (x ∷ [])) V
      leads_on =
          let l = match_length (with_envelope (label_of m)) spots before run.1 in
          let k : n ≡ 1 + length spots = omega arith in
          let step : LoopStep S (1 + length spots) x V = subst (λ (j : ℕ). LoopStep S j x V) k s in
          (loop_run_append run.0 (loop_move step loop_stay), match_one_more (with_envelope (label_of m)) spots before x mk run.1 r)

      pub all_give : EveryDerivationGives m before mk x
      all_give more others d =
          let ms : List Mark = before ++ (mk ∷ []) in
          let f = front_run (with_envelope (label_of m)) ms more (derivation_run d.0).1 d.1 in
          let same : take (length ms) others ≡ spots ++ (x ∷ []) =
          same_runs (label_of m) (rows_of m) lawful (take (length ms) others) (spots ++ (x ∷ [])) ms f.1 leads_on.0 f.2 leads_on.1 in (
            spots,
            drop (length ms) others,
            sym (take-append-drop (length ms) others) ∙ ap (λ (v : List Spot). v ++ drop (length ms) others) same ∙ append_assoc spots (x ∷ []) (drop (length ms) others),
            match_length (with_envelope (label_of m)) spots before run.1,
          )
