-- From steps of states to derivations: the promise of placing.
use Rattle.std.proofs.Common.{◌≡◌, ℕ, suc, List, [], ◌∷◌, ◌++◌, length}
use Rattle.grammar.specs.Marks.{Mark}
use Rattle.grammar.specs.Derivations.{Spot}
use Rattle.grammar.specs.Interchange.{Begins}
use Rattle.grammar.proofs.LoopStates.{LoopState, without_loops, LoopStep}
use Rattle.grammar.proofs.Determined.{Refuses}
use Rattle.grammar.proofs.LawfulSets.{RowMatches}
use Rattle.guide.specs.Meaning.{Meaning}
use Rattle.guide.specs.Asked.{rows_of, label_of}
use Rattle.guide.specs.Law.{Lawful}
use Rattle.placing.specs.declared.placer.Placer.{Placer}
use Rattle.placing.specs.Stages.{PlacerStands}
use Rattle.placing.specs.Placing.{HasPlaced, EveryDerivationGives, FitsNowhere}
use Rattle.placing.proofs.Runs.{LeadsTo, led_begins, refused_nowhere, leads_on, all_give}

module _ (m : Meaning) (w : Lawful m) (p : Placer) (n : ℕ) (mk : Mark) (before : List Mark) (old : HasPlaced m p before) where
  led : LeadsTo m before old.0 old.1
  led = (old.2, old.3)

  pub no_place : Refuses (RowMatches (label_of m)) (without_loops old.1) mk → FitsNowhere m before mk
  no_place x = refused_nowhere m w before old.0 old.1 led n mk x

  pub one_more : (p' : Placer) (x : Spot) (V : LoopState) → n ≡ suc (length before) → RowMatches (label_of m) x.row mk → LoopStep old.1 n x V → PlacerStands m p' V → HasPlaced m p' (before ++ (mk ∷ []))
  one_more p' x V e r s st =
      let new = leads_on m w before old.0 old.1 led n mk x V e r s in
      (old.0 ++ (x ∷ []), V, new.0, new.1, st)

  pub begins_now : (p' : Placer) → HasPlaced m p' (before ++ (mk ∷ [])) → Begins (label_of m) (rows_of m) (before ++ (mk ∷ []))
  begins_now p' new = led_begins m w (before ++ (mk ∷ [])) new.0 new.1 (new.2, new.3)

  pub gives : (x : Spot) (V : LoopState) → n ≡ suc (length before) → RowMatches (label_of m) x.row mk → LoopStep old.1 n x V → EveryDerivationGives m before mk x
  gives x V e r s = all_give m w before old.0 old.1 led n mk x V e r s
