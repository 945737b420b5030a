-- What the steps of a state of placing come to, by what its helpers gave.
use Rattle.std.proofs.Common.{◌≡◌, ℕ, true, false, List, Some, None, Option, sym, subst, MatchOption}
use Rattle.grammar.specs.Marks.{Mark}
use Rattle.grammar.proofs.LoopStates.{LoopState, without_loops, LoopStep}
use Rattle.grammar.proofs.LawfulSets.{RowMatches}
use Rattle.grammar.proofs.Determined.{Refuses}
use Rattle.guide.specs.Meaning.{Meaning}
use Rattle.guide.specs.Asked.{label_of, fits_row}
use Rattle.placing.specs.declared.phase.Phase.{Phase}
use Rattle.placing.specs.declared.phase.Phase.TheVariants.{Set}
use Rattle.placing.specs.declared.placer.Placed.{Placed}
use Rattle.placing.specs.declared.placer.Placer.{Placer}
use Rattle.placing.specs.declared.placer.Step.{Step}
use Rattle.placing.specs.declared.sets.UsedRow.{UsedRow as CodeRow}
use Rattle.placing.specs.Stages.{StandsAt, PlacerStands, spot_for, Steps, SetBegins}
use Rattle.placing.proofs.Phases.{envelope_spot}

module _ (m : Meaning) (p : Placer) (n : ℕ) (mk : Mark) where
  abbrev Leading : LoopState → Step → Type 0
  Leading S step = RowMatches (label_of m) step.placed.row mk × ((V : LoopState) × LoopStep S n (spot_for step.placed) V × PlacerStands m step.placer V)

  pub passed : (r : Option Step) (step : Step) → r ≡ Some step → ((S : LoopState) → PlacerStands m p S → Leading S step) → Steps m p n mk r
  passed r step e f = subst (Steps m p n mk) (sym e) f

  -- a set that begins, or the segment is refused
  pub begun : (r : Option Step) (g s : ℕ) → MatchOption r (fits_row m 1 mk.name mk.first ≡ false) (λ step. (fits_row m 1 mk.name mk.first ≡ true) × SetBegins g s step)
      → (fits_row m 1 mk.name mk.first ≡ false → (S : LoopState) → PlacerStands m p S → Refuses (RowMatches (label_of m)) (without_loops S) mk)
      → (fits_row m 1 mk.name mk.first ≡ true → (S : LoopState) → PlacerStands m p S → (vs : List CodeRow)
      → RowMatches (label_of m) 1 mk × ((V : LoopState) × LoopStep S n (envelope_spot 1) V × StandsAt m Set g s 1 vs 0 V))
      → Steps m p n mk r
  begun None g s c refused leads = refused c
  begun (Some step) g s c refused leads = λ S t.
      let b = c.1 in
      subst (λ (z : Placed × Phase × ℕ × ℕ × ℕ × ℕ). RowMatches (label_of m) z.0.row mk × ((V : LoopState) × LoopStep S n (spot_for z.0) V × StandsAt m z.1 z.2 z.3 z.4 step.placer.set.used z.5 V))
      (λ i. (sym b.placed i, sym b.phase i, sym b.groups_kept i, sym b.sets_now i, sym b.behind_st i, sym b.none_in_use i)) (leads c.0 S t step.placer.set.used)
