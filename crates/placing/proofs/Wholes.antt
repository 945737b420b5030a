-- The marks are whole exactly where the placer stands behind IEA.
use Rattle.std.proofs.Common.{◌≡◌, ℕ, List, [], ◌∷◌, ◌++◌, sym, refl, subst, arith}
use Rattle.grammar.specs.Marks.{Mark}
use Rattle.grammar.specs.Interchange.{with_envelope}
use Rattle.grammar.specs.Theorems.{OneDerivation, OnlyBegun}
use Rattle.grammar.proofs.States.{State, StateMayEnd}
use Rattle.grammar.proofs.LoopStates.{LoopState, without_loops, forget_run, rows_of as rows_in}
use Rattle.grammar.proofs.Followers.{match_fit}
use Rattle.grammar.proofs.LastRow.{before_last_not_ended}
use Rattle.grammar.proofs.Judging.{read_whole, read_part}
use Rattle.guide.specs.Meaning.{Meaning, size}
use Rattle.guide.specs.Asked.{rows_of, label_of}
use Rattle.guide.specs.Law.{Lawful}
use Rattle.guide.proofs.Sets.{lawful_rows}
use Rattle.placing.specs.declared.phase.Phase.{Phase}
use Rattle.placing.specs.declared.phase.Phase.TheVariants.{Start, Header, Group, Set, Closed, Trailer, End}
use Rattle.placing.specs.declared.placer.Placer.{Placer}
use Rattle.placing.specs.declared.sets.UsedRow.{UsedRow as CodeRow}
use Rattle.placing.specs.Stages.{sets_left, StandsAt}
use Rattle.placing.specs.Placing.{HasPlaced}
use Rattle.placing.proofs.Phases.{without_append}

upper_ends : (A B : State) → StateMayEnd (A ++ B) → StateMayEnd A
upper_ends [] B e = tt
upper_ends (rows ∷ A) B e = (e.0, upper_ends A B e.1)

lower_ends : (A B : State) → StateMayEnd (A ++ B) → StateMayEnd B
lower_ends [] B e = e
lower_ends (rows ∷ A) B e = lower_ends A B e.1

module _ (m : Meaning) (g s place : ℕ) (us : List CodeRow) (depth : ℕ) (S : LoopState) where
  ends_as : (T : LoopState) → S ≡ T → StateMayEnd (without_loops S) → StateMayEnd (without_loops T)
  ends_as T e x = subst (λ (X : LoopState). StateMayEnd (without_loops X)) e x

  split : (U : LoopState) → S ≡ U ++ sets_left m g s → StateMayEnd (without_loops S) → StateMayEnd (without_loops U ++ without_loops (sets_left m g s))
  split U e x = subst StateMayEnd (without_append U (sets_left m g s)) (ends_as (U ++ sets_left m g s) e x)

  pub ended : StandsAt m End g s place us depth S → StateMayEnd (without_loops S)
  ended e = subst (λ (X : LoopState). StateMayEnd (without_loops X)) (sym e) (tt, ((refl, tt), tt))

  pub not_ended : (p : Phase) → (p ≡ End → ⊥) → StandsAt m p g s place us depth S → StateMayEnd (without_loops S) → ⊥
  not_ended Start h e x = let z : ◌≡◌ {A = ℕ} 1 0 = (ends_as _ e x).0.0 in omega arith
  not_ended Header h e x = let z : ◌≡◌ {A = ℕ} 1 0 = (ends_as _ e x).1.0.1.0 in omega arith
  not_ended Group h e x = let z : ◌≡◌ {A = ℕ} 1 0 = (ends_as _ e.1 x).0.0 in omega arith
  not_ended Set h e x = before_last_not_ended (size m.tree) (without_loops e.2.0) e.2.2.3 (upper_ends (without_loops e.2.0) (without_loops (sets_left m g s)) (split e.2.0 e.2.1 x))
  not_ended Closed h e x =
      let y = lower_ends (without_loops e.2.0) (without_loops (sets_left m g s)) (split e.2.0 e.2.1 x) in
      let z : ◌≡◌ {A = ℕ} 1 0 = y.0.1.0 in
      omega arith
  not_ended Trailer h e x = let z : ◌≡◌ {A = ℕ} 1 0 = (ends_as _ e.1 x).1.1.0.1.0 in omega arith
  not_ended End h e x = h refl

module _ (m : Meaning) (w : Lawful m) (p : Placer) (marks : List Mark) (old : HasPlaced m p marks) where
  pub whole : p.phase ≡ End → OneDerivation (label_of m) (rows_of m) marks
  whole e =
      read_whole (label_of m) (rows_of m) (lawful_rows m w) marks (rows_in old.0) (without_loops old.1) (forget_run old.2) (match_fit (with_envelope (label_of m)) old.0 marks old.3)
      (ended m p.groups p.sets p.set.place p.set.used p.set.depth old.1 (subst (λ (k : Phase). StandsAt m k p.groups p.sets p.set.place p.set.used p.set.depth old.1) e old.4))

  pub part : (p.phase ≡ End → ⊥) → OnlyBegun (label_of m) (rows_of m) marks
  part h =
      read_part (label_of m) (rows_of m) (lawful_rows m w) marks (rows_in old.0) (without_loops old.1) (forget_run old.2) (match_fit (with_envelope (label_of m)) old.0 marks old.3)
      (not_ended m p.groups p.sets p.set.place p.set.used p.set.depth old.1 p.phase h old.4)
