-- How the state of placing stands for a state of the theory, and for the marks that were read.
use Rattle.std.specs.Prelude.{◌≡◌, ℕ, ◌-◌, ◌≤◌, List, [], ◌∷◌, ◌++◌, Option, MatchOption}
use Rattle.grammar.specs.Tree.{Rows, end, row, after_first}
use Rattle.grammar.specs.Marks.{Mark}
use Rattle.grammar.specs.Derivations.{Spot}
use Rattle.grammar.specs.Interchange.{group_rows, interchange}
use Rattle.grammar.proofs.States.{Run}
use Rattle.grammar.proofs.LoopStates.{LoopState, without_loops, LoopStep}
use Rattle.grammar.proofs.Envelope.{interchange_rows}
use Rattle.grammar.proofs.LastRow.{BeforeLast, after_last}
use Rattle.guide.specs.declared.rules.Mark.{Mark as MarkValue}
use Rattle.guide.specs.Meaning.{Meaning, size}
use Rattle.guide.specs.Asked.{rows_of, label_of}
use Rattle.grammar.proofs.Determined.{Refuses}
use Rattle.grammar.proofs.LawfulSets.{RowMatches}
use Rattle.placing.specs.declared.placer.Placed.{Placed}
use Rattle.placing.specs.declared.placer.Placer.{Placer}
use Rattle.placing.specs.declared.placer.Step.{Step}
use Rattle.placing.specs.declared.phase.Phase.{Phase}
use Rattle.placing.specs.declared.phase.Phase.TheVariants.{Start, Header, Group, Set, Closed, Trailer, End}
use Rattle.placing.specs.declared.sets.UsedRow.{UsedRow as CodeRow}
use Rattle.placing.specs.Model.{Stands, LoopsAre}

-- the rows of a set behind ST
abbrev pub others_of : Meaning → Rows
others_of m = after_first (rows_of m)

-- after g groups: GS may be used again, up to 99 times, and IEA follows
abbrev pub groups_left : Meaning → ℕ → LoopState
groups_left m g = (row 66 (1 - g) (99 - g) (group_rows (others_of m)) (row 68 1 1 end end), 0) ∷ []

-- after s sets of a group: ST may be used again, up to 256 times, and GE follows
abbrev pub sets_left : Meaning → ℕ → ℕ → LoopState
sets_left m g s = (row 1 (1 - s) (256 - s) (others_of m) (row 67 1 1 end end), 0) ∷ groups_left m g

-- the state of a set stands for the lists of its rows
abbrev pub SetStands : Meaning → ℕ → List CodeRow → ℕ → LoopState → Type 0
SetStands m place us depth U =
    Stands m place us depth (without_loops U) × LoopsAre us U × ((w : List ℕ) × Run (others_of m ∷ []) w (without_loops U)) × BeforeLast (size m.tree) (without_loops U)

-- the state of placing stands for a state of the theory
abbrev pub StandsAt : Meaning → Phase → ℕ → ℕ → ℕ → List CodeRow → ℕ → LoopState → Type 0
StandsAt m Start g s place us depth S = S ≡ (interchange (rows_of m), 0) ∷ []
StandsAt m Header g s place us depth S = S ≡ (end, 0) ∷ (row 65 0 0 end (interchange_rows (others_of m)), 0) ∷ []
StandsAt m Group g s place us depth S = (1 ≤ g) × (S ≡ (group_rows (others_of m), 0) ∷ groups_left m g)
StandsAt m Set g s place us depth S = (1 ≤ g) × (1 ≤ s) × ((U : LoopState) × (S ≡ U ++ sets_left m g s) × SetStands m place us depth U)
StandsAt m Closed g s place us depth S = (1 ≤ g) × (1 ≤ s) × ((U : LoopState) × (S ≡ U ++ sets_left m g s) × (without_loops U ≡ after_last (size m.tree)))
StandsAt m Trailer g s place us depth S = (1 ≤ g) × (S ≡ (end, 0) ∷ (row 67 0 0 end end, 0) ∷ groups_left m g)
StandsAt m End g s place us depth S = S ≡ (end, 0) ∷ (row 68 0 0 end end, 0) ∷ []

-- a segment's mark, by its name and its first element
abbrev pub mark : List ℕ → List ℕ → Mark
mark name first = record { name = name; first = first }

-- a mark of the program
abbrev pub marked : MarkValue → Mark
marked k = mark k.name.now k.first.now

abbrev pub PlacerStands : Meaning → Placer → LoopState → Type 0
PlacerStands m p S = StandsAt m p.phase p.groups p.sets p.set.place p.set.used p.set.depth S

-- what a segment is given, as a derivation gives it
abbrev pub spot_for : Placed → Spot
spot_for p = record { row = p.row; loop = p.around; outer = p.outer }

-- the segment with this number and this mark has a step, or every row refuses it
abbrev pub Steps : Meaning → Placer → ℕ → Mark → Option Step → Type 0
Steps m p n mk r = (S : LoopState) → PlacerStands m p S
    → MatchOption r (Refuses (RowMatches (label_of m)) (without_loops S) mk)
    (λ step. RowMatches (label_of m) step.placed.row mk × ((V : LoopState) × LoopStep S n (spot_for step.placed) V × PlacerStands m step.placer V))

-- ST begins the given set of its group: the set stands behind ST, with no row in use
pub record SetBegins (groups sets : ℕ) (step : Step) : Type 0 where
  pub placed : step.placed ≡ record { row = 1; around = 0; outer = 0 }
  pub phase : step.placer.phase ≡ Set
  pub groups_kept : step.placer.groups ≡ groups
  pub sets_now : step.placer.sets ≡ sets
  pub behind_st : step.placer.set.place ≡ 1
  pub none_in_use : step.placer.set.depth ≡ 0
