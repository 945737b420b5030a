-- What placing promises, by the derivations of an interchange.
use Rattle.std.specs.Prelude.{◌≡◌, ℕ, suc, Bool, List, [], ◌∷◌, ◌++◌, length, MatchBool, Option, MatchOption}
use Rattle.grammar.specs.Marks.{Mark}
use Rattle.grammar.specs.Derivations.{Spot, RowsMatch}
use Rattle.grammar.specs.Interchange.{interchange, with_envelope, Derivation, Begins}
use Rattle.grammar.specs.Theorems.{OneDerivation, OnlyBegun}
use Rattle.grammar.proofs.LoopStates.{LoopState, LoopRun}
use Rattle.guide.specs.Meaning.{Meaning}
use Rattle.guide.specs.Asked.{rows_of, label_of}
use Rattle.guide.specs.Law.{Lawful}
use Rattle.placing.specs.declared.placer.Placed.{Placed}
use Rattle.placing.specs.declared.placer.Placer.{Placer}
use Rattle.placing.specs.Stages.{PlacerStands, spot_for}

-- The placer has placed these marks under a guide with this meaning: it stands where a run of the interchange's rows that match them leads.
abbrev pub HasPlaced : Meaning → Placer → List Mark → Type 0
HasPlaced m p marks =
    (spots : List Spot) × (S : LoopState)
    × LoopRun ((interchange (rows_of m), 0) ∷ []) 1 spots S
    × RowsMatch (with_envelope (label_of m)) spots marks
    × PlacerStands m p S

-- Every derivation that begins with the marks gives the last of them this spot: there are as many spots before it as marks before that one.
abbrev pub EveryDerivationGives : Meaning → List Mark → Mark → Spot → Type 0
EveryDerivationGives m before mark spot =
    (more : List Mark) (spots : List Spot) → Derivation (label_of m) (rows_of m) ((before ++ (mark ∷ [])) ++ more) spots
    → (front behind : List Spot) × (spots ≡ front ++ (spot ∷ behind)) × (length front ≡ length before)

-- The marks begin a derivation, and with one more mark they begin none.
abbrev pub FitsNowhere : Meaning → List Mark → Mark → Type 0
FitsNowhere m before mark = Begins (label_of m) (rows_of m) before × (Begins (label_of m) (rows_of m) (before ++ (mark ∷ [])) → ⊥)

-- The next segment is placed: with its mark the marks begin a derivation, and every one that begins so gives it that row and those loops.
-- Or it has no place: the marks before it begin a derivation, and with it they begin none; then the placer stays as it was.
abbrev pub PlacesNext : Meaning → Placer → Placer → ℕ → Mark → Option Placed → Type 0
PlacesNext m p p' n mark r =
    (before : List Mark) → HasPlaced m p before → n ≡ suc (length before)
    → MatchOption r
    (FitsNowhere m before mark × (p' ≡ p))
    (λ placed. Begins (label_of m) (rows_of m) (before ++ (mark ∷ [])) × EveryDerivationGives m before mark (spot_for placed) × HasPlaced m p' (before ++ (mark ∷ [])))

-- Whether the marks are whole: they have exactly one derivation; else they only begin one.
abbrev pub TellsWhole : Placer → Bool → Type 0
TellsWhole p r =
    (m : Meaning) → Lawful m → (marks : List Mark) → HasPlaced m p marks
    → MatchBool r (OneDerivation (label_of m) (rows_of m) marks) (OnlyBegun (label_of m) (rows_of m) marks)
