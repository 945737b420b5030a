-- What is proved of every lawful set: how marks determine the derivations of an interchange.
use Rattle.std.specs.Prelude.{◌≡◌, ℕ, ◌⊎◌, List, [], ◌∷◌, ◌++◌, length, take}
use Rattle.grammar.specs.Tree.{Rows}
use Rattle.grammar.specs.Marks.{Mark, Label}
use Rattle.grammar.specs.Derivations.{Spot}
use Rattle.grammar.specs.Interchange.{Derivation, Begins}
use Rattle.grammar.specs.Law.{LawfulSet}

-- The marks have a derivation, and every derivation of them is that one.
abbrev pub OneDerivation : (ℕ → Label) → Rows → List Mark → Type 0
OneDerivation label set marks =
    (spots : List Spot)
    × Derivation label set marks spots
    × ((others : List Spot) → Derivation label set marks others → others ≡ spots)

-- There is a first mark that does not fit: the marks before it begin a derivation, and with it they begin none.
abbrev pub FirstMisfit : (ℕ → Label) → Rows → List Mark → Type 0
FirstMisfit label set marks =
    (before : List Mark) × (mark : Mark) × (behind : List Mark)
    × (marks ≡ before ++ (mark ∷ behind))
    × Begins label set before
    × (Begins label set (before ++ (mark ∷ [])) → ⊥)

-- The marks begin a derivation, and have none themselves.
abbrev pub OnlyBegun : (ℕ → Label) → Rows → List Mark → Type 0
OnlyBegun label set marks = Begins label set marks × ((spots : List Spot) → Derivation label set marks spots → ⊥)

-- Every list of marks has exactly one derivation, or a first mark that does not fit, or only begins a derivation.
abbrev pub OneDerivationOrFirstMisfit : Type 0
OneDerivationOrFirstMisfit =
    (label : ℕ → Label) (set : Rows) → LawfulSet label set → (marks : List Mark)
    → OneDerivation label set marks ⊎ (FirstMisfit label set marks ⊎ OnlyBegun label set marks)

-- Where marks begin a derivation, every derivation that begins with them gives their segments the same rows and loops.
abbrev pub SameMarksSameSpots : Type 0
SameMarksSameSpots =
    (label : ℕ → Label) (set : Rows) → LawfulSet label set
    → (marks more more' : List Mark) (spots spots' : List Spot)
    → Derivation label set (marks ++ more) spots
    → Derivation label set (marks ++ more') spots'
    → take (length marks) spots ≡ take (length marks) spots'
