-- What the theory of derivations gives every lawful guide.
use Rattle.std.specs.Prelude.{◌⊎◌, List}
use Rattle.grammar.specs.Marks.{Mark}
use Rattle.grammar.specs.Law.{LawfulSet}
use Rattle.grammar.specs.Theorems.{OneDerivation, FirstMisfit, OnlyBegun}
use Rattle.guide.specs.Meaning.{Meaning}
use Rattle.guide.specs.Asked.{rows_of, label_of}
use Rattle.guide.specs.Law.{Lawful}

-- Under every lawful guide every list of marks has exactly one derivation, or a first mark that does not fit, or only begins a derivation.
abbrev pub EveryListIsJudged : Type 0
EveryListIsJudged = (m : Meaning) → Lawful m → (marks : List Mark)
    → OneDerivation (label_of m) (rows_of m) marks ⊎ (FirstMisfit (label_of m) (rows_of m) marks ⊎ OnlyBegun (label_of m) (rows_of m) marks)

-- the rows of a lawful guide keep what the theory of derivations asks of a set
abbrev pub LawfulRows : Type 0
LawfulRows = (m : Meaning) → Lawful m → LawfulSet (label_of m) (rows_of m)
