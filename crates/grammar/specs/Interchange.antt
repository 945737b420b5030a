-- The derivations of a whole interchange: ISA, the groups with their sets, and IEA.
use Rattle.std.specs.Prelude.{ℕ, cond, List, [], ◌++◌, codes, ◌==◌}
use Rattle.grammar.specs.Tree.{Rows, end, row, after_first}
use Rattle.grammar.specs.Marks.{Mark, Label}
use Rattle.grammar.specs.Derivations.{Spot, DerivationBy}

-- The rows of a group after GS: 1 to 256 sets, each of them ST (1) and then the other rows of the set, and GE (67).
abbrev pub group_rows : Rows → Rows
group_rows others = row 1 1 256 others (row 67 1 1 end end)

-- The rows of an interchange, by the rows of a set, of which ST is the first: ISA (65); 1 to 99 groups, each of them GS (66) and then its rows; IEA (68).
abbrev pub interchange : Rows → Rows
interchange set = row 65 1 1 end (row 66 1 99 (group_rows (after_first set)) (row 68 1 1 end end))

-- The label of a row that matches every mark of the name.
abbrev pub by_name : List ℕ → Label
by_name name = record { name = name; codes = [] }

-- The labels of an interchange's rows: those of the set, and those of the envelope, which match by name.
abbrev pub with_envelope : (ℕ → Label) → ℕ → Label
with_envelope label number =
    cond (number == 65) (by_name (codes "ISA"))
    (cond (number == 66) (by_name (codes "GS"))
    (cond (number == 67) (by_name (codes "GE"))
    (cond (number == 68) (by_name (codes "IEA"))
    (label number))))

-- A derivation of an interchange that has these marks.
abbrev pub Derivation : (ℕ → Label) → Rows → List Mark → List Spot → Type 0
Derivation label set marks spots = DerivationBy (with_envelope label) (interchange set) marks spots

-- Marks begin a derivation if a list of any length that starts with them has one.
abbrev pub Begins : (ℕ → Label) → Rows → List Mark → Type 0
Begins label set marks = (more : List Mark) × (spots : List Spot) × Derivation label set (marks ++ more) spots
