-- Derivations by a tree of rows: each gives every segment its row, its innermost loop and the loop around it.
use Rattle.std.specs.Prelude.{◌≡◌, ℕ, zero, suc, ◌+◌, ◌≤◌, Bool, false, cond, ◌&&◌, List, [], ◌∷◌, ◌++◌, length, nat_lt}
use Rattle.grammar.specs.Tree.{Rows, end, row}
use Rattle.grammar.specs.Marks.{Mark, Label, Matches}

-- What a derivation gives a segment: its row, its innermost loop, and the loop that its row stands in.
-- A loop is named by the place of the segment that opens it, and 0 stands for no loop. The loop of a segment that opens one is its own, and `outer`
-- is then the loop around that loop; for any other segment `loop` and `outer` are the same.
pub record Spot : Type 0 where
  pub row : ℕ
  pub loop : ℕ
  pub outer : ℕ

-- A row that has inner rows opens a loop, unless it is of the envelope: GS (66) has the sets of its group inside, and ST (1) the other rows of its set.
abbrev pub opens_loop : ℕ → Rows → Bool
opens_loop number end = false
opens_loop number (row first least greatest inner after) = nat_lt 1 number && nat_lt number 65

-- The innermost loop of a segment at this place, by its row's number and inner rows and the loop `around` the row: its own if the row opens one.
abbrev pub loop_of : ℕ → Rows → ℕ → ℕ → ℕ
loop_of number inner around place = cond (opens_loop number inner) place around

-- What such a segment is given.
abbrev pub spot_of : ℕ → Rows → ℕ → ℕ → Spot
spot_of number inner around place = record { row = number; loop = loop_of number inner around place; outer = around }

mutual
  -- `InOrder rows around place spots`: the segments from this place on use the rows in order, each row between its least and its greatest use.
  -- The rows stand in the loop `around`.
  pub data InOrder : Rows → ℕ → ℕ → List Spot → Type 0 where
    no_row : {around place : ℕ} → InOrder end around place []
    next_row : {number least greatest around place times : ℕ} {inner after : Rows} {used others : List Spot}
        → least ≤ times
        → times ≤ greatest
        → Uses number inner times around place used
        → InOrder after around (place + length used) others
        → InOrder (row number least greatest inner after) around place (used ++ others)

  -- `Uses number inner times around place spots`: the segments from this place on use the row so many times.
  -- Each use is one segment of the row and then its inner rows in order, counted anew.
  pub data Uses : ℕ → Rows → ℕ → ℕ → ℕ → List Spot → Type 0 where
    no_use : {number around place : ℕ} {inner : Rows} → Uses number inner zero around place []
    next_use : {number around place times : ℕ} {inner : Rows} {inside others : List Spot}
        → InOrder inner (loop_of number inner around place) (suc place) inside
        → Uses number inner times around (suc place + length inside) others
        → Uses number inner (suc times) around place (spot_of number inner around place ∷ (inside ++ others))

-- The rows of the segments match their marks, one by one.
abbrev pub RowsMatch : (ℕ → Label) → List Spot → List Mark → Type 0
RowsMatch label [] [] = Unit {0}
RowsMatch label [] (mark ∷ marks) = ⊥
RowsMatch label (spot ∷ spots) [] = ⊥
RowsMatch label (spot ∷ spots) (mark ∷ marks) = Matches (label spot.row) mark × RowsMatch label spots marks

-- A derivation of the marks by a tree of rows: its segments count from 1, the tree stands in no loop, and each segment's row matches its mark.
abbrev pub DerivationBy : (ℕ → Label) → Rows → List Mark → List Spot → Type 0
DerivationBy label rows marks spots = InOrder rows 0 1 spots × RowsMatch label spots marks

-- A segment of the row q comes directly after one of the row p.
abbrev pub Adjacent : ℕ → ℕ → List Spot → Type 0
Adjacent p q spots =
    (before : List Spot) × (this : Spot) × (next : Spot) × (behind : List Spot)
    × (spots ≡ before ++ (this ∷ next ∷ behind))
    × (this.row ≡ p)
    × (next.row ≡ q)

-- The row q may directly follow the row p: in some derivation a segment of q comes directly after one of p.
abbrev pub MayFollow : (ℕ → Label) → Rows → ℕ → ℕ → Type 0
MayFollow label rows p q = (marks : List Mark) × (spots : List Spot) × DerivationBy label rows marks spots × Adjacent p q spots
