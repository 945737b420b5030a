-- How the state of a set that the code keeps stands for a state of the theory.
use Rattle.std.specs.Prelude.{◌≡◌, ℕ, zero, suc, ◌+◌, ◌<◌, ◌≤◌, Bool, true, false, cond, List, [], ◌∷◌, length, Some, None, Option, nat_lt, slice_index_or, slice_set}
use Rattle.grammar.proofs.States.{State}
use Rattle.grammar.proofs.LoopStates.{LoopState}
use Rattle.grammar.proofs.FlatTable.{TableRow, UsedRow, flatten}
use Rattle.grammar.proofs.Search.{StandsFor, Found}
use Rattle.guide.specs.Meaning.{Meaning, Standing}
use Rattle.guide.specs.declared.rules.Row.{Row}
use Rattle.guide.specs.Asked.{row_at, row_of, rows_of, fits_row}
use Rattle.placing.specs.declared.sets.UsedRow.{UsedRow as CodeRow}
use Rattle.placing.specs.declared.sets.Choice.{Choice}

-- the rows of a guide in order, as a flat table
abbrev pub table_of : Meaning → List TableRow
table_of m = flatten 0 (rows_of m)

abbrev pub least_in : Option Standing → ℕ
least_in None = 0
least_in (Some s) = s.this.least

abbrev pub greatest_in : Option Standing → ℕ
greatest_in None = 0
greatest_in (Some s) = s.this.greatest

abbrev pub least_of : Meaning → ℕ → ℕ
least_of m a = least_in (row_at m a)

abbrev pub greatest_of : Meaning → ℕ → ℕ
greatest_of m a = greatest_in (row_at m a)

-- a row opens a loop if it has inner rows
abbrev pub opens_in : Option Standing → Bool
opens_in None = false
opens_in (Some s) = nat_lt 0 s.inner

abbrev pub opens_of : Meaning → ℕ → Bool
opens_of m a = opens_in (row_at m a)

abbrev pub blank : CodeRow
blank = record { row = 0; count = 0; around = 0 }

-- the outermost d rows in use, innermost first
abbrev pub below : List CodeRow → ℕ → List UsedRow
below us zero = []
below us (suc d) = record { row = (slice_index_or us d blank).row; count = (slice_index_or us d blank).count } ∷ below us d

-- the row behind a place stands in so many loops, and it and its loop lie within the 64 rows that a guide has at most
pub record RowBehind (m : Meaning) (place depth : ℕ) (row : Row) : Type 0 where
  pub within : place + 1 + row.inner ≤ 64
  pub told_so : row_of m (place + 1) ≡ Some row
  pub level : row.depth ≡ depth
  pub shallow : depth ≤ 4

-- a mark is a name with a first element
abbrev pub Fits : Meaning → ℕ → List ℕ × List ℕ → Type 0
Fits m a mark = fits_row m a mark.0 mark.1 ≡ true

-- in how many rows a row stands
abbrev pub depth_in : Option Standing → ℕ
depth_in None = 0
depth_in (Some s) = s.depth

abbrev pub depth_of : Meaning → ℕ → ℕ
depth_of m a = depth_in (row_at m a)

-- the place and the rows in use stand for a state, and each row in use stands at its depth
abbrev pub Stands : Meaning → ℕ → List CodeRow → ℕ → State → Type 0
Stands m place us depth S =
    StandsFor (table_of m) (least_of m) (greatest_of m) S place (below us depth)
    × ((k : ℕ) → k < depth → depth_of m (slice_index_or us k blank).row ≡ k)

-- the search chose a row that fits, and by it the state has a step
abbrev pub Chosen : Meaning → List CodeRow → ℕ → List ℕ × List ℕ → State → Choice → Type 0
Chosen m us depth mark S c =
    (c.depth ≤ depth) × (fits_row m c.row mark.0 mark.1 ≡ true) × (c.opens ≡ opens_of m c.row) × (depth_of m c.row ≡ c.depth)
    × Found (table_of m) (least_of m) (greatest_of m) S c.row (record { row = c.row; count = c.count } ∷ below us c.depth)

-- the loop that the rows at a depth stand in
abbrev pub loop_with : List CodeRow → ℕ → ℕ
loop_with us zero = 0
loop_with us (suc d) = (slice_index_or us d blank).around

-- the innermost loop of a segment of the chosen row with this number: its own, if the row opens one
abbrev pub around_of : List CodeRow → Choice → ℕ → ℕ
around_of us c n = cond c.opens n (loop_with us c.depth)

-- each list of a state stands in the loop of the row in use around it
abbrev pub LoopsAre : List CodeRow → LoopState → Type 0
LoopsAre us [] = Unit {0}
LoopsAre us (list ∷ outer) = (list.1 ≡ loop_with us (length outer)) × LoopsAre us outer

-- the rows in use once the chosen row is taken
abbrev pub taken : List CodeRow → Choice → ℕ → List CodeRow
taken us c n = slice_set us c.depth (record { row = c.row; count = c.count; around = around_of us c n })
