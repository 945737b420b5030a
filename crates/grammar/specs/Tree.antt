-- The tree of rows of a guide.
use Rattle.std.specs.Prelude.{◌≡◌, ℕ, suc, ◌+◌, ◌≤◌, ◌⊎◌}

-- Rows that stand side by side, in order: none, or a row and the rows after it. A row has a number, a least and a greatest use, and inner rows.
pub data Rows : Type 0 where
  end : Rows
  row : (number least greatest : ℕ) (inner after : Rows) → Rows

-- The tree has a row of this number, at any depth.
abbrev pub HasRow : Rows → ℕ → Type 0
HasRow end sought = ⊥
HasRow (row number least greatest inner after) sought = (sought ≡ number) ⊎ (HasRow inner sought ⊎ HasRow after sought)

-- How many rows the tree has.
abbrev pub count : Rows → ℕ
count end = 0
count (row number least greatest inner after) = suc (count inner + count after)

-- The rows are numbered in order, from this number on: a row, then its inner rows, then the rows after it.
abbrev pub NumberedFrom : ℕ → Rows → Type 0
NumberedFrom next end = Unit {0}
NumberedFrom next (row number least greatest inner after) = (number ≡ next) × NumberedFrom (suc next) inner × NumberedFrom (suc next + count inner) after

-- Each row's least use is at most its greatest.
abbrev pub LeastUpToGreatest : Rows → Type 0
LeastUpToGreatest end = Unit {0}
LeastUpToGreatest (row number least greatest inner after) = (least ≤ greatest) × LeastUpToGreatest inner × LeastUpToGreatest after

-- The rows after the first.
abbrev pub after_first : Rows → Rows
after_first end = end
after_first (row number least greatest inner after) = after
