-- What a guide means.
use Rattle.std.specs.Prelude.{ℕ, suc, ◌+◌, Bool, List, [], ◌∷◌, ◌++◌, Option}
use Rattle.grammar.specs.Tree.{Rows, end, row}
use Rattle.guide.specs.declared.rules.Rule.{Rule}
use Rattle.guide.specs.declared.rules.Kind.{Kind}

-- The rule of one element of a row: the element's number, what it has to be, and the codes that it is held to (none: any value does).
pub record ElementRule : Type 0 where
  pub number : ℕ
  pub rule : Rule
  pub codes : List (List ℕ)

-- A row of a guide.
pub record GuideRow : Type 0 where
  -- the name of its segments
  pub name : List ℕ
  -- the codes of the first element that place a segment here (none: any first element does)
  pub placing : List (List ℕ)
  pub least : ℕ
  pub greatest : ℕ
  pub elements : List ElementRule
  -- (a, b): if element a is filled, so is element b
  pub pairs : List (ℕ × ℕ)

-- Rows side by side, in order: none, or a row with the rows of the loop that it opens, and the rows after it.
pub data Tree : Type 0 where
  none : Tree
  branch : (this : GuideRow) (inner after : Tree) → Tree

-- The meaning of a guide.
pub record Meaning : Type 0 where
  pub tree : Tree
  -- what the first two elements of BAK make of a set
  pub kind : List ℕ → List ℕ → Kind
  -- the row that a set with this second element of BAK has to hold
  pub needed : List ℕ → Option ℕ
  -- whether the sums of ACK02 are held to PO102
  pub held : Bool
  -- the values of ISA12 and GS08
  pub isa12 : List ℕ
  pub gs08 : List ℕ

-- how many rows a tree has
abbrev pub size : Tree → ℕ
size none = 0
size (branch this inner after) = suc (size inner + size after)

-- A row where it stands: in how many loops, with how many rows in the loop that it opens.
pub record Standing : Type 0 where
  pub depth : ℕ
  pub inner : ℕ
  pub this : GuideRow

-- the rows in order, from a depth on: a row, the rows of its loop, the rows after it
abbrev pub standing : ℕ → Tree → List Standing
standing depth none = []
standing depth (branch this inner after) = record { depth = depth; inner = size inner; this = this } ∷ (standing (suc depth) inner ++ standing depth after)

-- the tree as derivations see it: rows by their numbers in order, from n on, with their uses
abbrev pub numbered : ℕ → Tree → Rows
numbered n none = end
numbered n (branch this inner after) = row n this.least this.greatest (numbered (suc n) inner) (numbered (suc n + size inner) after)
