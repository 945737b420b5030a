-- What the totals of an interchange are taken over: sets, groups and lines, as lists of the segments so far with their rows.
use Rattle.std.specs.Prelude.{ℕ, suc, Bool, cond, ◌&&◌, List, [], ◌∷◌, length, Some, None, codes, Option}
use Rattle.x12.specs.Class.{within}
use Rattle.value.specs.Digits.{digits, number_of}
use Rattle.placing.specs.Placed.{PlacedSegment, count_of, sum_of, last_of, since_last, or_else, has_row}
use Rattle.elements.specs.Rules.{value}
use Rattle.elements.specs.Tests.{is_named}

-- The number that a count, a sum or a quantity writes: 1 to 10 digits. Other bytes count as 0: under a lawful guide such an element has a
-- fault of its own, which ranks before every fault of a total.
abbrev pub quantity : List ℕ → ℕ
quantity v = cond (within 1 10 (length v) && digits v) (number_of v) 0

-- the set so far: the segments from the last ST, which is row 1, on
abbrev pub set_of : List PlacedSegment → List PlacedSegment
set_of z = since_last (has_row 1) z

-- the group so far: the segments from the last GS, which is row 66, on
abbrev pub group_of : List PlacedSegment → List PlacedSegment
group_of z = since_last (has_row 66) z

-- a line is a PO1 segment
abbrev pub is_line : ℕ → PlacedSegment → Bool
is_line separator p = is_named separator (codes "PO1") p

-- how many lines there are
abbrev pub lines_in : ℕ → List PlacedSegment → ℕ
lines_in separator z = count_of (is_line separator) z

-- what a segment adds to the sum of PO102
abbrev pub ordered : ℕ → PlacedSegment → ℕ
ordered separator p = cond (is_line separator p) (quantity (value separator p 2)) 0

-- the sum of PO102
abbrev pub sum_in : ℕ → List PlacedSegment → ℕ
sum_in separator z = sum_of (ordered separator) z

-- what a segment adds to the sum of ACK02
abbrev pub acknowledged : ℕ → PlacedSegment → ℕ
acknowledged separator p = cond (is_named separator (codes "ACK") p) (quantity (value separator p 2)) 0

-- element e of the last segment that passes a test; no bytes where none does
abbrev pub value_in : ℕ → ℕ → Option PlacedSegment → List ℕ
value_in separator e None = []
value_in separator e (Some p) = value separator p e

abbrev pub last_value : ℕ → (PlacedSegment → Bool) → ℕ → List PlacedSegment → List ℕ
last_value separator f e z = value_in separator e (last_of f z)

-- element e of each segment that passes a test
abbrev pub values_of : ℕ → (PlacedSegment → Bool) → ℕ → List PlacedSegment → List (List ℕ)
values_of separator f e [] = []
values_of separator f e (p ∷ z) = let more = values_of separator f e z in cond (f p) (value separator p e ∷ more) more

-- A line with what follows it: its number (segments count from 1), the PO1 segment, and the segments behind it.
pub record Line : Type 0 where
  pub number : ℕ
  pub line : PlacedSegment
  pub behind : List PlacedSegment

-- the last line, where the first segment has the number k
abbrev pub last_line_from : ℕ → ℕ → List PlacedSegment → Option Line
last_line_from separator k [] = None
last_line_from separator k (p ∷ z) =
    let more = last_line_from separator (suc k) z in
    or_else more (cond (is_line separator p) (Some (record { number = k; line = p; behind = z })) None)

abbrev pub last_line : ℕ → List PlacedSegment → Option Line
last_line separator z = last_line_from separator 1 z
