-- How the totals go on by one segment, as the code keeps them.
use Rattle.std.specs.Prelude.{ℕ, suc, ◌+◌, Bool, cond, not, ◌&&◌, List, Some, None, codes, Option, ◌==◌, nat_le, nat_lt}
use Rattle.std.specs.Str.{bytes_eq}
use Rattle.guide.specs.Asked.{test}
use Rattle.totals.specs.declared.counts.Counts.{Counts}
use Rattle.totals.specs.declared.open_line.OpenLine.{OpenLine}
use Rattle.totals.specs.Words.{quantity}

-- The counts behind a segment of this row: `line` says whether it is a line, and `ordered` is what it adds to the sum of PO102. GS (row 66) begins a
-- group and ST (row 1) a set.
abbrev pub counts_behind : Counts → ℕ → Bool → ℕ → Counts
counts_behind c row line ordered = record {
  groups = c.groups + cond (row == 66) 1 0;
  sets = c.sets + cond (row == 1) 1 0;
  lines = c.lines + cond line 1 0;
  sum = c.sum + ordered;
  group_sets = cond (row == 66) 0 c.group_sets + cond (row == 1) 1 0;
  set_segments = cond (row == 1) 0 c.set_segments + 1;
  set_lines = cond (row == 1) 0 c.set_lines + cond line 1 0;
  set_sum = cond (row == 1) 0 c.set_sum + ordered;
}

-- What element 1 of a segment with this row and this name has to count, by the counts.
abbrev pub counted_by : Counts → ℕ → List ℕ → Option ℕ
counted_by c row name =
    cond (bytes_eq name (codes "SE")) (Some (suc c.set_segments))
    (cond (bytes_eq name (codes "CTT")) (Some c.set_lines)
    (cond (row == 67) (Some c.group_sets)
    (cond (row == 68) (Some c.groups) None)))

-- What element 2, if it is filled, has to sum.
abbrev pub sum_by_name : Counts → List ℕ → Option ℕ
sum_by_name c name = cond (bytes_eq name (codes "CTT")) (Some c.set_sum) None

-- The value is not what it has to be, if there is such a number.
abbrev pub differs : Option ℕ → List ℕ → Bool
differs o v = test (λ n. not (quantity v == n)) o

-- The open line behind a segment with this number whose row stands in the loop `outer`: a line opens one; any other segment goes on in it, if it
-- stands in its loop, and adds what it acknowledges; else the line is closed.
abbrev pub goes_further : OpenLine → ℕ → ℕ → Option OpenLine
goes_further l outer acknowledged = cond (nat_le l.number outer) (Some (record { number = l.number; asked = l.asked; given = l.given + acknowledged })) None

abbrev pub kept_open : Option OpenLine → ℕ → ℕ → Option OpenLine
kept_open None outer acknowledged = None
kept_open (Some l) outer acknowledged = goes_further l outer acknowledged

abbrev pub line_after : Option OpenLine → ℕ → ℕ → Bool → ℕ → ℕ → Option OpenLine
line_after o number outer line asked acknowledged = cond line (Some (record { number = number; asked = asked; given = 0 })) (kept_open o outer acknowledged)

-- The open line ends before a segment whose row stands in the loop `outer`, and its sum is not what was asked.
abbrev pub is_unlike_close : Option OpenLine → ℕ → Bool
is_unlike_close o outer = test (λ l. nat_lt outer l.number && not (l.given == l.asked)) o
