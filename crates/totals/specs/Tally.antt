-- What a tally keeps: the totals of the segments so far.
use Rattle.std.specs.Prelude.{◌≡◌, ℕ, ◌<◌, false, cond, List, length, Some, None, Option, nat_le, slice_index_or}
use Rattle.guide.specs.Meaning.{Meaning}
use Rattle.placing.specs.Placed.{PlacedSegment, count_of, sum_of, any_of, has_row}
use Rattle.elements.specs.Rules.{value}
use Rattle.elements.specs.Tests.{needed_row}
use Rattle.seen.specs.ControlNumbers.{numbers_of as control_numbers_of}
use Rattle.seen.specs.LineNumbers.{numbers_of as line_numbers_of}
use Rattle.totals.specs.declared.open_line.OpenLine.{OpenLine}
use Rattle.totals.specs.declared.tally.Tally.{Tally}
use Rattle.totals.specs.Words.{quantity, set_of, group_of, is_line, lines_in, sum_in, acknowledged, last_value, values_of, Line, last_line}
use Rattle.totals.specs.Tests.{every_of}

-- the last line is open as long as all segments behind it stand in its loop
abbrev pub open_in : ℕ → Option Line → Option OpenLine
open_in separator None = None
open_in separator (Some l) =
    cond (every_of (λ (q : PlacedSegment). nat_le l.number q.1.outer) l.behind)
    (Some (record { number = l.number; asked = quantity (value separator l.line 2); given = sum_of (acknowledged separator) l.behind })) None

abbrev pub line_opened : ℕ → List PlacedSegment → Option OpenLine
line_opened separator z = open_in separator (last_line separator z)

-- The tally is that of the segments z under a guide with this meaning.
pub record TallyIs (m : Meaning) (separator : ℕ) (z : List PlacedSegment) (t : Tally) : Type 0 where
  -- the groups, sets and lines of the interchange, and the sum of PO102
  pub groups : t.counts.groups ≡ count_of (has_row 66) z
  pub sets : t.counts.sets ≡ count_of (has_row 1) z
  pub lines : t.counts.lines ≡ lines_in separator z
  pub sum : t.counts.sum ≡ sum_in separator z
  -- the sets of the last group
  pub sets_of_group : t.counts.group_sets ≡ count_of (has_row 1) (group_of z)
  -- the segments and lines of the last set, and its sum of PO102
  pub segments_of_set : t.counts.set_segments ≡ length (set_of z)
  pub set_lines : t.counts.set_lines ≡ lines_in separator (set_of z)
  pub set_sum : t.counts.set_sum ≡ sum_in separator (set_of z)
  -- ISA13, GS06 of the last group, ST02 of the last set
  pub isa13 : t.controls.isa13.now ≡ last_value separator (has_row 65) 13 z
  pub gs06 : t.controls.gs06.now ≡ last_value separator (has_row 66) 6 z
  pub st02 : t.controls.st02.now ≡ last_value separator (has_row 1) 2 z
  -- the ST02s of the last group, and the PO101s of the last set
  pub numbers_of_set : control_numbers_of t.set_numbers ≡ values_of separator (has_row 1) 2 (group_of z)
  pub numbers_of_lines : line_numbers_of t.line_numbers ≡ values_of separator (is_line separator) 1 (set_of z)
  -- the row that the last set has to hold, and those that its segments have
  pub needed : t.rows.needed ≡ needed_row m separator z
  pub used : (r : ℕ) → r < 256 → slice_index_or t.rows.used r false ≡ any_of (has_row r) (set_of z)
  -- the last line, if its loop is still open
  pub line : t.line ≡ line_opened separator z
