-- Placing that computes: the row that takes the next segment, and whether the interchange may end.
-- `cond` and `&&` compute all their arguments, so a branch that recurses is bound by a `let`, which waits.
use Rattle.std.specs.Prelude.{ℕ, pred, Bool, true, cond, ◌&&◌, List, [], ◌∷◌, Some, None, Option, ◌==◌, nat_le}
use Rattle.std.specs.Str.{bytes_eq}
use Rattle.grammar.specs.Tree.{Rows, end, row}
use Rattle.grammar.specs.Marks.{Mark}
use Rattle.grammar.specs.Derivations.{Spot, loop_of, spot_of}
use Rattle.grammar.specs.Interchange.{interchange, with_envelope}
use Rattle.guide.specs.Meaning.{Meaning}
use Rattle.guide.specs.Asked.{rows_of, label_of, fits_row}

-- A state of placing: the lists of rows that are not yet finished, innermost first, each with the loop that it stands in.
-- The least and the greatest use of a row in use are counted down.
abbrev pub PlacingState : Type 0
PlacingState = List (Rows × ℕ)

-- the state in which an interchange begins
abbrev pub start_state : Meaning → PlacingState
start_state m = (interchange (rows_of m), 0) ∷ []

-- A row takes a mark: a row of the guide by its name and its codes, and a row of the envelope, from 65 on, by its name.
abbrev pub takes : Meaning → Mark → ℕ → Bool
takes m mk q =
    let guide = fits_row m q mk.name mk.first in
    let envelope = bytes_eq mk.name (with_envelope (label_of m) q).name in
    cond (nat_le q 64) guide envelope

-- The first of these rows that passes the test, and else what comes after them (`up`), for the segment with number n: what the segment is given, and
-- the state behind it. A row is passed over only where it needs no more use.
abbrev pub next_in : (ℕ → Bool) → ℕ → Rows → ℕ → PlacingState → Option (Spot × PlacingState) → Option (Spot × PlacingState)
next_in test n end around outer up = up
next_in test n (row a least greatest inner after) around outer up =
    let on = next_in test n after around outer up in
    let past = cond (least == 0) on None in
    let here = Some (spot_of a inner around n, (inner, loop_of a inner around n) ∷ (row a (pred least) (pred greatest) inner after, around) ∷ outer) in
    cond (nat_le 1 greatest && test a) here past

-- the same for the lists of a state, innermost first
abbrev pub next_by : (ℕ → Bool) → ℕ → PlacingState → Option (Spot × PlacingState)
next_by test n [] = None
next_by test n (list ∷ outer) = let up = next_by test n outer in next_in test n list.0 list.1 outer up

-- The first row of the state that takes the mark of the segment with number n: the segment's row and loops, and the state behind it.
abbrev pub next_spot : Meaning → PlacingState → ℕ → Mark → Option (Spot × PlacingState)
next_spot m S n mk = next_by (takes m mk) n S

-- no row needs more use
abbrev pub rows_may_end : Rows → Bool
rows_may_end end = true
rows_may_end (row a least greatest inner after) = let more = rows_may_end after in (least == 0) && more

abbrev pub may_end : PlacingState → Bool
may_end [] = true
may_end (list ∷ outer) = let more = may_end outer in rows_may_end list.0 && more
