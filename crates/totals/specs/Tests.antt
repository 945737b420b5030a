-- What the trailers have to count, sum and repeat, what must not occur twice, and the tests of these.
use Rattle.std.specs.Prelude.{ℕ, suc, Bool, true, cond, not, ◌&&◌, ◌||◌, List, [], ◌∷◌, length, Some, None, codes, Option, Result, ◌==◌, nat_le, nat_lt}
use Rattle.std.specs.Str.{bytes_eq}
use Rattle.x12.specs.declared.faults.Fault.{Fault}
use Rattle.x12.specs.Lists.{filled, each}
use Rattle.x12.specs.Elements.{element_of_segment}
use Rattle.guide.specs.Meaning.{Meaning}
use Rattle.guide.specs.Asked.{test, is_among}
use Rattle.placing.specs.Placed.{PlacedSegment, count_of, sum_of, has_row}
use Rattle.elements.specs.Rules.{value}
use Rattle.elements.specs.Tests.{is_named}
use Rattle.elements.specs.Checks.{first_of}
use Rattle.totals.specs.Words.{quantity, set_of, group_of, is_line, lines_in, sum_in, acknowledged, last_value, values_of, Line, last_line}

-- What element 1 of the segment has to count, where p follows the segments z. SE01: the segments from ST to SE; CTT01: the lines of the set;
-- GE01: the sets of the group; IEA01: the groups.
abbrev pub counted : ℕ → List PlacedSegment → PlacedSegment → Option ℕ
counted separator z p =
    cond (is_named separator (codes "SE") p) (Some (suc (length (set_of z))))
    (cond (is_named separator (codes "CTT") p) (Some (lines_in separator (set_of z)))
    (cond (has_row 67 p) (Some (count_of (has_row 1) (group_of z)))
    (cond (has_row 68 p) (Some (count_of (has_row 66) z)) None)))

-- What element 2 of the segment, if it is filled, has to sum. CTT02: the PO102 of the set.
abbrev pub summed : ℕ → List PlacedSegment → PlacedSegment → Option ℕ
summed separator z p = cond (is_named separator (codes "CTT") p) (Some (sum_in separator (set_of z))) None

-- The control number that element 2 of the segment has to repeat. SE02: ST02; GE02: GS06; IEA02: ISA13.
abbrev pub repeated : ℕ → List PlacedSegment → PlacedSegment → Option (List ℕ)
repeated separator z p =
    cond (is_named separator (codes "SE") p) (Some (last_value separator (has_row 1) 2 z))
    (cond (has_row 67 p) (Some (last_value separator (has_row 66) 6 z))
    (cond (has_row 68 p) (Some (last_value separator (has_row 65) 13 z)) None))

-- What element e of the segment must not be. ST02: an ST02 of the group; PO101: a PO101 of the set.
abbrev pub taken : ℕ → List PlacedSegment → PlacedSegment → ℕ → List (List ℕ)
taken separator z p e =
    cond (e == 2 && has_row 1 p) (values_of separator (has_row 1) 2 (group_of z))
    (cond (e == 1 && is_line separator p) (values_of separator (is_line separator) 1 (set_of z)) [])

-- each of a list passes a test
abbrev pub every_of : {A : Type 0} → (A → Bool) → List A → Bool
every_of f [] = true
every_of f (x ∷ xs) = let more = every_of f xs in f x && more

-- The loop of the last line ends before p: all segments behind the line stand in its loop, and p does not. A row stands in a loop or in one
-- inside it if the loop it stands in was opened there or later.
abbrev pub ends_before : PlacedSegment → Line → Bool
ends_before p l = every_of (λ (q : PlacedSegment). nat_le l.number q.1.outer) l.behind && nat_lt p.1.outer l.number

-- the sum of ACK02 in the loop is not PO102
abbrev pub is_unlike : ℕ → Line → Bool
is_unlike separator l = not (sum_of (acknowledged separator) l.behind == quantity (value separator l.line 2))

-- the guide holds the sums of ACK02 to PO102, and the loop of the last line ends before p with another sum
abbrev pub ends_unlike : Meaning → ℕ → List PlacedSegment → PlacedSegment → Bool
ends_unlike m separator z p = m.held && test (λ l. ends_before p l && is_unlike separator l) (last_line separator z)

-- the tests of element e, with these bytes, each with the number of its refusal
abbrev pub total_tests : Meaning → ℕ → List PlacedSegment → PlacedSegment → ℕ → List ℕ → List (Bool × ℕ)
total_tests m separator z p e v =
    (e == 2 && test (λ w. not (bytes_eq v w)) (repeated separator z p), 14)
    ∷ (
      (e == 1 && test (λ n. not (quantity v == n)) (counted separator z p))
          || (e == 2 && (filled v && test (λ n. not (quantity v == n)) (summed separator z p))),
      15,
    )
    ∷ (e == 0 && ends_unlike m separator z p, 16)
    ∷ (is_among v (taken separator z p e), 17)
    ∷ []

-- the totals of segment k, which is p and follows the segments z: at its name, at element 1 and at element 2
abbrev pub totals_check : Meaning → ℕ → ℕ → List PlacedSegment → PlacedSegment → Result (Unit {0}) Fault
totals_check m separator k z p =
    each (λ e part. first_of k e part.0 (total_tests m separator z p e part.1)) 0 (element_of_segment separator p.0 0 ∷ element_of_segment separator p.0 1 ∷ element_of_segment separator p.0 2 ∷ [])
