-- The layers 1 to 4 as a check that computes: segment by segment, each judged by the segments before it.
use Rattle.std.specs.Prelude.{ℕ, suc, cond, List, [], ◌∷◌, ◌++◌, length, Some, None, Ok, Err, Option, Result}
use Rattle.x12.specs.declared.faults.Fault.{Fault}
use Rattle.x12.specs.Header.{separator_of, component_of}
use Rattle.x12.specs.Lists.{and_then}
use Rattle.x12.specs.Segments.{Segment, segments_of}
use Rattle.x12.specs.Causes.{fault}
use Rattle.x12.specs.Checks.{header_check, segment_check}
use Rattle.grammar.specs.Derivations.{Spot}
use Rattle.guide.specs.Meaning.{Meaning}
use Rattle.guide.specs.Asked.{over}
use Rattle.placing.specs.Structure.{mark_in}
use Rattle.placing.specs.Placed.{PlacedSegment}
use Rattle.placing.specs.Next.{PlacingState, start_state, next_spot, may_end}
use Rattle.elements.specs.Tests.{is_row_lacking}
use Rattle.elements.specs.Checks.{elements_check}
use Rattle.totals.specs.Tests.{totals_check}

-- the elements and the totals of segment k, which is p and follows the segments z
abbrev pub placed_check : Meaning → ℕ → ℕ → List PlacedSegment → PlacedSegment → Result (Unit {0}) Fault
placed_check m separator k z p =
    and_then (elements_check m separator k (is_row_lacking m separator z p) p.1.row p.0) (λ u. totals_check m separator k z p)

-- the rows and loops of segment k, where `spot` is what placing gives it
abbrev pub spot_check : Meaning → ℕ → ℕ → List PlacedSegment → Segment → Option Spot → Result Spot Fault
spot_check m separator k z s None = Err (fault 6 k 0 s.place)
spot_check m separator k z s (Some spot) = and_then (placed_check m separator k z (s, spot)) (λ u. Ok spot)

-- the four layers of segment k, which is s and follows the segments z
abbrev pub full_check : Meaning → List ℕ → ℕ → List PlacedSegment → Segment → Option Spot → Result Spot Fault
full_check m I k z s spot = and_then (segment_check (separator_of I) (component_of I) k s) (λ u. spot_check m (separator_of I) k z s spot)

-- what placing gives a segment, and the state behind it
abbrev pub spot_in : Option (Spot × PlacingState) → Option Spot
spot_in o = over (λ (q : Spot × PlacingState). q.0) o

abbrev pub state_in : Option (Spot × PlacingState) → PlacingState
state_in None = []
state_in (Some q) = q.1

-- the segments from number k on, which follow the segments z; all segments with their rows and loops where no fault is found
abbrev pub judge_from : Meaning → List ℕ → ℕ → List PlacedSegment → PlacingState → List Segment → Result (List PlacedSegment) Fault
judge_from m I k z S [] = cond (may_end S) (Ok z) (Err (fault 7 k 0 (length I)))
judge_from m I k z S (s ∷ ss) =
    let next = next_spot m S k (mark_in (separator_of I) s) in
    and_then (full_check m I k z s (spot_in next)) (λ spot. judge_from m I (suc k) (z ++ ((s, spot) ∷ [])) (state_in next) ss)

-- the header, and then the segments in order
abbrev pub judge : Meaning → List ℕ → Result (List PlacedSegment) Fault
judge m I = and_then (header_check I) (λ u. judge_from m I 1 [] (start_state m) (segments_of I))
