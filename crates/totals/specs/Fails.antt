-- The faults of totals, each cause in the words of the rule book.
use Rattle.std.specs.Prelude.{◌≡◌, ℕ, ◌<◌, ◌≤◌, true, ◌≢◌, List, [], Some}
use Rattle.std.specs.List.{AllByRecursion}
use Rattle.x12.specs.declared.faults.Fault.{Fault}
use Rattle.x12.specs.Elements.{element_of_segment}
use Rattle.x12.specs.Causes.{fault}
use Rattle.grammar.specs.Marks.{OneOf}
use Rattle.guide.specs.Meaning.{Meaning}
use Rattle.placing.specs.Placed.{PlacedSegment, sum_of}
use Rattle.elements.specs.Rules.{value}
use Rattle.elements.specs.Fails.{cause_of_element}
use Rattle.totals.specs.declared.faults.TotalsFault.{TotalsFault}
use Rattle.totals.specs.declared.faults.TotalsFault.TheVariants.{Element, WrongControl, WrongTotal, UnlikeSum, Repeated}
use Rattle.totals.specs.Words.{quantity, acknowledged, Line, last_line}
use Rattle.totals.specs.Tests.{counted, summed, repeated, taken}

-- The segment p, which follows the segments z, has the fault n at its element e.
pub data TotalsFails (m : Meaning) (separator : ℕ) (z : List PlacedSegment) (p : PlacedSegment) : ℕ → ℕ → Type 0 where
  -- a trailer does not repeat its header's control number, byte for byte
  wrong_control : (w : List ℕ) → repeated separator z p ≡ Some w → value separator p 2 ≢ w → TotalsFails m separator z p 14 2
  -- a count is wrong, by its value
  wrong_count : (n : ℕ) → counted separator z p ≡ Some n → quantity (value separator p 1) ≢ n → TotalsFails m separator z p 15 1
  -- a sum that is filled is wrong, by its value
  wrong_sum : (n : ℕ) → summed separator z p ≡ Some n → value separator p 2 ≢ [] → quantity (value separator p 2) ≢ n → TotalsFails m separator z p 15 2
  -- Where the guide holds the sums of ACK02: the loop of the last line ends before p, since all segments behind the line stand in loops that
  -- were opened at the line or later and p does not, and the sum of ACK02 in the loop is not the line's PO102.
  unlike_sum : (l : Line) → m.held ≡ true → last_line separator z ≡ Some l → AllByRecursion (λ (q : PlacedSegment). l.number ≤ q.1.outer) l.behind → p.1.outer < l.number
      → sum_of (acknowledged separator) l.behind ≢ quantity (value separator l.line 2) → TotalsFails m separator z p 16 0
  -- ST02 occurs a second time in its group, or PO101 in its set, byte for byte
  again : {e : ℕ} → OneOf (taken separator z p e) (value separator p e) → TotalsFails m separator z p 17 e

-- a fault of a total at segment k, which is p and follows the segments z: it stands at its element
abbrev pub TotalsMet : Meaning → ℕ → ℕ → List PlacedSegment → PlacedSegment → Fault → Type 0
TotalsMet m separator k z p f = (n e : ℕ) × TotalsFails m separator z p n e × (f ≡ fault n k e (element_of_segment separator p.0 e).0)

-- every cause of the four layers with its number, layer, segment, element and place
abbrev pub cause_of_totals : TotalsFault → Fault
cause_of_totals (Element f) = cause_of_element f
cause_of_totals (WrongControl segment place) = fault 14 segment 2 place
cause_of_totals (WrongTotal at) = fault 15 at.segment at.element at.place
cause_of_totals (UnlikeSum segment place) = fault 16 segment 0 place
cause_of_totals (Repeated at) = fault 17 at.segment at.element at.place
