-- One turn of a reading: a segment is judged, and placing and the tally go on by it.
use Rattle.std.specs.Prelude.{◌≡◌, ℕ, suc, ◌<◌, ◌≤◌, List, [], ◌∷◌, ◌++◌, length, Some, None, Ok, Err, Option, Result, MatchResult}
use Rattle.x12.specs.declared.faults.Fault.{Fault}
use Rattle.x12.specs.Lists.{and_then}
use Rattle.x12.specs.Segments.{Segment}
use Rattle.x12.specs.Causes.{fault}
use Rattle.x12.specs.Checks.{segment_check}
use Rattle.grammar.specs.Derivations.{Spot}
use Rattle.grammar.specs.Interchange.{Begins}
use Rattle.guide.specs.Meaning.{Meaning}
use Rattle.guide.specs.Asked.{rows_of, label_of}
use Rattle.placing.specs.declared.placer.Placed.{Placed}
use Rattle.placing.specs.declared.placer.Placer.{Placer}
use Rattle.placing.specs.Stages.{spot_for}
use Rattle.placing.specs.Placing.{HasPlaced, EveryDerivationGives, FitsNowhere}
use Rattle.placing.specs.Structure.{mark_in, marks_in}
use Rattle.placing.specs.Placed.{PlacedSegment, segments_in, OnlySo}
use Rattle.totals.specs.declared.faults.TotalsFault.{TotalsFault}
use Rattle.totals.specs.declared.tally.Tally.{Tally}
use Rattle.totals.specs.Words.{lines_in}
use Rattle.totals.specs.Fails.{cause_of_totals}
use Rattle.totals.specs.Tally.{TallyIs}
use Rattle.reading.specs.Judge.{spot_check}

-- What placing gives the segment s, which follows the segments z: it fits nowhere, or every derivation that begins so gives it this row and
-- these loops, and there is one.
abbrev pub Placement : Meaning → ℕ → List PlacedSegment → Segment → Option Spot → Type 0
Placement m x z s None = FitsNowhere m (marks_in x (segments_in z)) (mark_in x s)
Placement m x z s (Some spot) =
    Begins (label_of m) (rows_of m) (marks_in x (segments_in z) ++ (mark_in x s ∷ [])) × EveryDerivationGives m (marks_in x (segments_in z)) (mark_in x s) spot

-- what a function answers is what a check computes, its faults told by their cause
abbrev pub AnswersWith : {A F : Type 0} → (F → Fault) → Result A F → Result A Fault → Type 0
AnswersWith cause r check = MatchResult r (λ a. check ≡ Ok a) (λ f. check ≡ Err (cause f))

-- a segment's place, or 6 where it has none
abbrev pub or_misplaced : ℕ → ℕ → Option Placed → Result Placed Fault
or_misplaced k place None = Err (fault 6 k 0 place)
or_misplaced k place (Some p) = Ok p

-- the bytes of segment k, and then its place
abbrev pub place_check : ℕ → ℕ → ℕ → Segment → Option Placed → Result Placed Fault
place_check separator component k s o = and_then (segment_check separator component k s) (λ u. or_misplaced k s.place o)

-- the four layers of segment k, which is s and follows the segments z
abbrev pub check_by : Meaning → ℕ → ℕ → ℕ → List PlacedSegment → Segment → Option Spot → Result Spot Fault
check_by m separator component k z s spot = and_then (segment_check separator component k s) (λ u. spot_check m separator k z s spot)

-- Before segment k: the segments z are placed and counted, each derivation that begins so gives them their rows and loops, and they are few.
pub record Stands (m : Meaning) (separator k : ℕ) (z : List PlacedSegment) (placer : Placer) (tally : Tally) : Type 0 where
  pub placed : HasPlaced m placer (marks_in separator (segments_in z))
  pub counted : TallyIs m separator z tally
  pub only : OnlySo m separator z
  pub number : k ≡ suc (length z)
  pub few : length z ≤ 65536
  pub few_lines : lines_in separator z < 16384

-- The turn of segment k, which is s. Passed: the four layers give its row and loops, and placing and tally stand behind it. Refused: they give the fault.
abbrev pub TurnIs : Meaning → ℕ → ℕ → ℕ → List PlacedSegment → Segment → Placer → Tally → Result Placed TotalsFault → Type 0
TurnIs m separator component k z s placer tally r =
    MatchResult r
    (λ placed. (check_by m separator component k z s (Some (spot_for placed)) ≡ Ok (spot_for placed))
    × Placement m separator z s (Some (spot_for placed))
    × HasPlaced m placer (marks_in separator (segments_in z) ++ (mark_in separator s ∷ []))
    × TallyIs m separator (z ++ ((s, spot_for placed) ∷ [])) tally)
    (λ f. (o : Option Spot) × Placement m separator z s o × (check_by m separator component k z s o ≡ Err (cause_of_totals f)))
