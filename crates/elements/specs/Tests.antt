-- The tests of one element, each with the number of its refusal, in the order of the numbers.
use Rattle.std.specs.Prelude.{ℕ, Bool, true, false, not, ◌&&◌, ◌||◌, List, [], ◌∷◌, ◌++◌, Some, None, codes, Option, ◌==◌}
use Rattle.std.specs.Str.{bytes_eq}
use Rattle.x12.specs.Lists.{filled}
use Rattle.x12.specs.Segments.{Segment}
use Rattle.x12.specs.Elements.{element_of_segment}
use Rattle.value.specs.Types.{good_type, good_length}
use Rattle.guide.specs.declared.rules.Need.{Need}
use Rattle.guide.specs.declared.rules.Need.TheVariants.{Must, May, Unused}
use Rattle.guide.specs.declared.rules.Kind.{Kind}
use Rattle.guide.specs.declared.rules.Kind.TheVariants.{Original, FollowUp, Wrong}
use Rattle.guide.specs.Meaning.{ElementRule, Meaning}
use Rattle.guide.specs.Asked.{test, and_then, admits}
use Rattle.placing.specs.Placed.{PlacedSegment, has_row, any_of, last_of, since_last}
use Rattle.elements.specs.Rules.{value, rule_at, asks_for}

abbrev pub is_must : Need → Bool
is_must Must = true
is_must May = false
is_must Unused = false

abbrev pub is_unused : Need → Bool
is_unused Must = false
is_unused May = false
is_unused Unused = true

-- a must element is empty
abbrev pub lacks : Option ElementRule → List ℕ → Bool
lacks o v = test (λ r. is_must r.rule.need && not (filled v)) o

-- an unused element is filled; one without a rule is unused
abbrev pub exceeds : Option ElementRule → List ℕ → Bool
exceeds None v = filled v
exceeds (Some r) v = is_unused r.rule.need && filled v

-- an element that its rule judges: it is used and filled
abbrev pub judges : ElementRule → List ℕ → Bool
judges r v = not (is_unused r.rule.need) && filled v

abbrev pub is_wrong_length : Option ElementRule → List ℕ → Bool
is_wrong_length o v = test (λ r. judges r v && not (good_length r.rule.form r.rule.least r.rule.greatest v)) o

abbrev pub is_wrong_type : Option ElementRule → List ℕ → Bool
is_wrong_type o v = test (λ r. judges r v && not (good_type r.rule.form v)) o

abbrev pub is_wrong_code : Option ElementRule → List ℕ → Bool
is_wrong_code o v = test (λ r. judges r v && not (admits r.codes v)) o

abbrev pub is_wrong : Kind → Bool
is_wrong Original = false
is_wrong FollowUp = false
is_wrong Wrong = true

-- the first two elements of BAK are filled, and their pair is wrong
abbrev pub is_unlike_pair : Meaning → List ℕ → List ℕ → Bool
is_unlike_pair m first second = (filled first && filled second) && is_wrong (m.kind first second)

-- element 2 of BAK, which is row 2, ends a wrong pair with these bytes
abbrev pub is_in_wrong_pair : Meaning → ℕ → ℕ → Segment → ℕ → List ℕ → Bool
is_in_wrong_pair m separator r s e v = (e == 2 && r == 2) && is_unlike_pair m (element_of_segment separator s 1).1 v

-- the tests of element e, with these bytes, of a segment of row r
abbrev pub element_tests : Meaning → ℕ → ℕ → Segment → ℕ → List ℕ → List (Bool × ℕ)
element_tests m separator r s e v =
    let rule = rule_at m r e in
    (lacks rule v, 8)
    ∷ (exceeds rule v, 9)
    ∷ (is_wrong_length rule v, 10)
    ∷ (is_wrong_type rule v, 11)
    ∷ (is_wrong_code rule v || is_in_wrong_pair m separator r s e v, 12)
    ∷ (not (filled v) && asks_for m separator r s e, 13)
    ∷ []

-- the segment has this name
abbrev pub is_named : ℕ → List ℕ → PlacedSegment → Bool
is_named separator name p = bytes_eq (value separator p 0) name

-- the row that a set has to hold, by the second element of its BAK; z are the segments so far
abbrev pub needed_row : Meaning → ℕ → List PlacedSegment → Option ℕ
needed_row m separator z = and_then (last_of (has_row 2) z) (λ b. m.needed (value separator b 2))

-- the segment ends its set (it is SE), and no segment of the set, from ST (row 1) on, has the row that the set has to hold
abbrev pub is_row_lacking : Meaning → ℕ → List PlacedSegment → PlacedSegment → Bool
is_row_lacking m separator z p =
    is_named separator (codes "SE") p && test (λ r. not (any_of (has_row r) (since_last (has_row 1) z ++ (p ∷ [])))) (needed_row m separator z)
