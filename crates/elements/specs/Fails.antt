-- The faults of elements, each cause in the words of the rule book.
use Rattle.std.specs.Prelude.{◌≡◌, ℕ, ◌≤◌, false, ◌≢◌, ◌⊎◌, List, [], ◌∷◌, ◌++◌, Some, None, codes}
use Rattle.std.specs.List.{AllByRecursion}
use Rattle.x12.specs.declared.faults.Fault.{Fault}
use Rattle.x12.specs.Elements.{element_of_segment}
use Rattle.x12.specs.Causes.{fault}
use Rattle.value.specs.Types.{good_length}
use Rattle.value.specs.Means.{HasType}
use Rattle.grammar.specs.Marks.{Admit, OneOf}
use Rattle.guide.specs.declared.rules.Need.TheVariants.{Must, Unused}
use Rattle.guide.specs.declared.rules.Kind.TheVariants.{Wrong}
use Rattle.guide.specs.Meaning.{ElementRule, Meaning, Standing}
use Rattle.guide.specs.Asked.{row_at}
use Rattle.placing.specs.Placed.{PlacedSegment, has_row, last_of, since_last}
use Rattle.placing.specs.Structure.{cause_of_segment}
use Rattle.elements.specs.Rules.{value, rule_at}
use Rattle.elements.specs.declared.faults.ElementFault.{ElementFault}
use Rattle.elements.specs.declared.faults.ElementFault.TheVariants.{Segment, EmptyMust, FilledUnused, WrongLength, WrongType, WrongCode, BrokenPair, MissingRow}

-- element e of the segment has this rule; elements count from 1
abbrev pub HasRule : Meaning → PlacedSegment → ℕ → ElementRule → Type 0
HasRule m p e r = (1 ≤ e) × (rule_at m p.1.row e ≡ Some r)

-- element e of the segment is unused: it has no rule, or one that says so
abbrev pub IsUnused : Meaning → PlacedSegment → ℕ → Type 0
IsUnused m p e = (1 ≤ e) × ((rule_at m p.1.row e ≡ None) ⊎ ((r : ElementRule) × (rule_at m p.1.row e ≡ Some r) × (r.rule.need ≡ Unused)))

-- element e of the segment is used and filled, and this is its rule
abbrev pub IsJudged : Meaning → ℕ → PlacedSegment → ℕ → ElementRule → Type 0
IsJudged m separator p e r = HasRule m p e r × (r.rule.need ≢ Unused) × (value separator p e ≢ [])

-- the row of the segment has the pair rule (a, b): if element a is filled, so is element b
abbrev pub HasPair : Meaning → PlacedSegment → ℕ → ℕ → Type 0
HasPair m p a b = (1 ≤ b) × ((s : Standing) × (row_at m p.1.row ≡ Some s) × OneOf s.this.pairs (a, b))

-- The segment p, which follows the segments z, has the fault n at its element e.
pub data ElementFails (m : Meaning) (separator : ℕ) (z : List PlacedSegment) (p : PlacedSegment) : ℕ → ℕ → Type 0 where
  -- a must element is empty
  empty_must : {e : ℕ} (r : ElementRule) → HasRule m p e r → r.rule.need ≡ Must → value separator p e ≡ [] → ElementFails m separator z p 8 e
  -- an unused element is filled
  filled_unused : {e : ℕ} → IsUnused m p e → value separator p e ≢ [] → ElementFails m separator z p 9 e
  -- an element has a length that its rule does not allow
  wrong_length : {e : ℕ} (r : ElementRule) → IsJudged m separator p e r → good_length r.rule.form r.rule.least r.rule.greatest (value separator p e) ≡ false
      → ElementFails m separator z p 10 e
  -- an element is not of its type
  wrong_type : {e : ℕ} (r : ElementRule) → IsJudged m separator p e r → (HasType r.rule.form (value separator p e) → ⊥) → ElementFails m separator z p 11 e
  -- an element is none of its codes
  wrong_code : {e : ℕ} (r : ElementRule) → IsJudged m separator p e r → (Admit r.codes (value separator p e) → ⊥) → ElementFails m separator z p 12 e
  -- the first two elements of BAK, which is row 2, are filled and are a wrong pair
  wrong_pair : p.1.row ≡ 2 → value separator p 1 ≢ [] → value separator p 2 ≢ [] → m.kind (value separator p 1) (value separator p 2) ≡ Wrong → ElementFails m separator z p 12 2
  -- by a pair rule element b has to be filled, and it is empty
  broken_pair : {b : ℕ} (a : ℕ) → HasPair m p a b → value separator p a ≢ [] → value separator p b ≡ [] → ElementFails m separator z p 13 b
  -- SE ends a set that by its BAK has to hold row r, and no segment of the set, from ST to SE, has that row
  missing_row : (b : PlacedSegment) (r : ℕ) → value separator p 0 ≡ codes "SE" → last_of (has_row 2) z ≡ Some b → m.needed (value separator b 2) ≡ Some r
      → AllByRecursion (λ (q : PlacedSegment). q.1.row ≢ r) (since_last (has_row 1) z ++ (p ∷ [])) → ElementFails m separator z p 13 0

-- a fault of an element of segment k, which is p and follows the segments z: it stands at its element
abbrev pub ElementMet : Meaning → ℕ → ℕ → List PlacedSegment → PlacedSegment → Fault → Type 0
ElementMet m separator k z p f = (n e : ℕ) × ElementFails m separator z p n e × (f ≡ fault n k e (element_of_segment separator p.0 e).0)

-- every cause of the three lower layers with its number, layer, segment, element and place
abbrev pub cause_of_element : ElementFault → Fault
cause_of_element (Segment f) = cause_of_segment f
cause_of_element (EmptyMust at) = fault 8 at.segment at.element at.place
cause_of_element (FilledUnused at) = fault 9 at.segment at.element at.place
cause_of_element (WrongLength at) = fault 10 at.segment at.element at.place
cause_of_element (WrongType at) = fault 11 at.segment at.element at.place
cause_of_element (WrongCode at) = fault 12 at.segment at.element at.place
cause_of_element (BrokenPair at) = fault 13 at.segment at.element at.place
cause_of_element (MissingRow segment place) = fault 13 segment 0 place
