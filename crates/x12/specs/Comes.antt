-- What comes from the iterators over segments and over elements.
use Rattle.std.specs.Prelude.{◌≡◌, ℕ, suc, ◌+◌, ◌-◌, ◌≤◌, List, [], ◌∷◌, length, drop, Some, None, Option, IfSome, MatchOption}
use Rattle.x12.specs.declared.parts.Element.{Element}
use Rattle.x12.specs.declared.parts.Segment.{Segment}
use Rattle.x12.specs.declared.elements.Elements.{Elements}
use Rattle.x12.specs.declared.segments.Segments.{Segments}
use Rattle.x12.specs.Segments.{Part, parts_of, segments_from, FirstFrom}
use Rattle.x12.specs.Elements.{PartOf}

-- The next segment is the first from byte `at` on, with the next number and the delimiters of the interchange, and the others come from behind its
-- terminator on. None comes where no segment is left.
pub record NextSegment (s : Segments) (x : Segment) (t : Segments) : Type 0 where
  pub first : FirstFrom s.interchange.bytes.now s.interchange.delimiters.terminator s.at x.place x.bytes.now x.closed
  pub numbered : x.number ≡ suc s.count
  pub separated : x.separator ≡ s.interchange.delimiters.separator
  pub component : x.component ≡ s.interchange.delimiters.component
  pub same : t.interchange ≡ s.interchange
  pub behind : t.at ≡ x.place + length x.bytes.now + 1
  pub counted : t.count ≡ x.number

abbrev pub SegmentComes : Segments → Option Segment → Segments → Type 0
SegmentComes s r t = MatchOption r (segments_from s.interchange.delimiters.terminator s.at s.interchange.bytes.now ≡ []) (λ x. NextSegment s x t)

-- the elements from byte `at` of a segment on, if there are any
abbrev pub parts_from : Segment → Option ℕ → List Part
parts_from s None = []
parts_from s (Some at) = parts_of s.separator (s.place + at) (drop at s.bytes.now)

-- The next element is the first of those left, with the next number, and the others, if there are any, come behind it. None comes where no element is left.
pub record NextElement (s : Elements) (x : Element) (t : Elements) : Type 0 where
  pub first : parts_from s.segment s.at ≡ (x.place, x.bytes.now) ∷ parts_from s.segment t.at
  pub part : PartOf s.segment.bytes.now s.segment.place x.place x.bytes.now
  pub numbered : x.number ≡ s.number
  pub same : t.segment ≡ s.segment
  pub counted : t.number ≤ suc s.number
  pub followed : IfSome t.at (λ _. t.number ≡ suc s.number)

abbrev pub ElementComes : Elements → Option Element → Elements → Type 0
ElementComes s r t = MatchOption r (parts_from s.segment s.at ≡ []) (λ x. NextElement s x t)

-- how many bytes are left, and one more for the end; nothing behind the last element
abbrev pub left_from : ℕ → Option ℕ → ℕ
left_from n None = 0
left_from n (Some at) = n + 1 - at

abbrev pub element_room : Elements → ℕ
element_room s = left_from (length s.segment.bytes.now) s.at
