-- Elements by the numbers of their segment (from 1) and their own (0 is the segment's name).
use Rattle.std.specs.Prelude.{◌≡◌, ℕ, zero, suc, ◌+◌, ◌-◌, ◌≤◌, ◌≢◌, List, [], ◌∷◌, length, Some, None, Option}
use Rattle.x12.specs.Lists.{nth}
use Rattle.std.specs.List.{between}
use Rattle.x12.specs.Header.{separator_of, Sound}
use Rattle.x12.specs.Segments.{Part, Segment, parts_of, segments_of}

-- the elements of a segment, its name first: the parts between separators
abbrev pub elements_of : ℕ → Segment → List Part
elements_of separator s = parts_of separator s.place s.bytes

-- where the segment's terminator stands, or would
abbrev pub end_of : Segment → ℕ
end_of s = s.place + length s.bytes

-- the part with number n; one that is absent has no bytes, and its place is `stop`
abbrev pub part_at : ℕ → List Part → ℕ → Part
part_at stop [] n = (stop, [])
part_at stop (p ∷ ps) zero = p
part_at stop (p ∷ ps) (suc n) = part_at stop ps n

-- element n of a segment; one that is absent has no bytes, and the place of the terminator
abbrev pub element_of_segment : ℕ → Segment → ℕ → Part
element_of_segment separator s n = part_at (end_of s) (elements_of separator s) n

abbrev pub element_at : ℕ → Option Segment → ℕ → Part
element_at separator None n = (0, [])
element_at separator (Some s) n = element_of_segment separator s n

-- the bytes of element n of segment k, none where it is absent
abbrev pub element_of : List ℕ → ℕ → ℕ → List ℕ
element_of I k n = (element_at (separator_of I) (nth (segments_of I) k) n).1

-- its place: the byte after its separator, the terminator if the segment ends before, the segment's first byte for its name
abbrev pub place_of : List ℕ → ℕ → ℕ → ℕ
place_of I k n = (element_at (separator_of I) (nth (segments_of I) k) n).0

-- a segment's mark is its name with its first element
abbrev pub mark_of : List ℕ → ℕ → List ℕ × List ℕ
mark_of I k = (element_of I k 0, element_of I k 1)

-- these bytes at this place are a part of a whole that stands at `at`
pub record PartOf (whole : List ℕ) (at place : ℕ) (bytes : List ℕ) : Type 0 where
  pub low : at ≤ place
  pub inside : place + length bytes ≤ at + length whole
  pub part : bytes ≡ between (place - at) (place - at + length bytes) whole

-- The answer of a call for element n of segment k, with this place and these bytes: the element is filled, and it is that very part
-- of an interchange that meets none of 1 to 3.
pub record HandedOut (I : List ℕ) (k n place : ℕ) (bytes : List ℕ) : Type 0 where
  pub sound : Sound I
  pub some_byte : bytes ≢ []
  pub value : bytes ≡ element_of I k n
  pub found : place ≡ place_of I k n
  pub inside : place + length bytes ≤ length I
  pub part : bytes ≡ between place (place + length bytes) I
