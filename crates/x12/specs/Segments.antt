-- Segments and their parts, each with its place in the interchange.
use Rattle.std.specs.Prelude.{◌≡◌, ℕ, suc, ◌+◌, ◌≤◌, Bool, true, false, cond, ◌||◌, List, [], ◌∷◌, length, drop, ◌==◌}
use Rattle.std.specs.List.{between}
use Rattle.x12.specs.Lists.{filled}
use Rattle.x12.specs.Header.{terminator_of}

-- a part of the interchange: its place and its bytes
abbrev pub Part : Type 0
Part = ℕ × List ℕ

-- one more byte in front of the first part
abbrev pub push : ℕ → ℕ → List Part → List Part
push at x [] = []
push at x (p ∷ ps) = (at, x ∷ p.1) ∷ ps

-- the parts between the bytes that equal `mark`, where the first byte stands at `at`; there is always one
abbrev pub parts_of : ℕ → ℕ → List ℕ → List Part
parts_of mark at [] = (at, []) ∷ []
parts_of mark at (x ∷ xs) =
    let more = parts_of mark (suc at) xs in
    cond (x == mark) ((at, []) ∷ more) (push at x more)

-- a segment: its place, its bytes without the terminator, and whether a terminator ends it
pub record Segment : Type 0 where
  pub place : ℕ
  pub bytes : List ℕ
  pub closed : Bool

abbrev pub segment : Part → Bool → Segment
segment p t = record { place = p.0; bytes = p.1; closed = t }

-- bytes 13 and 10 are line breaks
abbrev pub is_break : ℕ → Bool
is_break b = b == 13 || b == 10

-- a part without the line breaks at its start
abbrev pub unbroken : ℕ → List ℕ → Part
unbroken at [] = (at, [])
unbroken at (x ∷ xs) = let more = unbroken (suc at) xs in cond (is_break x) more (at, x ∷ xs)

-- the segments of the parts between terminators: each is freed of the line breaks at its start;
-- the last part has no terminator, and is no segment if nothing is left of it
abbrev pub segments : List Part → List Segment
segments [] = []
segments (p ∷ []) = let s = unbroken p.0 p.1 in cond (filled s.1) (segment s false ∷ []) []
segments (p ∷ q ∷ ps) = let s = unbroken p.0 p.1 in segment s true ∷ segments (q ∷ ps)

-- the segments from byte `at` of the interchange on
abbrev pub segments_from : ℕ → ℕ → List ℕ → List Segment
segments_from terminator at I = segments (parts_of terminator at (drop at I))

-- the segments of an interchange: a segment runs to the next terminator, line breaks after a terminator are skipped,
-- and what is left without a terminator is a last segment
abbrev pub segments_of : List ℕ → List Segment
segments_of I = segments (parts_of (terminator_of I) 0 I)

-- the segment with this place, these bytes and this end is the first from byte `at` on: that very part of the interchange
pub record FirstFrom (I : List ℕ) (terminator at place : ℕ) (bytes : List ℕ) (closed : Bool) : Type 0 where
  pub low : at ≤ place
  pub inside : place + length bytes ≤ length I
  pub part : bytes ≡ between place (place + length bytes) I
  pub next : segments_from terminator at I ≡ segment (place, bytes) closed ∷ segments_from terminator (place + length bytes + 1) I
