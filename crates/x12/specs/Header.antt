-- The header: the first 106 bytes of an interchange, which are its ISA segment with the terminator.
use Rattle.std.specs.Prelude.{◌≡◌, ℕ, ◌<◌, ◌≤◌, Bool, not, ◌&&◌, T, List, [], ◌∷◌, length, take, codes, ◌==◌, ◌≢◌, slice_index}
use Rattle.std.specs.Bool.{beq}
use Rattle.x12.specs.Class.{within, class_of}
use Rattle.x12.specs.Lists.{below, among}

-- the delimiters are read from the header
abbrev pub separator_of : List ℕ → ℕ
separator_of I = slice_index I 3

abbrev pub component_of : List ℕ → ℕ
component_of I = slice_index I 104

abbrev pub terminator_of : List ℕ → ℕ
terminator_of I = slice_index I 105

-- the sixteen places of the separator in the header
abbrev pub separator_places : List ℕ
separator_places = 3 ∷ 6 ∷ 17 ∷ 20 ∷ 31 ∷ 34 ∷ 50 ∷ 53 ∷ 69 ∷ 76 ∷ 81 ∷ 83 ∷ 89 ∷ 99 ∷ 101 ∷ 103 ∷ []

-- an interchange has 106 to 65,536 bytes
abbrev pub Sized : List ℕ → Type 0
Sized I = (106 ≤ length I) × (length I ≤ 65536)

-- the header is laid out: it begins with ISA; up to byte 105 the separator stands at its sixteen places and nowhere else;
-- no terminator stands before byte 105
pub record Headed (I : List ℕ) : Type 0 where
  pub name : take 3 I ≡ codes "ISA"
  pub placed : (i : ℕ) → i ≤ 105 → T (among i separator_places) → slice_index I i ≡ separator_of I
  pub nowhere_else : (i : ℕ) → i ≤ 105 → slice_index I i ≡ separator_of I → T (among i separator_places)
  pub unended : (i : ℕ) → i < 105 → slice_index I i ≢ terminator_of I

-- each delimiter is of class 5
pub record Delimited (I : List ℕ) : Type 0 where
  pub separator : class_of (separator_of I) ≡ 5
  pub component : class_of (component_of I) ≡ 5
  pub terminator : class_of (terminator_of I) ≡ 5

-- the file meets none of 1 to 3
abbrev pub Sound : List ℕ → Type 0
Sound I = Sized I × Headed I × Delimited I

-- The same three as tests, which compute.
abbrev pub sized : List ℕ → Bool
sized I = within 106 65536 (length I)

-- a byte b at place i is no terminator, and it is the separator exactly where that has its place
abbrev pub placed : ℕ → ℕ → ℕ → ℕ → Bool
placed separator terminator i b = not (b == terminator) && beq (b == separator) (among i separator_places)

abbrev pub placed_at : List ℕ → ℕ → Bool
placed_at I i = placed (separator_of I) (terminator_of I) i (slice_index I i)

abbrev pub named : List ℕ → Bool
named I = slice_index I 0 == 73 && (slice_index I 1 == 83 && slice_index I 2 == 65)

unfoldable pub layout_holds : List ℕ → Bool
layout_holds I = below (placed_at I) 105

abbrev pub headed : List ℕ → Bool
headed I = named I && layout_holds I

abbrev pub delimited : List ℕ → Bool
delimited I = class_of (separator_of I) == 5 && (class_of (component_of I) == 5 && class_of (terminator_of I) == 5)
