-- What a segment does to an interchange, by where that stands and the segment's name.
use Rattle.std.specs.Prelude.{ℕ, Bool, cond, ◌&&◌, List, length, ◌==◌, slice_index}
use Rattle.placing.specs.declared.phase.Phase.{Phase}
use Rattle.placing.specs.declared.phase.Phase.TheVariants.{Start, Header, Group, Set, Closed, Trailer, End}
use Rattle.placing.specs.declared.turn.Turn.{Turn}
use Rattle.placing.specs.declared.turn.Turn.TheVariants.{Isa, FirstGs, NextGs, FirstSt, NextSt, Ge, Iea, Inside, Nowhere}

-- a name is the two bytes, or the three bytes
abbrev pub is2 : List ℕ → ℕ → ℕ → Bool
is2 n a b = length n == 2 && (slice_index n 0 == a && slice_index n 1 == b)

abbrev pub is3 : List ℕ → ℕ → ℕ → ℕ → Bool
is3 n a b c = length n == 3 && (slice_index n 0 == a && (slice_index n 1 == b && slice_index n 2 == c))

-- first ISA; then GS; then ST; in a set its own rows; after SE the next ST, or GE; after GE the next GS, or IEA; then nothing
abbrev pub turn_of : Phase → List ℕ → Turn
turn_of Start n = cond (is3 n 73 83 65) Isa Nowhere
turn_of Header n = cond (is2 n 71 83) FirstGs Nowhere
turn_of Group n = cond (is2 n 83 84) FirstSt Nowhere
turn_of Set n = Inside
turn_of Closed n = cond (is2 n 83 84) NextSt (cond (is2 n 71 69) Ge Nowhere)
turn_of Trailer n = cond (is2 n 71 83) NextGs (cond (is3 n 73 69 65) Iea Nowhere)
turn_of End n = Nowhere
