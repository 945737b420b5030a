-- The faults of the byte layer that an interchange meets, each cause in the words of the rule book.
use Rattle.std.specs.Prelude.{◌≡◌, ℕ, ◌≤◌, false, cond, ◌⊎◌, List, length, nat_le}
use Rattle.std.specs.List.{ContainsAt as Has, AllByRecursion}
use Rattle.x12.specs.declared.faults.Fault.{Fault}
use Rattle.x12.specs.Class.{class_of}
use Rattle.x12.specs.Lists.{Item}
use Rattle.x12.specs.Header.{separator_of, component_of, Sized, Headed, Delimited}
use Rattle.x12.specs.Segments.{Part, Segment, segments_of}
use Rattle.x12.specs.Elements.{elements_of, place_of}
use Rattle.x12.specs.Causes.{fault}

-- s is segment k of the interchange, counted from 1
abbrev pub IsSegment : List ℕ → ℕ → Segment → Type 0
IsSegment I k s = Item 1 (segments_of I) k s

-- p is element e of the segment, whose name is element 0
abbrev pub IsElement : List ℕ → Segment → ℕ → Part → Type 0
IsElement I s e p = Item 0 (elements_of (separator_of I) s) e p

-- a name: two or three bytes of class 1 or 2
abbrev pub Name : List ℕ → Type 0
Name v = (2 ≤ length v) × (length v ≤ 3) × AllByRecursion (λ b. (class_of b ≡ 1) ⊎ (class_of b ≡ 2)) v

-- a byte that no element may hold: one of class 0, or a component separator
abbrev pub Unfit : List ℕ → ℕ → Type 0
Unfit I b = (class_of b ≡ 0) ⊎ (b ≡ component_of I)

-- the interchange has the fault n at segment k and element e
pub data Fails (I : List ℕ) : ℕ → ℕ → ℕ → Type 0 where
  -- the length lies outside 106 to 65,536
  wrong_length : (Sized I → ⊥) → Fails I 1 0 0
  -- no ISA, separators misplaced, or a terminator before byte 105
  wrong_header : (Headed I → ⊥) → Fails I 2 1 0
  -- a delimiter that is not of class 5
  wrong_delimiter : (Delimited I → ⊥) → Fails I 3 1 0
  -- a byte of class 0 or a component separator, outside ISA16
  wrong_byte : {k e : ℕ} (s : Segment) (p : Part) (b : ℕ) → IsSegment I k s → IsElement I s e p → ((k ≡ 1) × (e ≡ 16) → ⊥)
      → Has p.1 b → Unfit I b → Fails I 4 k e
  -- no terminator
  no_terminator : {k : ℕ} (s : Segment) → IsSegment I k s → s.closed ≡ false → Fails I 5 k 0
  -- a bad name
  wrong_name : {k : ℕ} (s : Segment) (p : Part) → IsSegment I k s → IsElement I s 0 p → (Name p.1 → ⊥) → Fails I 5 k 0

-- where a fault stands: the header begins at byte 0, which is the place of 1 to 3; any other fault stands at its element
abbrev pub place_for : List ℕ → ℕ → ℕ → ℕ → ℕ
place_for I n k e = cond (nat_le n 3) 0 (place_of I k e)

-- a fault that the interchange meets: its number, layer, segment, element and place
abbrev pub Met : List ℕ → Fault → Type 0
Met I f = (n k e : ℕ) × Fails I n k e × (f ≡ fault n k e (place_for I n k e))
