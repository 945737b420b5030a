-- What a refusal says, and the causes of the byte layer.
use Rattle.std.specs.Prelude.{ℕ, cond, nat_le}
use Rattle.x12.specs.declared.faults.Fault.{Fault}
use Rattle.x12.specs.declared.faults.ByteFault.{ByteFault}
use Rattle.x12.specs.declared.faults.ByteFault.TheVariants.{WrongLength, WrongHeader, WrongDelimiter, WrongByte, WrongSegment}

-- layer 1 has the refusals 1 to 5, layer 2 has 6 and 7, layer 3 has 8 to 13, layer 4 has 14 to 17, layer 5 has 18 to 22, layer 6 has 23
abbrev pub layer_of : ℕ → ℕ
layer_of n = cond (nat_le n 5) 1 (cond (nat_le n 7) 2 (cond (nat_le n 13) 3 (cond (nat_le n 17) 4 (cond (nat_le n 22) 5 6))))

-- the refusal n at segment k, element e and a place
abbrev pub fault : ℕ → ℕ → ℕ → ℕ → Fault
fault n k e place = record { number = n; layer = layer_of n; segment = k; element = e; place = place }

-- every cause of the byte layer with its number, layer, segment, element and place
abbrev pub cause_of : ByteFault → Fault
-- the length lies outside 106 to 65,536
cause_of WrongLength = fault 1 0 0 0
-- no ISA, separators misplaced, or a terminator before byte 105
cause_of WrongHeader = fault 2 1 0 0
-- a delimiter that is not of class 5
cause_of WrongDelimiter = fault 3 1 0 0
-- a byte of class 0 or a component separator, outside ISA16
cause_of (WrongByte at) = fault 4 at.segment at.element at.place
-- no terminator, or a bad name
cause_of (WrongSegment segment place) = fault 5 segment 0 place
