-- The byte layer as a check that computes: the first fault in the order of judging, or none.
use Rattle.std.specs.Prelude.{ℕ, Bool, cond, not, ◌&&◌, ◌||◌, List, length, Ok, Err, Result, ◌==◌}
use Rattle.x12.specs.declared.faults.Fault.{Fault}
use Rattle.x12.specs.Class.{within, class_of}
use Rattle.std.specs.List.{list_all, list_any}
use Rattle.x12.specs.Lists.{and_then, each}
use Rattle.x12.specs.Header.{separator_of, component_of, sized, headed, delimited}
use Rattle.x12.specs.Segments.{Part, Segment, segments_of}
use Rattle.x12.specs.Elements.{elements_of}
use Rattle.x12.specs.Causes.{fault}

-- 1, else 2, else 3
abbrev pub header_check : List ℕ → Result (Unit {0}) Fault
header_check I =
    cond (sized I) (cond (headed I) (cond (delimited I) (Ok tt) (Err (fault 3 1 0 0))) (Err (fault 2 1 0 0))) (Err (fault 1 0 0 0))

-- no element but ISA16 holds such a byte
abbrev pub bad_byte : ℕ → ℕ → Bool
bad_byte component b = class_of b == 0 || b == component

-- a name has two or three bytes of class 1 or 2
abbrev pub name_byte : ℕ → Bool
name_byte b = within 1 2 (class_of b)

abbrev pub good_name : List ℕ → Bool
good_name v = within 2 3 (length v) && list_all name_byte v

-- element 16 of the first segment holds the component separator itself
abbrev pub is_isa16 : ℕ → ℕ → Bool
is_isa16 k e = k == 1 && e == 16

-- 4, else 5, of element e of segment k, where `bad` says whether some byte of it is bad
abbrev pub part_judged : Bool → ℕ → Bool → ℕ → Part → Result (Unit {0}) Fault
part_judged bad k closed e p =
    cond (not (is_isa16 k e) && bad) (Err (fault 4 k e p.0))
    (cond (e == 0 && (not closed || not (good_name p.1))) (Err (fault 5 k 0 p.0)) (Ok tt))

abbrev pub part_check : ℕ → ℕ → Bool → ℕ → Part → Result (Unit {0}) Fault
part_check component k closed e p = part_judged (list_any (bad_byte component) p.1) k closed e p

-- the elements of segment k in order
abbrev pub segment_check : ℕ → ℕ → ℕ → Segment → Result (Unit {0}) Fault
segment_check separator component k s = each (part_check component k s.closed) 0 (elements_of separator s)

-- the header, and then the segments in order; the number of segments where no fault is found
abbrev pub bytes_check : List ℕ → Result ℕ Fault
bytes_check I =
    and_then (header_check I)
    (λ u. and_then (each (segment_check (separator_of I) (component_of I)) 1 (segments_of I)) (λ v. Ok (length (segments_of I))))
