-- The rules that hold for the elements of a row, of the envelope or of the guide.
use Rattle.std.specs.Prelude.{ℕ, max, Bool, cond, ◌&&◌, List, Some, None, Option, ◌==◌, nat_le}
use Rattle.x12.specs.Lists.{filled}
use Rattle.x12.specs.Segments.{Segment}
use Rattle.x12.specs.Elements.{element_of_segment}
use Rattle.guide.specs.declared.rules.Row.{Row}
use Rattle.guide.specs.Meaning.{ElementRule, Meaning}
use Rattle.guide.specs.Asked.{row_at, row_of, test, find_rule, element_at, any_pair}
use Rattle.placing.specs.Placed.{PlacedSegment}
use Rattle.elements.specs.Envelope.{envelope_rules}

-- the bytes of element e of a segment, none where it is absent
abbrev pub value : ℕ → PlacedSegment → ℕ → List ℕ
value separator p e = (element_of_segment separator p.0 e).1

-- the rule of element e of row r; rows from 65 on are those of the envelope
abbrev pub rule_at : Meaning → ℕ → ℕ → Option ElementRule
rule_at m r e = let envelope = find_rule e (envelope_rules m r) in let guide = element_at m r e in cond (nat_le 65 r) envelope guide

-- the greatest number of an element that some rule of row r names, or more
abbrev pub told_elements : Option Row → ℕ
told_elements None = 0
told_elements (Some row) = row.elements

abbrev pub limit_at : Meaning → ℕ → ℕ
limit_at m r = max (told_elements (row_of m r)) (cond (nat_le 65 r) 16 0)

-- some pair rule (a, e) of row r has an element a that is filled in the segment
abbrev pub asks_for : Meaning → ℕ → ℕ → Segment → ℕ → Bool
asks_for m separator r s e =
    test (λ row. any_pair (λ q. (e == q.1) && filled (element_of_segment separator s q.0).1) row.this.pairs) (row_at m r)
