use Rattle.std.proofs.Common.{◌≡◌}
use Rattle.x12.specs.Lists.{each}
use Rattle.x12.specs.Views.{plain}
use Rattle.x12.specs.Comes.{parts_from}
use Rattle.x12.specs.Checks.{part_check, segment_check}
use Rattle.x12.proofs.parts.Segment.check_in_turn.Given as goal

abbrev pub invariant-loop-element : goal.invariant-loop-element
invariant-loop-element l =
    (l.element-iterator.segment ≡ l.self)
    × (each (part_check l.self.component l.self.number l.self.closed) l.element-iterator.number (parts_from l.self l.element-iterator.at)
    ≡ segment_check l.self.separator l.self.component l.self.number (plain l.self))
