use Rattle.std.proofs.Common.{◌≡◌, suc, ◌+◌, ◌-◌, [], length, replicate}
use Rattle.x12.specs.Lists.{each}
use Rattle.x12.specs.Segments.{Part}
use Rattle.x12.specs.Views.{plain}
use Rattle.elements.specs.Checks.{element_check}
use Rattle.elements.proofs.subject.Subject.check_absent.Given as goal

-- what is left to check are the copies up to the limit
abbrev pub invariant-loop-number : goal.invariant-loop-number
invariant-loop-number g l =
    let s = l.self in
    let none : Part = (s.segment.place + length s.segment.bytes.now, []) in
    let check = element_check (g.G.Guide.meaning s.guide.now) s.segment.separator s.segment.number s.row (plain s.segment) in
    each check l.number (replicate (suc s.limit - l.number) none) ≡ each check (suc l.last) (replicate (s.limit - l.last) none)
