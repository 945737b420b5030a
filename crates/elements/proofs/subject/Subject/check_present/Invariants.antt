use Rattle.std.proofs.Common.{◌≡◌, suc, ◌+◌, length, IfSome}
use Rattle.x12.specs.Lists.{each}
use Rattle.x12.specs.Views.{plain}
use Rattle.x12.specs.Comes.{parts_from}
use Rattle.elements.specs.Checks.{present, element_check}
use Rattle.elements.proofs.subject.Subject.check_present.Given as goal

-- what is left to check is what comes behind the last
abbrev pub invariant-loop-element : goal.invariant-loop-element
invariant-loop-element g l =
    let s = l.self in
    let it = l.element-iterator in
    let check = element_check (g.G.Guide.meaning s.guide.now) s.segment.separator s.segment.number s.row (plain s.segment) in
    let left = parts_from s.segment it.at in
    (it.segment ≡ s.segment) × IfSome it.at (λ _. it.number ≡ suc l.last)
    × (each check (suc l.last) left ≡ each check 1 (present s.segment.separator (plain s.segment)))
    × (l.last + length left ≡ length (present s.segment.separator (plain s.segment)))
