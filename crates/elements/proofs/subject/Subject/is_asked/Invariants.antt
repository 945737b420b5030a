use Rattle.std.proofs.Common.{◌≡◌, ℕ, ◌<◌, true, ◌&&◌}
use Rattle.x12.specs.Lists.{filled}
use Rattle.x12.specs.Views.{plain}
use Rattle.x12.specs.Elements.{element_of_segment}
use Rattle.guide.specs.Asked.{pairs_in}
use Rattle.elements.proofs.subject.Subject.is_asked.Given as goal

-- none of the elements so far asks for this one
abbrev pub invariant-loop-other : goal.invariant-loop-other
invariant-loop-other g l =
    (a : ℕ) → a < l.other → (pairs_in (g.G.Guide.meaning l.self.guide.now) l.self.row a l.element && filled (element_of_segment l.self.segment.separator (plain l.self.segment) a).1) ≡ true → ⊥
