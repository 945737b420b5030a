use Rattle.std.proofs.Common.{sym, arith, below_more}
use Rattle.std.proofs.lemmas.Bool.{and_parts, both_ways}
use Rattle.x12.specs.Lists.{filled}
use Rattle.x12.specs.Views.{plain}
use Rattle.x12.specs.Elements.{element_of_segment}
use Rattle.guide.specs.Asked.{pairs_in}
use Rattle.elements.proofs.Pairs.{asked, not_paired, none_asks}
use Rattle.elements.proofs.subject.Subject.is_asked.Goals as goal

pub returns-then-not-paired : goal.returns-then-not-paired
returns-then-not-paired g c =
    let s = c.args.self.now in
    sym (not_paired (g.G.Guide.meaning s.guide.now) s.segment.separator s.row (plain s.segment) c.args.element (sym c.if-not-paired.ensures))

pub returns-then-is_asked_by : goal.returns-then-is_asked_by
returns-then-is_asked_by g c =
    let s = c.args.self.now in
    let p = and_parts (pairs_in (g.G.Guide.meaning s.guide.now) s.row c.loop-other.other c.args.element) (filled (element_of_segment s.segment.separator (plain s.segment) c.loop-other.other).1) (sym c.if-is_asked_by.ensures) in
    sym (asked (g.G.Guide.meaning s.guide.now) s.segment.separator s.row (plain s.segment) c.args.element c.loop-other.other p.0 p.1)

pub returns-else-is_asked_by : goal.returns-else-is_asked_by
returns-else-is_asked_by g c =
    let s = c.args.self.now in
    let more = below_more _ _ c.loop-other.invariant (both_ways _ (sym c.if-is_asked_by.ensures)) in
    sym (none_asks (g.G.Guide.meaning s.guide.now) s.segment.separator s.row (plain s.segment) c.args.element s.limit s.limited (λ a h t. more a (omega arith) t))
