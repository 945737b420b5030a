use Rattle.std.proofs.Common.{◌≡◌, ◌&&◌, eqb, codes, sym, refl, ◌∙◌}
use Rattle.std.specs.Str.{bytes_eq}
use Rattle.x12.specs.Lists.{filled}
use Rattle.x12.specs.Views.{plain}
use Rattle.x12.specs.Elements.{element_of_segment}
use Rattle.placing.specs.Stages.{spot_for}
use Rattle.placing.specs.Placed.{PlacedSegment}
use Rattle.elements.specs.Rules.{value}
use Rattle.elements.proofs.Tested.{answers_same}
use Rattle.seen.specs.Came.{came_before}
use Rattle.seen.specs.ControlNumbers.{numbers_of as control_numbers_of}
use Rattle.seen.specs.LineNumbers.{numbers_of as line_numbers_of}
use Rattle.totals.specs.Fails.{cause_of_totals}
use Rattle.totals.specs.Steps.{counted_by, sum_by_name, differs, is_unlike_close}
use Rattle.totals.specs.Keeps.{repeated_by, unlike_control, totals_by}
use Rattle.totals.proofs.Ties.{checked_by}
use Rattle.totals.proofs.tally.Tally.check.Goals as goal

pub returns : goal.returns
returns g c = λ z is.
    let m = g.G.Guide.meaning c.args.guide.now in
    let seg = c.args.segment.now in
    let x = seg.separator in
    let t = c.args.self.now in
    let s = plain seg in
    let p : PlacedSegment = (s, spot_for c.args.placed) in
    let name : c.bytes_of-name.result.now ≡ value x p 0 = c.bytes_of-name.ensures in
    let first : (c.part-first.result.place, c.part-first.result.bytes.now) ≡ element_of_segment x s 1 = sym c.part-first.ensures.0 in
    let second : (c.part-second.result.place, c.part-second.result.bytes.now) ≡ element_of_segment x s 2 = sym c.part-second.ensures.0 in
    answers_same cause_of_totals c.judge.result _ _
    ((λ i. totals_by seg.number seg.place (m.held && is_unlike_close t.line c.args.placed.outer)
    (first i).0 (differs (counted_by t.counts c.args.placed.row (name i)) (first i).1) (bytes_eq (name i) (codes "PO1") && came_before (first i).1 (line_numbers_of t.line_numbers))
    (second i).0 (unlike_control (repeated_by t.controls.isa13.now t.controls.gs06.now t.controls.st02.now c.args.placed.row (name i)) (second i).1)
    (filled (second i).1 && differs (sum_by_name t.counts (name i)) (second i).1) (eqb c.args.placed.row 1 && came_before (second i).1 (control_numbers_of t.set_numbers)))
    ∙ checked_by m x z p t is seg.number seg.place refl)
    c.judge.ensures
