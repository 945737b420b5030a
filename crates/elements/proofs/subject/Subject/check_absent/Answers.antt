use Rattle.std.proofs.Common.{◌+◌, ◌≤◌, [], length, sym, ◌∙◌, arith}
use Rattle.std.proofs.lemmas.Result.{err_from_is_err_and}
use Rattle.x12.specs.Segments.{Part}
use Rattle.x12.specs.Views.{plain}
use Rattle.x12.proofs.Turns.{each_stop, each_on}
use Rattle.elements.specs.Checks.{element_check}
use Rattle.elements.proofs.Walks.{copies_next}
use Rattle.elements.proofs.subject.Subject.check_absent.Goals as goal

pub returns-in_err-check_element : goal.returns-in_err-check_element
returns-in_err-check_element g c =
    let s = c.args.self.now in
    let none : Part = (s.segment.place + length s.segment.bytes.now, []) in
    let l : c.loop-number.number ≤ s.limit = omega (arith, c.from-limit.ensures, c.loop-number-test.true) in
    let p = err_from_is_err_and c.from_residual.result c.from_residual.ensures.1 in
    rw (p.1, p.2)
    (sym c.loop-number.invariant
    ∙ each_stop (element_check (g.G.Guide.meaning s.guide.now) s.segment.separator s.segment.number s.row (plain s.segment)) c.loop-number.number none _ _ _ (copies_next s.limit c.loop-number.number none l) c.in_err-check_element.ensures)

pub loop-number-preserved : goal.loop-number-preserved
loop-number-preserved g c =
    let s = c.args.self.now in
    let none : Part = (s.segment.place + length s.segment.bytes.now, []) in
    let l : c.loop-number.number ≤ s.limit = omega (arith, c.from-limit.ensures, c.loop-number-test.true) in
    sym (each_on (element_check (g.G.Guide.meaning s.guide.now) s.segment.separator s.segment.number s.row (plain s.segment)) c.loop-number.number none _ _ _ (copies_next s.limit c.loop-number.number none l) c.in_ok-check_element.ensures)
    ∙ c.loop-number.invariant
