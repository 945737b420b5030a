use Rattle.std.proofs.Common.{Bool, cond, Ok, Err, sym, ap, ◌∙◌, arith}
use Rattle.x12.specs.Views.{plain}
use Rattle.x12.specs.Causes.{fault}
use Rattle.elements.specs.Checks.{first_of}
use Rattle.elements.specs.Limits.{tests_with}
use Rattle.elements.specs.Fails.{cause_of_element}
use Rattle.elements.proofs.Tested.{tests_by, past_limit, answers_same}
use Rattle.elements.proofs.subject.Subject.check_element.Goals as goal

pub returns-then-element-from : goal.returns-then-element-from
returns-then-element-from g c =
    let s = c.args.self.now in
    let x = c.args.element in
    answers_same cause_of_element c.check_named.result _ _
    ((λ i. first_of (c.site-at.ensures i).segment (c.site-at.ensures i).element (c.site-at.ensures i).place (tests_with (g.G.Guide.meaning s.guide.now) s.segment.separator s.row (plain s.segment) x.number x.bytes.now))
    ∙ ap (first_of s.segment.number x.number x.place) (tests_by (g.G.Guide.meaning s.guide.now) s.segment.separator s.row (plain s.segment) x.number x.bytes.now))
    c.check_named.ensures

pub returns-then-is_filled : goal.returns-then-is_filled
returns-then-is_filled g c =
    let s = c.args.self.now in
    let x = c.args.element in
    past_limit (g.G.Guide.meaning s.guide.now) s.segment.separator s.segment.number s.row (plain s.segment) x.number x.place x.bytes.now (omega (arith, c.from.ensures, c.if-element-from.false, s.limited))
    ∙ ap (λ (b : Bool). cond b (Err (fault 9 s.segment.number x.number x.place)) (Ok tt)) (sym c.if-is_filled.ensures)
    ∙ (λ i. Err (fault 9 (sym c.site-at.ensures i).segment (sym c.site-at.ensures i).element (sym c.site-at.ensures i).place))

pub returns : goal.returns
returns g c =
    let s = c.args.self.now in
    let x = c.args.element in
    past_limit (g.G.Guide.meaning s.guide.now) s.segment.separator s.segment.number s.row (plain s.segment) x.number x.place x.bytes.now (omega (arith, c.from.ensures, c.if-element-from.false, s.limited))
    ∙ ap (λ (b : Bool). cond b (Err (fault 9 s.segment.number x.number x.place)) (Ok tt)) (sym c.if-is_filled.ensures)
