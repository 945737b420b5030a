use Rattle.std.proofs.Common.{◌≡◌, length, IfSome, sym, ap, ◌∙◌, subst, zero-add}
use Rattle.x12.specs.Lists.{each}
use Rattle.x12.specs.Views.{plain}
use Rattle.x12.specs.Comes.{parts_from}
use Rattle.elements.specs.Checks.{element_check}
use Rattle.elements.proofs.Walks.{behind_name}
use Rattle.elements.proofs.subject.Subject.check_present.Goals as goal

pub loop-element-init : goal.loop-element-init
loop-element-init g c =
    let s = c.args.self.now in
    let e = c.elements-elements.ensures in
    let h = behind_name s.segment c.next-name.result c.elements-elements.result c.next-name.new.self e.0 e.1 e.2 c.next-name.ensures.steps in
    let it = c.into_iter-element-iterator.result in
    let q = c.into_iter-element-iterator.ensures.into_iter_gives in
    let check = element_check (g.G.Guide.meaning s.guide.now) s.segment.separator s.segment.number s.row (plain s.segment) in
    let left = h.2 ∙ (λ i. parts_from s.segment (sym q i).at) in (
      ap (λ y. y.segment) q ∙ h.0,
      subst (λ y. IfSome y.at (λ _. y.number ≡ 1)) (sym q) h.1,
      ap (each check 1) (sym left),
      zero-add (length (parts_from s.segment it.at)) ∙ ap length (sym left),
    )
