use Rattle.std.proofs.Common.{sym, refl, subst}
use Rattle.x12.proofs.Nth.{Found, nth_element}
use Rattle.x12.proofs.parts.Segment.part.Goals as goal

pub returns : goal.returns
returns c =
    let z = c.args.self.now in
    let e = c.elements.ensures in
    subst (Found z c.args.number) (sym c.unwrap_or.ensures) (nth_element z c.args.number c.elements.result c.nth.result c.nth.new.self _ e.0 e.1 e.2 c.nth.ensures.ran refl refl refl)
