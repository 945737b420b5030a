use Rattle.std.proofs.Common.{refl}
use Rattle.placing.specs.Stages.{marked, spot_for}
use Rattle.placing.proofs.Promise.{no_place, one_more, begins_now, gives}
use Rattle.placing.proofs.placer.Placer.place.Goals as goal

pub returns-in_err-step : goal.returns-in_err-step
returns-in_err-step g c = λ before old e.
    let m = g.G.Guide.meaning c.args.guide.now in
    rw c.from_residual.ensures
    (no_place m (g.G.Guide.lawful c.args.guide.now) c.args.self.now c.args.segment (marked c.args.mark) before old (c.in_err-step.ensures old.1 old.4), refl)

pub returns : goal.returns
returns g c = λ before old e.
    let m = g.G.Guide.meaning c.args.guide.now in
    let w = g.G.Guide.lawful c.args.guide.now in
    let p = c.args.self.now in
    let n = c.args.segment in
    let mk = marked c.args.mark in
    let step = c.in_ok-step.step in
    let t = c.in_ok-step.ensures old.1 old.4 in
    let new = one_more m w p n mk before old step.placer (spot_for step.placed) t.1.0 e t.0 t.1.1 t.1.2 in (
      begins_now m w p n mk before old step.placer new,
      gives m w p n mk before old (spot_for step.placed) t.1.0 e t.0 t.1.1,
      new,
    )
