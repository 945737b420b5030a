use Rattle.std.proofs.Common.{◌≡◌, ℕ, Some, ◌+◌, List, sym, ap, subst, inl, inr, arith}
use Rattle.placing.specs.declared.phase.Phase.{Phase}
use Rattle.placing.specs.declared.turn.Turn.{Turn}
use Rattle.placing.specs.Turns.{turn_of}
use Rattle.placing.specs.Stages.{marked}
use Rattle.placing.proofs.Turns.{Told, turn_tells}
use Rattle.placing.proofs.Outside.{isa, first_gs, next_gs, no_next_gs, ge, iea, first_st, no_first_st, next_st, no_next_st, nowhere}
use Rattle.placing.proofs.Passing.{passed, begun}
use Rattle.placing.proofs.placer.Placer.next_step.Goals as goal

tells : (p : Phase) (n : List ℕ) (t : Turn) → t ≡ turn_of p n → Told p n t
tells p n t e = subst (Told p n) (sym e) (turn_tells p n)

pub returns-then-self-ge99 : goal.returns-then-self-ge99
returns-then-self-ge99 g c = λ S st.
    let m = g.G.Guide.meaning c.args.guide.now in
    let p = c.args.self.now in
    no_next_gs m (g.G.Guide.lawful c.args.guide.now) (marked c.args.mark) c.args.segment p.phase p.groups p.sets p.set.place p.set.used p.set.depth S
    (tells p.phase c.args.mark.name.now _ c.in-NextGs.ensures) c.if-self-ge99.true st

pub returns-then-self-ge256 : goal.returns-then-self-ge256
returns-then-self-ge256 g c = λ S st.
    let m = g.G.Guide.meaning c.args.guide.now in
    let p = c.args.self.now in
    no_next_st m (g.G.Guide.lawful c.args.guide.now) (marked c.args.mark) c.args.segment p.phase p.groups p.sets p.set.place p.set.used p.set.depth S
    (tells p.phase c.args.mark.name.now _ c.in-NextSt.ensures) (inl c.if-self-ge256.true) st

pub returns-in-Isa : goal.returns-in-Isa
returns-in-Isa g c =
    let m = g.G.Guide.meaning c.args.guide.now in
    let p = c.args.self.now in
    let mk = marked c.args.mark in
    passed m p c.args.segment mk (Some c.pass.result) _ (ap Some c.pass.ensures) (λ S st.
    isa m (g.G.Guide.lawful c.args.guide.now) mk c.args.segment p.phase p.groups p.sets p.set.place p.set.used p.set.depth S
    (tells p.phase c.args.mark.name.now _ c.in-Isa.ensures) st)

pub returns-in-FirstGs : goal.returns-in-FirstGs
returns-in-FirstGs g c =
    let m = g.G.Guide.meaning c.args.guide.now in
    let p = c.args.self.now in
    let mk = marked c.args.mark in
    passed m p c.args.segment mk (Some c.pass-in-FirstGs.result) _ (ap Some c.pass-in-FirstGs.ensures) (λ S st.
    first_gs m (g.G.Guide.lawful c.args.guide.now) mk c.args.segment p.phase p.groups p.sets p.set.place p.set.used p.set.depth S
    (tells p.phase c.args.mark.name.now _ c.in-FirstGs.ensures) st)

pub returns-else-self-ge99 : goal.returns-else-self-ge99
returns-else-self-ge99 g c =
    let m = g.G.Guide.meaning c.args.guide.now in
    let p = c.args.self.now in
    let mk = marked c.args.mark in
    passed m p c.args.segment mk (Some c.pass-in-NextGs.result) _ (ap Some c.pass-in-NextGs.ensures) (λ S st.
    next_gs m (g.G.Guide.lawful c.args.guide.now) mk c.args.segment p.phase p.groups p.sets p.set.place p.set.used p.set.depth S
    (tells p.phase c.args.mark.name.now _ c.in-NextGs.ensures) (omega arith) st)

pub returns-in-FirstSt : goal.returns-in-FirstSt
returns-in-FirstSt g c =
    let m = g.G.Guide.meaning c.args.guide.now in
    let w = g.G.Guide.lawful c.args.guide.now in
    let p = c.args.self.now in
    let mk = marked c.args.mark in
    let t = tells p.phase c.args.mark.name.now _ c.in-FirstSt.ensures in
    begun m p c.args.segment mk c.begin_set.result p.groups 1 c.begin_set.ensures
    (λ f S st. no_first_st m w mk c.args.segment p.phase p.groups p.sets p.set.place p.set.used p.set.depth S t f st)
    (λ f S st vs. first_st m w mk c.args.segment p.phase p.groups p.sets p.set.place p.set.used p.set.depth S t f st vs)

pub returns-else-self-ge256 : goal.returns-else-self-ge256
returns-else-self-ge256 g c =
    let m = g.G.Guide.meaning c.args.guide.now in
    let w = g.G.Guide.lawful c.args.guide.now in
    let p = c.args.self.now in
    let mk = marked c.args.mark in
    let t = tells p.phase c.args.mark.name.now _ c.in-NextSt.ensures in
    begun m p c.args.segment mk c.begin_set-in-NextSt.result p.groups (p.sets + 1) c.begin_set-in-NextSt.ensures
    (λ f S st. no_next_st m w mk c.args.segment p.phase p.groups p.sets p.set.place p.set.used p.set.depth S t (inr f) st)
    (λ f S st vs. next_st m w mk c.args.segment p.phase p.groups p.sets p.set.place p.set.used p.set.depth S t (omega arith) f st vs)

pub returns-in-Ge : goal.returns-in-Ge
returns-in-Ge g c =
    let m = g.G.Guide.meaning c.args.guide.now in
    let p = c.args.self.now in
    let mk = marked c.args.mark in
    passed m p c.args.segment mk (Some c.pass-in-Ge.result) _ (ap Some c.pass-in-Ge.ensures) (λ S st.
    ge m (g.G.Guide.lawful c.args.guide.now) mk c.args.segment p.phase p.groups p.sets p.set.place p.set.used p.set.depth S
    (tells p.phase c.args.mark.name.now _ c.in-Ge.ensures) st)

pub returns-in-Iea : goal.returns-in-Iea
returns-in-Iea g c =
    let m = g.G.Guide.meaning c.args.guide.now in
    let p = c.args.self.now in
    let mk = marked c.args.mark in
    passed m p c.args.segment mk (Some c.pass-in-Iea.result) _ (ap Some c.pass-in-Iea.ensures) (λ S st.
    iea m (g.G.Guide.lawful c.args.guide.now) mk c.args.segment p.phase p.groups p.sets p.set.place p.set.used p.set.depth S
    (tells p.phase c.args.mark.name.now _ c.in-Iea.ensures) st)

pub returns-in-Nowhere : goal.returns-in-Nowhere
returns-in-Nowhere g c = λ S st.
    let m = g.G.Guide.meaning c.args.guide.now in
    let p = c.args.self.now in
    nowhere m (g.G.Guide.lawful c.args.guide.now) (marked c.args.mark) c.args.segment p.phase p.groups p.sets p.set.place p.set.used p.set.depth S
    (tells p.phase c.args.mark.name.now _ c.in-Nowhere.ensures) st
