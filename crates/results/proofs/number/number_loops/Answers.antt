use Rattle.std.proofs.Common.{arith}
use Rattle.results.proofs.Numbering.{none_numbered, inside_on, opening_on}
use Rattle.results.proofs.number.number_loops.Goals as goal

pub loop-i-init : goal.loop-i-init
loop-i-init c = λ z n s l. none_numbered z c.args.segments.now c.args.loops.now s l

pub loop-i-preserved-then-not-opens : goal.loop-i-preserved-then-not-opens
loop-i-preserved-then-not-opens c = λ z n s l.
    inside_on z c.loop-i.i c.loop-i.opened c.loop-i.segments c.loop-i.loops (c.loop-i.invariant z n s l) c.loop_at-outer.result
    (omega arith) n (c.loop_at-outer.ensures.none, c.loop_at-outer.ensures.some) c.if-not-opens.ensures

pub loop-i-preserved : goal.loop-i-preserved
loop-i-preserved c = λ z n s l.
    opening_on z c.loop-i.i c.loop-i.opened c.loop-i.segments c.loop-i.loops (c.loop-i.invariant z n s l) c.loop_at-outer.result
    (omega arith) n (c.loop_at-outer.ensures.none, c.loop_at-outer.ensures.some) c.if-not-opens.ensures
