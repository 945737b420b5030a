use Rattle.std.proofs.Common.{◌<◌, length, get_or, set, ap, ◌∙◌, arith}
use Rattle.results.specs.declared.rows.LoopRow.{LoopRow}
use Rattle.results.specs.Steps.{close_by}
use Rattle.results.proofs.Closing.{closes_more, next_row}
use Rattle.results.proofs.close.close_loops.Goals as goal

pub loop-row-preserved : goal.loop-row-preserved
loop-row-preserved c =
    let f : LoopRow → LoopRow = close_by c.args.segments.now in
    let none : LoopRow = record { opening = 0; last = 0; outer = 0; row = 0 } in
    let old = c.args.loops.now in
    let i = c.loop-row.row-index in
    let l : c.loop-row.row-index < length c.args.loops.now = omega arith in
    let x : LoopRow = get_or c.loop-row.loops c.loop-row.row-index none in
    ap (λ (n : _). set c.loop-row.loops c.loop-row.row-index (record { opening = x.opening; last = n; outer = x.outer; row = x.row })) c.last_segment-row.ensures
    ∙ ap (λ (y : LoopRow). set c.loop-row.loops c.loop-row.row-index (f y)) (next_row f c.loop-row.loops old c.loop-row.row-index none l c.loop-row.invariant)
    ∙ closes_more f c.loop-row.loops old c.loop-row.row-index none l c.loop-row.invariant
