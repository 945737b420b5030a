use Rattle.std.proofs.Common.{arith}
use Rattle.results.proofs.Filling.{all_filled}
use Rattle.results.proofs.fill.fill.Goals as goal

pub returns : goal.returns
returns g c = λ z fit.
    all_filled fit (c.write_rows-counts.ensures.begun z fit) c.write_rows-counts.result.segments c.write_rows-counts.result.loops
    c.close_loops.new.loops c.number_loops.new.loops c.number_loops.new.segments (omega arith) (omega arith) c.close_loops.ensures c.number_loops.ensures
