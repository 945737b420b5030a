use Rattle.std.proofs.Common.{◌≡◌, ◌++◌, map, take, drop}
use Rattle.results.specs.Steps.{close_by}
use Rattle.results.proofs.close.close_loops.Given as goal

abbrev pub invariant-loop-row : goal.invariant-loop-row
invariant-loop-row l = l.loops ≡ map (close_by l.segments) (take l.row-index l.initial.loops) ++ drop l.row-index l.initial.loops
