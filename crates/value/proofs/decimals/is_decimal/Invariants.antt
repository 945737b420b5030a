use Rattle.std.proofs.Common.{◌≡◌, drop}
use Rattle.value.specs.Decimals.{decimal_from, decimal}
use Rattle.value.proofs.decimals.is_decimal.Given as goal

abbrev pub invariant-loop-b : goal.invariant-loop-b
invariant-loop-b l = decimal_from l.first l.point l.digit (drop l.b-index l.v) ≡ decimal l.v
