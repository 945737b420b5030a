use Rattle.std.proofs.Common.{rules}
use Rattle.results.proofs.Numbering.{opened_there}
use Rattle.results.proofs.number.opens.Goals as goal

pub returns : goal.returns
returns c = opened_there c.args.loops.now c.args.next c.args.number c.get.result c.is_some_and.result c.get.ensures.lookup (search rules)
