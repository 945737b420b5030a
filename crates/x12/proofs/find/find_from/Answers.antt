use Rattle.std.proofs.Common.{rules}
use Rattle.x12.proofs.Finds.{found}
use Rattle.x12.proofs.find.find_from.Goals as goal

pub returns : goal.returns
returns c = found c.args.s.now c.args.from c.first_from.result c.args.b (λ x t k. search rules) c.first_from.ensures
