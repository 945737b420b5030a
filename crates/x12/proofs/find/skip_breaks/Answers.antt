use Rattle.std.proofs.Common.{rules}
use Rattle.x12.proofs.Finds.{passed}
use Rattle.x12.proofs.find.skip_breaks.Goals as goal

pub returns : goal.returns
returns c = passed c.args.s.now c.args.from c.first_from.result (λ x t k. search rules) c.first_from.ensures
