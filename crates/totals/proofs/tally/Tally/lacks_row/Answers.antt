use Rattle.std.proofs.Common.{sym, ◌∙◌}
use Rattle.totals.specs.Keeps.{lacks_by}
use Rattle.totals.proofs.Ties.{lacks_by_lem}
use Rattle.totals.proofs.tally.Tally.lacks_row.Goals as goal

pub returns : goal.returns
returns c = λ m separator z p is row name.
    c.lacks.ensures
    ∙ (λ i. lacks_by c.args.self.now.rows.needed c.args.self.now.rows.used (sym row i) (sym name i))
    ∙ lacks_by_lem m separator z p c.args.self.now is c.args.self.now.rows.small
