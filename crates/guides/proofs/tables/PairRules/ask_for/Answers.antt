use Rattle.std.proofs.Common.{sym, ◌∙◌}
use Rattle.guides.proofs.Bits.{no_second}
use Rattle.guides.proofs.tables.PairRules.ask_for.Goals as goal

pub returns-else-has_bit : goal.returns-else-has_bit
returns-else-has_bit c =
    let s = c.args.self.now in
    c.if-has_bit.false ∙ sym (no_second s.firsts s.seconds c.args.b s.list.now c.requires (sym c.has_bit.ensures ∙ c.if-has_bit.false))
