use Rattle.std.proofs.Common.{Bool, false, List, get_or, refl, ap, ◌∙◌, rules}
use Rattle.totals.proofs.Amounts.{none_used}
use Rattle.totals.proofs.tally.Tally.new.Goals as goal

pub returns : goal.returns
returns c = λ m separator.
    let n = c.default.ensures in
    let k = c.default-2.ensures in
    record {
      groups = search (rules, n.0);
      sets = n.1.0;
      lines = n.1.1.0;
      sum = n.1.1.1.0;
      sets_of_group = n.1.1.1.1.0;
      segments_of_set = n.1.1.1.1.1.0;
      set_lines = n.1.1.1.1.1.1.0;
      set_sum = n.1.1.1.1.1.1.1;
      isa13 = k.0;
      gs06 = k.1.0;
      st02 = k.1.1;
      numbers_of_set = c.new.ensures;
      numbers_of_lines = c.new-2.ensures;
      needed = c.new-3.ensures.0;
      used = λ r l. ap (λ (u : List Bool). get_or u r false) c.new-3.ensures.1 ∙ none_used r 256;
      line = refl;
    }
