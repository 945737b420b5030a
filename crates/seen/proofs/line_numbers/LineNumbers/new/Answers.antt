use Rattle.seen.proofs.Lasts.{linked_none}
use Rattle.seen.proofs.line_numbers.LineNumbers.new.Goals as goal

pub invariant_of-result : goal.invariant_of-result
invariant_of-result c = rw (c.new-numbers.ensures, c.new-older.ensures) linked_none
