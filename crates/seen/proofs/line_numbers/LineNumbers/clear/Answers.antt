use Rattle.seen.proofs.Lasts.{linked_none}
use Rattle.seen.proofs.line_numbers.LineNumbers.clear.Goals as goal

pub invariant_of-self : goal.invariant_of-self
invariant_of-self c = rw (c.clear.ensures, c.clear-2.ensures) linked_none
