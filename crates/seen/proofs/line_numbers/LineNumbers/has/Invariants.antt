use Rattle.std.proofs.Common.{map}
use Rattle.seen.specs.Came.{bytes_of}
use Rattle.seen.proofs.Lasts.{up_to}
use Rattle.seen.proofs.Walks.{Walk}
use Rattle.seen.proofs.line_numbers.LineNumbers.has.Given as goal

-- what the walk left behind is not the number
abbrev pub invariant-loop-next : goal.invariant-loop-next
invariant-loop-next l = Walk (map bytes_of l.self-inside.numbers.items) l.number l.next

abbrev pub decreases-loop-next : goal.decreases-loop-next
decreases-loop-next l = up_to l.next
