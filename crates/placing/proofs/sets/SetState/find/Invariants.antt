use Rattle.std.proofs.Common.{◌+◌, ◌-◌, ◌≤◌}
use Rattle.grammar.proofs.States.{State}
use Rattle.grammar.proofs.Search.{Searching}
use Rattle.placing.specs.Model.{table_of, least_of, greatest_of, below, Fits, Stands}
use Rattle.placing.proofs.sets.SetState.find.Given as goal

abbrev pub invariant-loop-row : goal.invariant-loop-row
invariant-loop-row g l =
    let m = g.G.Guide.meaning l.guide in
    (l.depth ≤ l.self.depth)
    × ((S : State) → Stands m l.self.place l.self.used l.self.depth S → Searching (table_of m) (least_of m) (greatest_of m) (Fits m) (l.mark.name.now, l.mark.first.now) S l.place (below l.self.used l.depth))

abbrev pub decreases-loop-row : goal.decreases-loop-row
decreases-loop-row g l = (256 - l.place) + l.depth
