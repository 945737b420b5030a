use Rattle.std.proofs.Common.{sym, ◌∙◌, arith}
use Rattle.placing.proofs.Asks.{no_row_told, no_row_past, other_depth, row_behind_lem}
use Rattle.placing.proofs.search.row_behind.Goals as goal

pub returns-then-place-ge64 : goal.returns-then-place-ge64
returns-then-place-ge64 g c = no_row_past (g.G.Guide.meaning c.args.guide.now) (g.G.Guide.lawful c.args.guide.now) c.args.place c.args.depth (omega arith)

pub returns-in_err-row : goal.returns-in_err-row
returns-in_err-row g c = rw c.from_residual.ensures (no_row_told (g.G.Guide.meaning c.args.guide.now) c.args.place c.args.depth c.in_err-row.ensures)

pub returns-then-from-depth : goal.returns-then-from-depth
returns-then-from-depth g c = other_depth (g.G.Guide.meaning c.args.guide.now) c.args.place c.args.depth c.in_ok-row.row c.in_ok-row.ensures (λ e. c.if-from-depth.true (c.from.ensures ∙ e))

pub returns : goal.returns
returns g c = row_behind_lem (g.G.Guide.meaning c.args.guide.now) (g.G.Guide.lawful c.args.guide.now) c.args.place c.args.depth c.in_ok-row.row c.in_ok-row.ensures (sym c.from.ensures ∙ c.if-from-depth.false)
