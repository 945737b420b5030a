use Rattle.std.proofs.Common.{◌≡◌, ℕ, suc, ◌-◌, ◌<◌, ◌≤◌, get_or, drop, sym, subst, inl, inr, arith}
use Rattle.grammar.proofs.Search.{NoRowOfDepth}
use Rattle.placing.specs.Model.{table_of, blank}
use Rattle.placing.proofs.Finds.{Search, opens_is, depth_is, takes, stops_at_row, skips, takes_again, leaves, stops_at_used, ends}
use Rattle.placing.proofs.sets.SetState.find.Goals as goal
use Rattle.placing.proofs.sets.SetState.find.Goals.{else-used-uses-via-then-used-uses+else-fits-2, else-used-uses-via-else-used-uses}

pub returns-then-fits : goal.returns-then-fits
returns-then-fits g c =
    let m = g.G.Guide.meaning c.args.guide.now in
    λ S t. (
      c.loop-row.invariant.0,
      sym c.if-fits.ensures,
      opens_is m c.args.self.now.used (c.args.mark.name.now, c.args.mark.first.now) S c.loop-row.place c.loop-row.depth c.in-Some.row c.in-Some.ensures,
      depth_is m c.args.self.now.used (c.args.mark.name.now, c.args.mark.first.now) S c.loop-row.place c.loop-row.depth c.in-Some.row c.in-Some.ensures,
      takes m c.args.self.now.used (c.args.mark.name.now, c.args.mark.first.now) S c.loop-row.place c.loop-row.depth c.in-Some.row c.in-Some.ensures (g.G.Guide.lawful c.args.guide.now) (c.loop-row.invariant.1 S t),
    )

pub returns-then-row-gt0 : goal.returns-then-row-gt0
returns-then-row-gt0 g c = λ S t.
    let m = g.G.Guide.meaning c.args.guide.now in
    stops_at_row m c.args.self.now.used (c.args.mark.name.now, c.args.mark.first.now) S c.loop-row.place c.loop-row.depth c.in-Some.row c.in-Some.ensures (sym c.if-fits.ensures) c.if-row-gt0.true (c.loop-row.invariant.1 S t)

pub loop-row-preserved-in-Some : goal.loop-row-preserved-in-Some
loop-row-preserved-in-Some g c =
    let m = g.G.Guide.meaning c.args.guide.now in (
      c.loop-row.invariant.0,
      λ S t. skips m c.args.self.now.used (c.args.mark.name.now, c.args.mark.first.now) S c.loop-row.place c.loop-row.depth c.in-Some.row c.in-Some.ensures (sym c.if-fits.ensures) (omega arith) (c.loop-row.invariant.1 S t),
    )

pub returns-then-depth-eq0 : goal.returns-then-depth-eq0
returns-then-depth-eq0 g c = λ S t.
    let m = g.G.Guide.meaning c.args.guide.now in
    let z : c.loop-row.depth ≡ 0 = c.if-depth-eq0.true in
    ends m c.args.self.now.used (c.args.mark.name.now, c.args.mark.first.now) S c.loop-row.place
    (subst (λ (d : ℕ). NoRowOfDepth d (drop c.loop-row.place (table_of m))) z c.in_default.ensures)
    (subst (Search m c.args.self.now.used (c.args.mark.name.now, c.args.mark.first.now) S c.loop-row.place) z (c.loop-row.invariant.1 S t))

pub returns-then-fits-2 : goal.returns-then-fits-2
returns-then-fits-2 g c =
    let m = g.G.Guide.meaning c.args.guide.now in
    let d = c.loop-row.depth in
    let p : d ≡ suc (d - 1) = omega arith in
    let u = c.uses_of-uses.ensures in
    let inside = c.loop-row.invariant.0 in
    let few = c.args.self.now.few in
    λ S t. (
      omega arith,
      sym c.if-fits-2.ensures,
      u.2,
      t.1 (d - 1) (omega arith),
      takes_again m c.args.self.now.used (c.args.mark.name.now, c.args.mark.first.now) S c.loop-row.place (d - 1)
          (subst (λ (k : ℕ). NoRowOfDepth k (drop c.loop-row.place (table_of m))) p c.in_default.ensures)
          (subst (λ (k : ℕ). (get_or c.args.self.now.used (d - 1) blank).count < k) u.1 c.if-used-uses.true)
          (subst (Search m c.args.self.now.used (c.args.mark.name.now, c.args.mark.first.now) S c.loop-row.place) p (c.loop-row.invariant.1 S t)),
    )

pub returns-then-used-uses-2 : goal.returns-then-used-uses-2
returns-then-used-uses-2 g c = λ S t.
    let m = g.G.Guide.meaning c.args.guide.now in
    let d = c.loop-row.depth in
    let p : d ≡ suc (d - 1) = omega arith in
    let u = c.uses_of-uses.ensures in
    stops_at_used m c.args.self.now.used (c.args.mark.name.now, c.args.mark.first.now) S c.loop-row.place (d - 1)
    (subst (λ (k : ℕ). NoRowOfDepth k (drop c.loop-row.place (table_of m))) p c.in_default.ensures)
    (elim c.else-used-uses.branch [
      | else-used-uses-via-then-used-uses+else-fits-2 w ↦ inr (sym w.if-fits-2.ensures)
      | else-used-uses-via-else-used-uses w ↦ inl (subst (λ (k : ℕ). k ≤ (get_or c.args.self.now.used (d - 1) blank).count) u.1 w.if-used-uses.false)
    ])
    (subst (λ (k : ℕ). (get_or c.args.self.now.used (d - 1) blank).count < k) u.0 c.if-used-uses-2.true)
    (subst (Search m c.args.self.now.used (c.args.mark.name.now, c.args.mark.first.now) S c.loop-row.place) p (c.loop-row.invariant.1 S t))

pub loop-row-preserved : goal.loop-row-preserved
loop-row-preserved g c =
    let m = g.G.Guide.meaning c.args.guide.now in
    let d = c.loop-row.depth in
    let p : d ≡ suc (d - 1) = omega arith in
    let u = c.uses_of-uses.ensures in
    let inside = c.loop-row.invariant.0 in (
      omega arith,
      λ S t. leaves m c.args.self.now.used (c.args.mark.name.now, c.args.mark.first.now) S c.loop-row.place (d - 1)
          (subst (λ (k : ℕ). NoRowOfDepth k (drop c.loop-row.place (table_of m))) p c.in_default.ensures)
          (elim c.else-used-uses.branch [
            | else-used-uses-via-then-used-uses+else-fits-2 w ↦ inr (sym w.if-fits-2.ensures)
            | else-used-uses-via-else-used-uses w ↦ inl (subst (λ (k : ℕ). k ≤ (get_or c.args.self.now.used (d - 1) blank).count) u.1 w.if-used-uses.false)
          ])
          (subst (λ (k : ℕ). k ≤ (get_or c.args.self.now.used (d - 1) blank).count) u.0 c.if-used-uses-2.false)
          (subst (Search m c.args.self.now.used (c.args.mark.name.now, c.args.mark.first.now) S c.loop-row.place) p (c.loop-row.invariant.1 S t)),
    )
