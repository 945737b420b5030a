use Rattle.std.proofs.Common.{◌≡◌, ℕ, ◌+◌, List, Some, None, set, sym, refl, ap, ◌∙◌, subst, arith}
use Rattle.std.proofs.lemmas.List.{set-get_or}
use Rattle.x12.proofs.Walks.{On, started, turn, ended}
use Rattle.x12.specs.Segments.{segments_from}
use Rattle.x12.specs.Views.{plain}
use Rattle.placing.specs.Stages.{marked}
use Rattle.placing.specs.Structure.{mark_in}
use Rattle.placing.specs.Placing.{PlacesNext}
use Rattle.results.specs.declared.rows.SegmentRow.{SegmentRow}
use Rattle.results.specs.Steps.{OpensNext, Begun}
use Rattle.results.proofs.Opening.{opened_within}
use Rattle.results.proofs.Writing.{Writes, none_written, all_written, filled_up, never_refused, written_on}
use Rattle.results.proofs.write.write_rows.Goals as goal

pub loop-row-init : goal.loop-row-init
loop-row-init g c =
    let m = g.G.Guide.meaning c.args.guide.now in
    let x = c.args.interchange.now in
    let it = c.segments-ahead.result in
    let s = started x.bytes.now it it x refl c.segments-ahead.ensures refl in (
      subst (λ y. On y it) c.segments-ahead.ensures.0 s.on,
      s.none,
      refl,
      omega arith,
      λ z fit.
          subst (λ (n : ℕ). Writes m x.bytes.now x.delimiters.terminator x.delimiters.separator z c.args.segments.now c.args.loops.now n 0 0 c.start-placer.result c.args.segments.now c.args.loops.now) (sym s.first)
          (none_written _ _ _ _ z c.args.segments.now c.args.loops.now fit c.start-placer.result c.start-placer.ensures),
    )

pub returns-in_default-clause-begun : goal.returns-in_default-clause-begun
returns-in_default-clause-begun g c = λ z fit.
    let l = c.loop-row in
    subst (λ (r : List SegmentRow). Begun z c.args.segments.now c.args.loops.now r l.loops l.counts) (sym (set-get_or l.segments l.row-index _))
    (all_written fit (l.invariant.4 z fit) (ended c.args.interchange.now l.ahead l.invariant.0 c.in_default.ensures.steps))

pub returns-in_default-place-clause-begun : goal.returns-in_default-place-clause-begun
returns-in_default-place-clause-begun g c = λ z fit.
    let m = g.G.Guide.meaning c.args.guide.now in
    let x = c.args.interchange.now in
    let s = c.in-Some.segment in
    let l = c.loop-row in
    let k = turn x l.ahead l.invariant.0 s c.next.new.self c.in-Some.ensures.steps in
    let n : s.number ≡ l.counts.segments + 1 = omega (arith, k.numbered, l.invariant.1) in
    let same : marked c.mark_of.result ≡ mark_in x.delimiters.separator (plain s) = c.mark_of.ensures ∙ ap (λ (y : ℕ). mark_in y (plain s)) k.separated in
    absurd (never_refused fit (l.invariant.4 z fit) k.first.next same
    (subst (λ (j : ℕ). PlacesNext m l.placer c.place.new.self j (marked c.mark_of.result) None) n c.in_default-place.ensures))

pub loop-row-preserved : goal.loop-row-preserved
loop-row-preserved g c =
    let m = g.G.Guide.meaning c.args.guide.now in
    let x = c.args.interchange.now in
    let s = c.in-Some.segment in
    let old = c.loop-row in
    let counts = c.loop-row.counts in
    let k = turn x old.ahead old.invariant.0 s c.next.new.self c.in-Some.ensures.steps in
    let n : s.number ≡ counts.segments + 1 = omega (arith, k.numbered, old.invariant.1) in
    let same : marked c.mark_of.result ≡ mark_in x.delimiters.separator (plain s) = c.mark_of.ensures ∙ ap (λ (y : ℕ). mark_in y (plain s)) k.separated in
    let few = opened_within old.loops c.open_loop.new.loops counts.loops s.number c.open_loop.result c.in-Some-place.placed c.open_loop.ensures old.invariant.3 in
    let places = subst (λ (j : ℕ). PlacesNext m old.placer c.place.new.self j (marked c.mark_of.result) (Some c.in-Some-place.placed)) n c.in-Some-place.ensures in
    let opens = subst (λ (j : ℕ). OpensNext old.loops counts.loops j c.in-Some-place.placed c.open_loop.new.loops c.open_loop.result) n c.open_loop.ensures in (
      k.on,
      k.counted,
      omega (arith, n, old.invariant.2),
      omega (arith, few, old.auto.loops),
      λ z fit.
          subst (λ (q : ℕ × ℕ). Writes m x.bytes.now x.delimiters.terminator x.delimiters.separator z c.args.segments.now c.args.loops.now c.next.new.self.at q.0 c.open_loop.result c.place.new.self (set old.segments q.1 c.named_row.result) c.open_loop.new.loops) (λ j. (sym n j, old.invariant.2 j))
          (written_on fit (old.invariant.4 z fit) k.first.next (λ i. segments_from x.delimiters.terminator (sym k.behind i) x.bytes.now) old.auto.loops same places c.named_row.ensures opens),
    )

pub returns-after-loop-row-clause-begun : goal.returns-after-loop-row-clause-begun
returns-after-loop-row-clause-begun g c = λ z fit.
    let l = c.loop-row in
    filled_up fit (l.invariant.4 z fit) (omega (arith, l.invariant.2, c.loop-row-test.false))
