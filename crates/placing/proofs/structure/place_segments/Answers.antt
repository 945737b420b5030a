use Rattle.std.proofs.Common.{◌≡◌, ℕ, suc, ◌+◌, [], ◌∷◌, ◌++◌, length, sym, ap, ◌∙◌, arith, length-append}
use Rattle.std.proofs.lemmas.Result.{err_from_is_err_and}
use Rattle.x12.specs.Segments.{segments_from}
use Rattle.x12.specs.Views.{plain}
use Rattle.x12.proofs.Walks.{turn, ended}
use Rattle.placing.specs.declared.faults.SegmentFault.TheVariants.{Misplaced}
use Rattle.placing.specs.Stages.{marked}
use Rattle.placing.specs.Structure.{mark_in}
use Rattle.placing.proofs.Passes.{one_on, placed_on, not_placed, placed_if, misplaced_if, refused_at, ended_early, all_placed}
use Rattle.placing.proofs.structure.place_segments.Goals as goal

pub returns-in_err-ok_or : goal.returns-in_err-ok_or
returns-in_err-ok_or g c = λ et es.
    let m = g.G.Guide.meaning c.args.guide.now in
    let it = c.loop-segment.segment-iterator in
    let z = c.args.interchange.now in
    let i = c.loop-segment.invariant.2 in
    let s = c.in-Some.segment in
    let k = turn z it c.loop-segment.invariant.0 s c.next.new.self c.in-Some.ensures.steps in
    let n : s.number ≡ suc (length i.0) = k.numbered ∙ ap suc (c.loop-segment.invariant.1 ∙ sym i.2) in
    let same : marked c.mark_of.result ≡ mark_in z.delimiters.separator (plain s) = c.mark_of.ensures ∙ ap (λ (y : ℕ). mark_in y (plain s)) k.separated in
    let r = misplaced_if c.place.result (Misplaced s.number s.place) c.in_err-ok_or.field-0.0 c.in_err-ok_or.ensures.value in
    let p = err_from_is_err_and c.from_residual.result c.from_residual.ensures.1 in
    rw (p.1, p.2, r.1)
    (refused_at m z.bytes.now z.delimiters.terminator z.delimiters.separator et es i.0 (plain s) it.at s.number _ i.1 k.first.next n
    (not_placed m c.loop-segment.placer c.place.new.self z.delimiters.separator s.number (marked c.mark_of.result) c.place.result i.0 (plain s) c.place.ensures i.3 n same r.0))

pub loop-segment-preserved : goal.loop-segment-preserved
loop-segment-preserved g c =
    let m = g.G.Guide.meaning c.args.guide.now in
    let it = c.loop-segment.segment-iterator in
    let z = c.args.interchange.now in
    let i = c.loop-segment.invariant.2 in
    let s = c.in-Some.segment in
    let k = turn z it c.loop-segment.invariant.0 s c.next.new.self c.in-Some.ensures.steps in
    let n : s.number ≡ suc (length i.0) = k.numbered ∙ ap suc (c.loop-segment.invariant.1 ∙ sym i.2) in
    let same : marked c.mark_of.result ≡ mark_in z.delimiters.separator (plain s) = c.mark_of.ensures ∙ ap (λ (y : ℕ). mark_in y (plain s)) k.separated in
    let placed = placed_if c.place.result c.in_ok-ok_or.field-0 (Misplaced s.number s.place) c.in_ok-ok_or.ensures.value in (
      k.on,
      k.counted,
      (
        i.0 ++ (plain s ∷ []),
        one_on (segments_from z.delimiters.terminator 0 z.bytes.now) i.0 (segments_from z.delimiters.terminator it.at z.bytes.now) _ (plain s) i.1 k.first.next
            ∙ (λ j. (i.0 ++ (plain s ∷ [])) ++ segments_from z.delimiters.terminator (sym k.behind j) z.bytes.now),
        length-append i.0 (plain s ∷ []) ∙ omega (arith, n),
        placed_on m c.loop-segment.placer c.place.new.self z.delimiters.separator s.number (marked c.mark_of.result) c.place.result i.0 (plain s) c.place.ensures i.3 n same placed,
      ),
    )

pub returns-then-not-is_whole : goal.returns-then-not-is_whole
returns-then-not-is_whole g c = λ et es.
    let m = g.G.Guide.meaning c.args.guide.now in
    let it = c.loop-segment.segment-iterator in
    let z = c.args.interchange.now in
    let i = c.loop-segment.invariant.2 in
    let k : c.loop-segment.count + 1 ≡ suc (length i.0) = (let l = i.2 in omega arith) in
    ended_early m z.bytes.now z.delimiters.terminator z.delimiters.separator et es i.0 it.at (c.loop-segment.count + 1) i.1
    (ended z it c.loop-segment.invariant.0 c.in-None.ensures.steps) k
    (c.if-not-is_whole.ensures m (g.G.Guide.lawful c.args.guide.now) _ i.3)

pub returns : goal.returns
returns g c = λ et es.
    let m = g.G.Guide.meaning c.args.guide.now in
    let it = c.loop-segment.segment-iterator in
    let z = c.args.interchange.now in
    let i = c.loop-segment.invariant.2 in
    all_placed m z.bytes.now z.delimiters.terminator z.delimiters.separator et es i.0 it.at c.loop-segment.count i.1
    (ended z it c.loop-segment.invariant.0 c.in-None.ensures.steps) i.2
    (c.if-not-is_whole.ensures m (g.G.Guide.lawful c.args.guide.now) _ i.3)
