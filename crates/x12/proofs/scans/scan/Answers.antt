use Rattle.std.proofs.Common.{◌≡◌, suc, ◌+◌, List, length, sym, ap, ◌∙◌, add-zero, rules}
use Rattle.std.proofs.lemmas.Result.{err_from_is_err_and}
use Rattle.x12.specs.Lists.{each}
use Rattle.x12.specs.Segments.{Segment}
use Rattle.x12.specs.Causes.{cause_of}
use Rattle.x12.specs.Checks.{segment_check}
use Rattle.x12.specs.Views.{plain}
use Rattle.x12.proofs.Meets.{header_refused, body_refused, body_passed}
use Rattle.x12.proofs.Walks.{turn, ended, stops}
use Rattle.x12.proofs.scans.scan.Goals as goal

pub returns-in_err-read : goal.returns-in_err-read
returns-in_err-read c =
    let p = err_from_is_err_and c.from_residual.result c.from_residual.ensures.1 in
    rw (p.1, p.2) (header_refused c.args.interchange.now (cause_of c.in_err-read.field-0.0) c.in_err-read.ensures)

pub returns-in_err-check : goal.returns-in_err-check
returns-in_err-check c =
    let it = c.loop-segment.segment-iterator in
    let z = c.into_iter-segment-iterator.result.interchange in
    let q : z ≡ c.in_ok-read.read = search rules in
    let h = c.in_ok-read.ensures in
    let x = c.in-Some.segment in
    let k = turn z it c.loop-segment.invariant.0 x c.next.new.self c.in-Some.ensures.steps in
    let f = cause_of c.in_err-check.field-0.0 in
    let p = err_from_is_err_and c.from_residual-in_err-check.result c.from_residual-in_err-check.ensures.1 in
    rw (p.1, p.2)
    (body_refused c.args.interchange.now z.delimiters.separator z.delimiters.component (ap (λ y. y.delimiters.separator) q ∙ h.2) (ap (λ y. y.delimiters.component) q ∙ h.3) tt h.1 f
    (sym c.loop-segment.invariant.3
    ∙ stops z it c.loop-segment.invariant.0 (segment_check z.delimiters.separator z.delimiters.component) x c.next.new.self c.in-Some.ensures.steps f
    ((λ i. segment_check (sym k.separated i) (sym k.component i) (sym k.numbered i) (plain x)) ∙ c.in_err-check.ensures)))

pub returns : goal.returns
returns c =
    let it = c.loop-segment.segment-iterator in
    let z = c.into_iter-segment-iterator.result.interchange in
    let q : z ≡ c.in_ok-read.read = search rules in
    let h = c.in_ok-read.ensures in
    let e = ended z it c.loop-segment.invariant.0 c.in-None.ensures.steps in (
      body_passed c.args.interchange.now z.delimiters.separator z.delimiters.component (ap (λ y. y.delimiters.separator) q ∙ h.2) (ap (λ y. y.delimiters.component) q ∙ h.3) tt h.1 tt
          (sym c.loop-segment.invariant.3 ∙ ap (each (segment_check z.delimiters.separator z.delimiters.component) (suc it.count)) e),
      sym (add-zero c.loop-segment.count) ∙ ap (λ (l : List Segment). c.loop-segment.count + length l) (sym e) ∙ c.loop-segment.invariant.2,
    )
