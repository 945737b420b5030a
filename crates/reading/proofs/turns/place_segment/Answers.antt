use Rattle.std.proofs.Common.{ℕ, refl, Some, None, Option, Result, sym, ap, subst}
use Rattle.std.specs.Option.{ok_or}
use Rattle.x12.specs.declared.faults.Fault.{Fault}
use Rattle.x12.specs.Lists.{and_then}
use Rattle.x12.specs.Views.{plain}
use Rattle.grammar.specs.Marks.{Mark}
use Rattle.placing.specs.declared.placer.Placed.{Placed}
use Rattle.placing.specs.declared.faults.SegmentFault.{SegmentFault}
use Rattle.placing.specs.declared.faults.SegmentFault.TheVariants.{Misplaced}
use Rattle.placing.specs.Placing.{PlacesNext}
use Rattle.placing.specs.Structure.{cause_of_segment}
use Rattle.reading.specs.Turns.{AnswersWith, or_misplaced}
use Rattle.reading.proofs.turns.place_segment.Goals as goal

-- a place, or the fault that there is none
answered : (k at : ℕ) (o : Option Placed) → AnswersWith cause_of_segment (ok_or o (Misplaced k at)) (or_misplaced k at o)
answered k at None = refl
answered k at (Some p) = refl

pub returns : goal.returns
returns g c =
    let m = g.G.Guide.meaning c.args.guide.now in
    let s = plain c.args.segment.now in
    let k = c.args.segment.now.number in
    let o = c.place-placed.result in (
      o,
      subst (λ (y : Mark). PlacesNext m c.args.placer.now c.place-placed.new.self k y o) c.mark_of.ensures c.place-placed.ensures,
      subst (λ (check : Result Placed Fault). AnswersWith cause_of_segment c.ok_or.result check) (sym (ap (λ (r : Result (Unit {0}) Fault). and_then r (λ u. or_misplaced k s.place o)) c.in_ok-check.ensures))
          (subst (λ (r : Result Placed SegmentFault). AnswersWith cause_of_segment r (or_misplaced k s.place o)) (sym c.ok_or.ensures.value) (answered k s.place o)),
    )
