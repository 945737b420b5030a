use Rattle.std.proofs.Common.{◌≡◌, ℕ, Bool, List, Ok, Err, Result, sym, refl, ap, ◌∙◌, subst}
use Rattle.std.proofs.lemmas.Result.{err_from_is_err_and}
use Rattle.x12.specs.declared.faults.Fault.{Fault}
use Rattle.x12.specs.Lists.{and_then}
use Rattle.x12.specs.Segments.{Segment}
use Rattle.x12.specs.Views.{plain}
use Rattle.guide.specs.Meaning.{Meaning}
use Rattle.placing.specs.declared.placer.Placed.{Placed}
use Rattle.placing.specs.Stages.{spot_for}
use Rattle.placing.specs.Placed.{PlacedSegment}
use Rattle.elements.specs.declared.faults.ElementFault.{ElementFault}
use Rattle.elements.specs.Tests.{is_row_lacking}
use Rattle.elements.specs.Checks.{elements_check}
use Rattle.elements.specs.Fails.{cause_of_element}
use Rattle.reading.specs.Turns.{AnswersWith}
use Rattle.reading.proofs.turns.judge_elements.Goals as goal

-- the elements behind the place
abbrev behind : Meaning → ℕ → ℕ → List PlacedSegment → Segment → Placed → Result Placed Fault
behind m x k z s placed = and_then (elements_check m x k (is_row_lacking m x z (s, spot_for placed)) placed.row s) (λ u. Ok placed)

-- the answer of a function that stopped
stopped : (cause : ElementFault → Fault) (r : Result Placed ElementFault) (f : ElementFault) (check : Result Placed Fault) → r ≡ Err f → check ≡ Err (cause f) → AnswersWith cause r check
stopped cause r f check e h = subst (λ (x : Result Placed ElementFault). AnswersWith cause x check) (sym e) h

pub returns-in_err-placed : goal.returns-in_err-placed
returns-in_err-placed g c =
    let m = g.G.Guide.meaning c.args.guide.now in
    let x = c.args.segment.now.separator in
    let s : Segment = plain c.args.segment.now in
    let t = c.in_err-placed.ensures in
    let p = err_from_is_err_and c.from_residual.result c.from_residual.ensures.1 in (
      t.0,
      t.1,
      λ z is. stopped cause_of_element c.from_residual.result p.0 _ p.1
          (ap (λ (r : Result Placed Fault). and_then r (behind m x c.args.segment.now.number z s)) t.2 ∙ ap (λ (f : ElementFault). Err (cause_of_element f)) (sym p.2)),
    )

pub returns-in_err-check_elements : goal.returns-in_err-check_elements
returns-in_err-check_elements g c =
    let m = g.G.Guide.meaning c.args.guide.now in
    let x = c.args.segment.now.separator in
    let s : Segment = plain c.args.segment.now in
    let placed = c.in_ok-placed.placed in
    let t = c.in_ok-placed.ensures in
    let p = err_from_is_err_and c.from_residual-in_err-check_elements.result c.from_residual-in_err-check_elements.ensures.1 in (
      t.0,
      t.1,
      λ z is. stopped cause_of_element c.from_residual-in_err-check_elements.result p.0 _ p.1
          (ap (λ (r : Result Placed Fault). and_then r (behind m x c.args.segment.now.number z s)) t.2
          ∙ ap (λ (b : Bool). and_then (elements_check m x c.args.segment.now.number b placed.row s) (λ u. Ok placed)) (sym (c.lacks_row-lacking.ensures m x z (s, spot_for placed) is refl (sym c.bytes_of.ensures)))
          ∙ ap (λ (r : Result (Unit {0}) Fault). and_then r (λ u. Ok placed)) c.in_err-check_elements.ensures
          ∙ ap (λ (f : ElementFault). Err (cause_of_element f)) (sym p.2)),
    )

pub returns : goal.returns
returns g c =
    let m = g.G.Guide.meaning c.args.guide.now in
    let x = c.args.segment.now.separator in
    let s : Segment = plain c.args.segment.now in
    let placed = c.in_ok-placed.placed in
    let t = c.in_ok-placed.ensures in (
      t.0,
      t.1,
      λ z is. ap (λ (r : Result Placed Fault). and_then r (behind m x c.args.segment.now.number z s)) t.2
          ∙ ap (λ (b : Bool). and_then (elements_check m x c.args.segment.now.number b placed.row s) (λ u. Ok placed)) (sym (c.lacks_row-lacking.ensures m x z (s, spot_for placed) is refl (sym c.bytes_of.ensures)))
          ∙ ap (λ (r : Result (Unit {0}) Fault). and_then r (λ u. Ok placed)) c.in_ok-check_elements.ensures,
    )
