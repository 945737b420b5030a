use Rattle.std.proofs.Common.{◌≡◌, ℕ, List, Some, Err, Option, Result, sym, ap, ◌∙◌, subst}
use Rattle.std.proofs.lemmas.Result.{err_from_is_err_and}
use Rattle.x12.specs.Segments.{Segment}
use Rattle.x12.specs.Views.{plain}
use Rattle.grammar.specs.Derivations.{Spot}
use Rattle.guide.specs.Asked.{over}
use Rattle.guide.specs.Meaning.{Meaning}
use Rattle.placing.specs.declared.placer.Placed.{Placed}
use Rattle.placing.specs.declared.placer.Placer.{Placer}
use Rattle.placing.specs.Stages.{spot_for}
use Rattle.placing.specs.Placing.{PlacesNext}
use Rattle.placing.specs.Structure.{mark_in}
use Rattle.placing.specs.Placed.{PlacedSegment}
use Rattle.totals.specs.declared.faults.TotalsFault.{TotalsFault}
use Rattle.totals.specs.declared.tally.Tally.{Tally}
use Rattle.totals.specs.Fails.{cause_of_totals}
use Rattle.totals.proofs.More.{small_counts_lem}
use Rattle.reading.specs.Turns.{Placement, check_by, TurnIs}
use Rattle.reading.proofs.Joins.{lower_refused, lower_passed, upper_refused, upper_passed, placement, placed_behind, few_control_numbers, few_line_numbers, small_given}
use Rattle.reading.proofs.turns.judge_segment.Goals as goal

-- a turn that stopped
stopped : (m : Meaning) (x k₀ k : ℕ) (z : List PlacedSegment) (s : Segment) (p : Placer) (t : Tally) (r : Result Placed TotalsFault) (f : TotalsFault) (o : Option Spot)
    → r ≡ Err f → Placement m x z s o → check_by m x k₀ k z s o ≡ Err (cause_of_totals f) → TurnIs m x k₀ k z s p t r
stopped m x k₀ k z s p t r f o e h q = subst (λ (y : Result Placed TotalsFault). TurnIs m x k₀ k z s p t y) (sym e) (o, h, q)

pub returns-in_err-placed : goal.returns-in_err-placed
returns-in_err-placed g c = λ z st.
    let m = g.G.Guide.meaning c.args.guide.now in
    let x = c.args.segment.now.separator in
    let k₀ = c.args.segment.now.component in
    let k = c.args.segment.now.number in
    let s : Segment = plain c.args.segment.now in
    let t = c.in_err-placed.ensures in
    let p = err_from_is_err_and c.from_residual.result c.from_residual.ensures.1 in
    stopped m x k₀ k z s c.judge_elements.new.placer c.args.tally.now c.from_residual.result p.0 (over spot_for t.0) p.1
    (placement m x k z s c.args.placer.now _ st.placed st.number t.0 t.1)
    (lower_refused m x k₀ k z s t.0 _ (t.2 z st.counted) ∙ ap (λ (f : TotalsFault). Err (cause_of_totals f)) (sym p.2))

pub check-requires : goal.check-requires
check-requires g c =
    let m = g.G.Guide.meaning c.args.guide.now in
    let st = c.requires.1 in
    small_counts_lem m c.args.segment.now.separator c.requires.0 c.args.tally.now st.counted st.few

pub returns-in_err-check : goal.returns-in_err-check
returns-in_err-check g c = λ z st.
    let m = g.G.Guide.meaning c.args.guide.now in
    let x = c.args.segment.now.separator in
    let k₀ = c.args.segment.now.component in
    let k = c.args.segment.now.number in
    let s : Segment = plain c.args.segment.now in
    let placed = c.in_ok-placed.placed in
    let t = c.in_ok-placed.ensures in
    let low = lower_passed m x k₀ k z s t.0 placed (t.2 z st.counted) in
    let p = err_from_is_err_and c.from_residual-in_err-check.result c.from_residual-in_err-check.ensures.1 in
    let h : Placement m x z s (Some (spot_for placed)) = subst (λ (o : Option Placed). Placement m x z s (over spot_for o)) low.1 (placement m x k z s c.args.placer.now _ st.placed st.number t.0 t.1) in
    stopped m x k₀ k z s c.judge_elements.new.placer c.args.tally.now c.from_residual-in_err-check.result p.0 (Some (spot_for placed)) p.1 h
    (upper_refused m x k₀ k z s placed _ low.0 low.2 (c.in_err-check.ensures z st.counted) ∙ ap (λ (f : TotalsFault). Err (cause_of_totals f)) (sym p.2))

pub add-requires : goal.add-requires
add-requires g c =
    let m = g.G.Guide.meaning c.args.guide.now in
    let x = c.args.segment.now.separator in
    let z = c.requires.0 in
    let st = c.requires.1 in
    let s : Segment = plain c.args.segment.now in
    let placed = c.in_ok-placed.placed in
    let t = c.in_ok-placed.ensures in
    let low = lower_passed m x c.args.segment.now.component c.args.segment.now.number z s t.0 placed (t.2 z st.counted) in
    let h : Placement m x z s (Some (spot_for placed)) = subst (λ (o : Option Placed). Placement m x z s (over spot_for o)) low.1 (placement m x c.args.segment.now.number z s c.args.placer.now _ st.placed st.number t.0 t.1) in record {
      small_counts = small_counts_lem m x z c.args.tally.now st.counted st.few;
      small_given = small_given m x z c.args.tally.now st.counted st.few;
      few_sets = few_control_numbers m x z c.args.tally.now st.counted (g.G.Guide.lawful c.args.guide.now) s (spot_for placed) st.only h;
      few_lines = few_line_numbers m x z c.args.tally.now st.counted st.few_lines;
    }

pub returns : goal.returns
returns g c = λ z st.
    let m = g.G.Guide.meaning c.args.guide.now in
    let x = c.args.segment.now.separator in
    let k₀ = c.args.segment.now.component in
    let k = c.args.segment.now.number in
    let s : Segment = plain c.args.segment.now in
    let placed = c.in_ok-placed.placed in
    let t = c.in_ok-placed.ensures in
    let low = lower_passed m x k₀ k z s t.0 placed (t.2 z st.counted) in
    let next : PlacesNext m c.args.placer.now c.judge_elements.new.placer k (mark_in x s) (Some placed) = subst (PlacesNext m c.args.placer.now c.judge_elements.new.placer k (mark_in x s)) low.1 t.1 in
    let pass = c.in_ok-check.ensures z st.counted in (
      upper_passed m x k₀ k z s placed _ low.0 low.2 pass,
      placement m x k z s c.args.placer.now c.judge_elements.new.placer st.placed st.number (Some placed) next,
      placed_behind m x k z s c.args.placer.now c.judge_elements.new.placer st.placed st.number placed next,
      c.add.ensures z st.number st.counted,
    )
