use Rattle.std.proofs.Common.{◌≡◌, ℕ, suc, List, set as write, sym, ap, ◌∙◌, subst, arith}
use Rattle.grammar.proofs.LoopStates.{LoopState, LoopStep}
use Rattle.grammar.proofs.LawfulSets.{RowMatches}
use Rattle.grammar.specs.Marks.{Mark}
use Rattle.guide.specs.Meaning.{Meaning}
use Rattle.guide.specs.Asked.{label_of}
use Rattle.placing.specs.declared.phase.Phase.{Phase}
use Rattle.placing.specs.declared.placer.Placed.{Placed}
use Rattle.placing.specs.declared.sets.Choice.{Choice}
use Rattle.placing.specs.declared.sets.UsedRow.{UsedRow as CodeRow}
use Rattle.placing.specs.Model.{taken, around_of, loop_with}
use Rattle.placing.specs.Stages.{StandsAt, marked, spot_for}
use Rattle.placing.proofs.Inside.{inside_refused, inside_taken}
use Rattle.placing.proofs.Turns.{NextPhase, phase_behind_lem}
use Rattle.placing.proofs.placer.Placer.inside.Goals as goal

-- what was taken, in the words of the code
told : (m : Meaning) (S : LoopState) (g s : ℕ) (us : List CodeRow) (n : ℕ) (c : Choice) (mk : Mark) (p : Phase) (x : Placed)
    → x ≡ record { row = c.row; around = around_of us c n; outer = loop_with us c.depth }
    → (place : ℕ) (vs : List CodeRow) (depth : ℕ) → place ≡ c.row → vs ≡ write us c.depth (record { row = c.row; count = c.count; around = x.around }) → depth ≡ suc c.depth
    → RowMatches (label_of m) c.row mk × ((V : LoopState) × LoopStep S n (record { row = c.row; loop = around_of us c n; outer = loop_with us c.depth }) V × StandsAt m p g s c.row (taken us c n) (suc c.depth) V)
    → RowMatches (label_of m) x.row mk × ((V : LoopState) × LoopStep S n (spot_for x) V × StandsAt m p g s place vs depth V)
told m S g s us n c mk p x ex place vs depth ep ev ed t =
    let y : Placed = record { row = c.row; around = around_of us c n; outer = loop_with us c.depth } in
    let used : vs ≡ taken us c n = ev ∙ ap (λ (z : Placed). write us c.depth (record { row = c.row; count = c.count; around = z.around })) ex in
    let old : RowMatches (label_of m) y.row mk × ((V : LoopState) × LoopStep S n (spot_for y) V × StandsAt m p g s c.row (taken us c n) (suc c.depth) V) = t in
    subst (λ (z : Placed × ℕ × List CodeRow × ℕ). RowMatches (label_of m) z.0.row mk × ((V : LoopState) × LoopStep S n (spot_for z.0) V × StandsAt m p g s z.1 z.2 z.3 V))
    (λ i. (sym ex i, sym ep i, sym used i, sym ed i)) old

pub returns-in_err-choice : goal.returns-in_err-choice
returns-in_err-choice g c = λ e S st.
    let m = g.G.Guide.meaning c.args.guide.now in
    let p = c.args.self.now in
    rw c.from_residual.ensures
    (inside_refused m (g.G.Guide.lawful c.args.guide.now) p.set.used p.set.place p.set.depth p.groups p.sets (marked c.args.mark) S
    (subst (λ (k : Phase). StandsAt m k p.groups p.sets p.set.place p.set.used p.set.depth S) e st)
    c.in_err-choice.ensures)

pub returns : goal.returns
returns g c = λ e S st.
    let m = g.G.Guide.meaning c.args.guide.now in
    let p = c.args.self.now in
    let us = p.set.used in
    let n = c.args.segment in
    let ch = c.in_ok-choice.choice in
    let shallow = ch.shallow in
    let whole = p.set.whole in
    let placed = c.place_in-placed.ensures in
    let set = c.take_row-set.ensures in
    let next : NextPhase c.args.mark.name.now c.phase_behind-phase.result = subst (NextPhase c.args.mark.name.now) (sym c.phase_behind-phase.ensures) (phase_behind_lem c.args.mark.name.now) in
    let t = inside_taken m (g.G.Guide.lawful c.args.guide.now) us p.set.place p.set.depth p.groups p.sets (marked c.args.mark) n ch S c.phase_behind-phase.result
    (subst (λ (k : Phase). StandsAt m k p.groups p.sets p.set.place us p.set.depth S) e st)
    c.in_ok-choice.ensures (omega arith) next in
    told m S p.groups p.sets us n ch (marked c.args.mark) c.phase_behind-phase.result c.place_in-placed.result placed
    c.take_row-set.result.place c.take_row-set.result.used c.take_row-set.result.depth set.0 set.1 set.2 t
