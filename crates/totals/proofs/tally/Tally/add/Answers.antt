use Rattle.std.proofs.Common.{◌≡◌, ℕ, true, false, cond, eqb, List, [], ◌∷◌, ◌++◌, set, replicate, ap, ◌∙◌, subst}
use Rattle.x12.specs.Views.{plain}
use Rattle.x12.specs.Elements.{element_of_segment}
use Rattle.placing.specs.Stages.{spot_for}
use Rattle.placing.specs.Placed.{PlacedSegment}
use Rattle.elements.specs.Rules.{value}
use Rattle.seen.specs.ControlNumbers.{numbers_of as control_numbers_of}
use Rattle.seen.specs.LineNumbers.{numbers_of as line_numbers_of}
use Rattle.totals.specs.declared.used_rows.UsedRows.{UsedRows}
use Rattle.totals.specs.Words.{is_line, ordered, acknowledged}
use Rattle.totals.specs.Amounts.{AmountIs, is_ordered, ordered_in, acknowledged_in}
use Rattle.totals.specs.Steps.{counts_behind, line_after}
use Rattle.totals.proofs.Added.{asked_is}
use Rattle.totals.proofs.More.{tally_more}
use Rattle.totals.proofs.tally.Tally.add.Goals as goal

pub returns : goal.returns
returns g c = λ z e is.
    let m = g.G.Guide.meaning c.args.guide.now in
    let seg = c.args.segment.now in
    let x = seg.separator in
    let t = c.args.self.now in
    let s = plain seg in
    let p : PlacedSegment = (s, spot_for c.args.placed) in
    let row = c.args.placed.row in
    let first : c.bytes_of-first.result.now ≡ value x p 1 = c.bytes_of-first.ensures in
    let second : c.bytes_of-second.result.now ≡ value x p 2 = c.bytes_of-second.ensures in
    let amount = subst (λ (n : List ℕ × List ℕ). AmountIs n.0 n.1 c.amount_of-amount.result) (λ i. (c.bytes_of.ensures i, second i)) c.amount_of-amount.ensures in
    let line : is_ordered c.amount_of-amount.result ≡ is_line x p = amount.0 in
    let order : ordered_in c.amount_of-amount.result ≡ ordered x p = amount.1 in
    let given : acknowledged_in c.amount_of-amount.result ≡ acknowledged x p = amount.2 in
    let others = c.remember.ensures.others in
    tally_more m x z p t _ is
    (record {
      counts = c.behind-self.ensures ∙ (λ i. counts_behind (others.0 i) row (line i) (order i));
      isa13 = c.behind-self-2.ensures.isa ∙ ap (λ k. cond (eqb row 65) (element_of_segment x s 13).1 k.isa13.now) others.1;
      gs06 = c.behind-self-2.ensures.gs ∙ ap (λ k. cond (eqb row 66) (element_of_segment x s 6).1 k.gs06.now) others.1;
      st02 = c.behind-self-2.ensures.st ∙ ap (λ k. cond (eqb row 1) (element_of_segment x s 2).1 k.st02.now) others.1;
      numbers_of_set = c.remember.ensures.sets ∙ ap (λ (v : List ℕ). cond (eqb row 66) [] (control_numbers_of t.set_numbers) ++ cond (eqb row 1) (v ∷ []) []) second;
      numbers_of_lines = c.remember.ensures.lines ∙ (λ i. cond (eqb row 1) [] (line_numbers_of t.line_numbers) ++ cond (line i) (first i ∷ []) []);
      used = c.mark.ensures.used ∙ ap (λ (u : UsedRows). set (cond (eqb row 1) (replicate 256 false) u.used) row true) others.2;
      needed = c.mark.ensures.needed ∙ (λ i. cond (eqb row 2) (m.needed (second i)) (others.2 i).needed);
      line = c.line_behind-self.ensures ∙ (λ i. line_after (others.3 i) (e i) c.args.placed.outer (line i) (order i) (given i)) ∙ asked_is x p t.line _ c.args.placed.outer;
    })
    t.rows.whole c.mark.ensures.byte
