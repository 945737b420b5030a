use Rattle.std.proofs.Common.{◌≡◌, ◌-◌, List, ◌∷◌, length, get_or, refl, ap, ◌∙◌, inl, inr, arith, length-append}
use Rattle.std.proofs.lemmas.List.{get_or_at}
use Rattle.results.specs.declared.rows.SegmentRow.{SegmentRow}
use Rattle.results.proofs.number.loop_at.Goals as goal

pub returns-then-opening-eq0 : goal.returns-then-opening-eq0
returns-then-opening-eq0 c =
    record {
      none = λ e. refl;
      some = λ front s behind e n.
          let l = ap length e ∙ length-append front (s ∷ behind) in
          elim c.then-opening-eq0.either [ inl h ↦ absurd (omega arith) | inr h ↦ absurd (omega (arith, h.1)) ];
    }

pub returns : goal.returns
returns c =
    record {
      none = λ e. absurd (c.if-opening-eq0.false e);
      some = λ front s behind e n.
          let none : SegmentRow = record { place = 0; length = 0; row = 0; around = 0 } in
          let k : length front ≡ c.args.opening - 1 = omega arith in
          ap (λ (xs : List SegmentRow). (get_or xs (c.args.opening - 1) none).around) e
          ∙ ap (λ (x : SegmentRow). x.around) (get_or_at front s behind none (c.args.opening - 1) k);
    }
