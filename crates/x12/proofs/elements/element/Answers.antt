use Rattle.std.proofs.Common.{◌≡◌, ◌+◌, sym, ap, ◌∙◌, arith, rules}
use Rattle.std.proofs.lemmas.Option.{MatchOption-at_some, MatchOption-at_none}
use Rattle.x12.specs.declared.parts.Element.{Element}
use Rattle.x12.specs.Lists.{nth}
use Rattle.x12.specs.Segments.{segments_of}
use Rattle.x12.specs.Views.{plain}
use Rattle.x12.proofs.Hands.{at_none, from_ok, no_segment, handed_out}
use Rattle.x12.proofs.Headers.{check_sound, sound_check}
use Rattle.x12.proofs.Nth.{nth_of_all, nth_zero}
use Rattle.x12.proofs.elements.element.Goals as goal

pub returns-in_err-read : goal.returns-in_err-read
returns-in_err-read c = at_none _ c.from_residual.result c.from_residual.ensures (λ s. absurd (let e = sound_check c.args.interchange.now s in search rules))

pub returns-in_err-checked_sub : goal.returns-in_err-checked_sub
returns-in_err-checked_sub c =
    let I = c.args.interchange.now in
    let z : c.args.segment ≡ 0 = omega (arith, c.in_err-checked_sub.ensures) in
    at_none _ c.from_residual-in_err-checked_sub.result c.from_residual-in_err-checked_sub.ensures
    (λ s. no_segment I c.args.segment c.args.number (ap (nth (segments_of I)) z ∙ nth_zero (segments_of I)))

pub returns-in_err-found : goal.returns-in_err-found
returns-in_err-found c =
    let I = c.args.interchange.now in
    let read = c.in_ok-read.read in
    let h = from_ok _ _ c.read.result read (sym c.ok.ensures.value ∙ c.in_ok-read.was) c.read.ensures in
    let n = c.in_ok-checked_sub.field-0 in
    let k : n + 1 ≡ c.args.segment = omega (arith, c.in_ok-checked_sub.ensures) in
    let m = nth_of_all I c.args.segment read n _ c.nth.result c.nth.new.self (search rules) h.0 h.4 k c.nth.ensures.ran in
    at_none _ c.from_residual-in_err-found.result c.from_residual-in_err-found.ensures
    (λ s. no_segment I c.args.segment c.args.number (MatchOption-at_none _ _ c.in_err-found.was m))

pub returns : goal.returns
returns c =
    let I = c.args.interchange.now in
    let read = c.in_ok-read.read in
    let h = from_ok _ _ c.read.result read (sym c.ok.ensures.value ∙ c.in_ok-read.was) c.read.ensures in
    let n = c.in_ok-checked_sub.field-0 in
    let k : n + 1 ≡ c.args.segment = omega (arith, c.in_ok-checked_sub.ensures) in
    let m = nth_of_all I c.args.segment read n _ c.nth.result c.nth.new.self (search rules) h.0 h.4 k c.nth.ensures.ran in
    let x = c.in_ok-found.found in
    let f = MatchOption-at_some _ _ x c.in_ok-found.was m in
    handed_out I c.args.segment c.args.number x.separator (plain x) (check_sound I tt h.1) (f.1 ∙ h.2) f.0 f.2 f.3
    (λ (e : Element). e.place) (λ (e : Element). e.bytes.now) c.element.result c.element.ensures
