use Rattle.std.proofs.Common.{◌≡◌, false, Ok, Err, MatchResult, sym, ap, ◌∙◌, subst}
use Rattle.std.specs.List.{list_any}
use Rattle.x12.specs.Causes.{cause_of}
use Rattle.x12.specs.Views.{plain}
use Rattle.x12.specs.Checks.{bad_byte, part_judged}
use Rattle.x12.proofs.Clean.{clean_judged}
use Rattle.x12.proofs.parts.Segment.check.Goals as goal

pub returns : goal.returns
returns c =
    let s = c.args.self.now in
    let clean : list_any (bad_byte s.component) s.bytes.now ≡ false = cc in
    subst (λ r. MatchResult c.check_name.result (λ u. r ≡ Ok u) (λ f. r ≡ Err (cause_of f)))
    (sym (clean_judged s.separator s.component s.number (plain s) clean ∙ ap (part_judged false s.number s.closed 0) c.part.ensures.0))
    c.check_name.ensures
