use Rattle.std.proofs.Common.{sym, ◌∙◌, subst, arith}
use Rattle.value.proofs.Numbers.{digits_utf8, Reads, parsed}
use Rattle.value.proofs.digits.number.Goals as goal

pub returns-in_default : goal.returns-in_default
returns-in_default c = absurd (c.in_default.ensures.cases.0 (digits_utf8 c.args.v.now (sym c.is_digits.ensures ∙ c.if-not-is_digits.false)))

pub returns : goal.returns
returns c =
    let v = c.args.v.now in
    let read = rw c.in-Ok.ensures.cases.0 at c.parse.ensures.value.0 in
    subst (Reads v) (sym c.ok.ensures.value) (parsed v c.parse.result (sym c.is_digits.ensures ∙ c.if-not-is_digits.false) (omega arith) read)
