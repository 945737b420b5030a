use Rattle.std.proofs.Common.{◌+◌, drop, nat_le, sym, ◌∙◌, ap, length-drop, arith}
use Rattle.std.proofs.lemmas.List.Sums.{prefix_len-le-length}
use Rattle.results.proofs.Closing.{last_by_is}
use Rattle.results.proofs.close.last_segment.Goals as goal

pub overflow_add-result : goal.overflow_add-result
overflow_add-result c =
    let xs = c.args.segments.now in
    let within = prefix_len-le-length (λ s. nat_le c.args.opening s.around) (drop c.args.opening c.args.segments.now) in
    omega (arith, within, c.rows_within.ensures, length-drop c.args.opening c.args.segments.now)

pub returns : goal.returns
returns c = ap (λ n. c.args.opening + n) c.rows_within.ensures ∙ sym (last_by_is c.args.opening c.args.opening (drop c.args.opening c.args.segments.now))
