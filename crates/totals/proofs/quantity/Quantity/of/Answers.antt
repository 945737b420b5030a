use Rattle.std.proofs.Common.{◌≡◌, ℕ, ◌≤◌, sym, subst, rules}
use Rattle.totals.specs.Words.{quantity}
use Rattle.totals.proofs.Amounts.{quantity_small}
use Rattle.totals.proofs.quantity.Quantity.of.Goals as goal

pub invariant_of-result-2 : goal.invariant_of-result-2
invariant_of-result-2 c =
    let same : c.unwrap_or.result ≡ quantity c.args.v.now = search rules in
    record { small = subst (λ (n : ℕ). n ≤ 10000000000) (sym same) (quantity_small c.args.v.now) }
