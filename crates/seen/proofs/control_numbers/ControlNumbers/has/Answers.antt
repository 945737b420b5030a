use Rattle.std.proofs.Common.{List, ℕ, ap, ◌∙◌, Bor, rules, tests}
use Rattle.std.proofs.lemmas.Iterator.{YieldsList-from_slice}
use Rattle.std.proofs.lemmas.Iterator.Search.{any_from_yields_List}
use Rattle.std.specs.Str.{bytes_eq}
use Rattle.seen.specs.Came.{bytes_of, came_before}
use Rattle.seen.proofs.Comes.{any_came}
use Rattle.seen.proofs.control_numbers.ControlNumbers.has.Goals as goal

pub returns : goal.returns
returns c =
    let v = c.args.number.now in
    let all = c.self.inside.numbers.items in
    any_from_yields_List (λ (n : Bor (List ℕ)). bytes_eq v (bytes_of n)) _ _ _ c.any.ensures.ran (YieldsList-from_slice all cc) (λ x b q k. search (rules, tests)) ∙ any_came v all ∙ ap (came_before v) c.self.view_is
