-- That a number came before, in the library's word for some number of a list of references.
use Rattle.std.proofs.Common.{◌≡◌, ℕ, ◌||◌, List, map, refl, Bor}
use Rattle.std.specs.Str.{bytes_eq}
use Rattle.std.specs.List.{list_any}
use Rattle.std.proofs.lemmas.List.Recursion.{same_from_clauses}
use Rattle.seen.specs.Came.{bytes_of, came_before}

pub any_came : (v : List ℕ) (ns : List (Bor (List ℕ))) → list_any (λ n. bytes_eq v (bytes_of n)) ns ≡ came_before v (map bytes_of ns)
any_came v ns =
    same_from_clauses (list_any (λ n. bytes_eq v (bytes_of n))) (λ xs. came_before v (map bytes_of xs)) (λ n more. bytes_eq v (bytes_of n) || more) refl (λ _ _. refl) (λ _ _. refl) ns
