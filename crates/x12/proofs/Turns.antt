-- A check of each part of a list, one part a turn.
use Rattle.std.proofs.Common.{◌≡◌, ℕ, suc, ◌+◌, List, ◌∷◌, Ok, Err, Result, sym, ap, ◌∙◌, add-one}
use Rattle.x12.specs.Lists.{and_then, each}

module _ {X F : Type 0} (check : ℕ → X → Result (Unit {0}) F) where
  -- the first of a list is refused, or the check goes on with the next
  pub each_stop : (e : ℕ) (x : X) (xs ys : List X) (f : F) → ys ≡ x ∷ xs → check e x ≡ Err f → each check e ys ≡ Err f
  each_stop e x xs ys f p h = ap (each check e) p ∙ ap (λ (r : Result (Unit {0}) F). and_then r (λ u. each check (suc e) xs)) h

  pub each_on : (e : ℕ) (x : X) (xs ys : List X) (u : Unit {0}) → ys ≡ x ∷ xs → check e x ≡ Ok u → each check e ys ≡ each check (e + 1) xs
  each_on e x xs ys u p h =
      ap (each check e) p ∙ ap (λ (r : Result (Unit {0}) F). and_then r (λ v. each check (suc e) xs)) h ∙ ap (λ (n : ℕ). each check n xs) (sym (add-one e))
