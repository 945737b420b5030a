-- Words for lists, tests and checks that all definitions share.
-- `cond`, `&&` and `||` compute all their arguments, so a branch that recurses is bound by a `let`, which waits.
use Rattle.std.specs.List.{list_any}
use Rattle.std.specs.Prelude.{◌≡◌, ℕ, zero, suc, Bool, true, false, ◌&&◌, ◌⊎◌, List, [], ◌∷◌, Some, None, Ok, Err, Option, Result, nat_eq}

-- each number below n passes the test
abbrev pub below : (ℕ → Bool) → ℕ → Bool
below f zero = true
below f (suc n) = let less = below f n in f n && less

-- n is one of the list
abbrev pub among : ℕ → List ℕ → Bool
among n xs = list_any (λ x. nat_eq n x) xs

-- there is at least one byte
abbrev pub filled : List ℕ → Bool
filled [] = false
filled (x ∷ xs) = true

-- what stands at place n of a list, counted from 1; nothing stands at 0
abbrev pub nth : {A : Type 0} → List A → ℕ → Option A
nth [] n = None
nth (x ∷ xs) zero = None
nth (x ∷ xs) (suc zero) = Some x
nth (x ∷ xs) (suc (suc n)) = nth xs (suc n)

-- y stands at place n of the list, whose first place is e
abbrev pub Item : {X : Type 0} → ℕ → List X → ℕ → X → Type 0
Item e [] n y = ⊥
Item e (x ∷ xs) n y = ((n ≡ e) × (y ≡ x)) ⊎ Item (suc e) xs n y

-- go on where a check found nothing
abbrev pub and_then : {A B F : Type 0} → Result A F → (A → Result B F) → Result B F
and_then (Ok a) next = next a
and_then (Err f) next = Err f

-- check each of a list in order, with its place, up to the first fault
abbrev pub each : {X F : Type 0} → (ℕ → X → Result (Unit {0}) F) → ℕ → List X → Result (Unit {0}) F
each check e [] = Ok tt
each check e (x ∷ xs) = and_then (check e x) (λ u. each check (suc e) xs)
