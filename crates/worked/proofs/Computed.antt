-- The verdicts of the worked interchanges, computed by the judgment, and their lines.
use Rattle.std.proofs.Common.{◌≡◌, ℕ, List, [], ◌∷◌, map, refl, subst}
use mathlib.Core.List.{head-eq_of_cons-eq, tail-eq_of_cons-eq}
use Rattle.std.specs.List.{AllByRecursion}
use Rattle.x12.specs.Header.{layout_holds}
use Rattle.std.specs.Fmt.{digits}
use Rattle.guides.specs.GuideB.{guide_b_meaning}
use Rattle.guides.specs.Kept.{guide_b_lawful}
use Rattle.verdict.specs.declared.verdicts.Verdict.{Verdict}
use Rattle.reading.specs.Promise.{VerdictOf}
use Rattle.reading.proofs.Verdicts.{verdict_by, verdict_right}
use Rattle.worked.specs.Cases.{worked}
use Rattle.worked.specs.Worked.{WorkedCases, worked_lines, ToldBy}

-- where two lists of answers are the same, what holds of each of the first holds of each of the second
all_alike : {X V : Type 0} (P : X → V → Type 0) (f g : X → V) → ((x : X) → P x (f x)) → (xs : List X) → map f xs ≡ map g xs → AllByRecursion (λ x. P x (g x)) xs
all_alike P f g h [] e = tt
all_alike P f g h (x ∷ xs) e = (subst (P x) (head-eq_of_cons-eq e) (h x), all_alike P f g h xs (tail-eq_of_cons-eq e))

-- the judgment computes the verdicts
computed : map (λ (c : List ℕ × Verdict). verdict_by guide_b_meaning c.0 4096 4096) worked ≡ map (λ (c : List ℕ × Verdict). c.1) worked
unfolding layout_holds
computed = refl

pub worked_cases : WorkedCases 4096 4096
worked_cases =
    all_alike (λ (c : List ℕ × Verdict). VerdictOf guide_b_meaning c.0 4096 4096) (λ c. verdict_by guide_b_meaning c.0 4096 4096) (λ c. c.1)
    (λ c. verdict_right guide_b_meaning c.0 4096 4096 guide_b_lawful) worked computed

pub told : ToldBy worked_lines
unfolding digits
told = refl
