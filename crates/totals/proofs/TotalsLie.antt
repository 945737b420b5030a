-- Where the faults of totals lie: in layer 4, at their segment.
use Rattle.std.proofs.Common.{◌≡◌, ℕ, List, refl, ap, ◌∙◌}
use Rattle.x12.specs.declared.faults.Fault.{Fault}
use Rattle.x12.specs.Causes.{layer_of}
use Rattle.x12.specs.Rank.{phase}
use Rattle.guide.specs.Meaning.{Meaning}
use Rattle.placing.specs.Placed.{PlacedSegment}
use Rattle.totals.specs.Fails.{TotalsFails, wrong_control, wrong_count, wrong_sum, unlike_sum, again, TotalsMet}

totals_rank : {m : Meaning} {separator : ℕ} {z : List PlacedSegment} {p : PlacedSegment} {n e : ℕ} → TotalsFails m separator z p n e → (phase n ≡ 0) × (layer_of n ≡ 4)
totals_rank (wrong_control w h v) = (refl, refl)
totals_rank (wrong_count n h v) = (refl, refl)
totals_rank (wrong_sum n h v q) = (refl, refl)
totals_rank (unlike_sum l h a b c d) = (refl, refl)
totals_rank (again o) = (refl, refl)

pub totals_lie : (m : Meaning) (separator k : ℕ) (z : List PlacedSegment) (p : PlacedSegment) (f : Fault) → TotalsMet m separator k z p f
    → (phase f.number ≡ 0) × (f.layer ≡ 4) × (f.segment ≡ k)
totals_lie m separator k z p f (n, e, x, q) =
    let r = totals_rank x in
    (ap (λ (g : Fault). phase g.number) q ∙ r.0, ap (λ (g : Fault). g.layer) q ∙ r.1, ap (λ (g : Fault). g.segment) q)
