-- Where the faults of elements lie: in layer 3, at their segment.
use Rattle.std.proofs.Common.{◌≡◌, ℕ, List, refl, ap, ◌∙◌}
use Rattle.x12.specs.declared.faults.Fault.{Fault}
use Rattle.x12.specs.Causes.{layer_of}
use Rattle.x12.specs.Rank.{phase}
use Rattle.guide.specs.Meaning.{Meaning}
use Rattle.placing.specs.Placed.{PlacedSegment}
use Rattle.elements.specs.Fails.{ElementFails, empty_must, filled_unused, wrong_length, wrong_type, wrong_code, wrong_pair, broken_pair, missing_row, ElementMet}

element_rank : {m : Meaning} {separator : ℕ} {z : List PlacedSegment} {p : PlacedSegment} {n e : ℕ} → ElementFails m separator z p n e → (phase n ≡ 0) × (layer_of n ≡ 3)
element_rank (empty_must r h d v) = (refl, refl)
element_rank (filled_unused u v) = (refl, refl)
element_rank (wrong_length r j h) = (refl, refl)
element_rank (wrong_type r j h) = (refl, refl)
element_rank (wrong_code r j h) = (refl, refl)
element_rank (wrong_pair b v w h) = (refl, refl)
element_rank (broken_pair a h v w) = (refl, refl)
element_rank (missing_row b r s l n h) = (refl, refl)

pub element_lies : (m : Meaning) (separator k : ℕ) (z : List PlacedSegment) (p : PlacedSegment) (f : Fault) → ElementMet m separator k z p f
    → (phase f.number ≡ 0) × (f.layer ≡ 3) × (f.segment ≡ k)
element_lies m separator k z p f (n, e, x, q) =
    let r = element_rank x in
    (ap (λ (g : Fault). phase g.number) q ∙ r.0, ap (λ (g : Fault). g.layer) q ∙ r.1, ap (λ (g : Fault). g.segment) q)
