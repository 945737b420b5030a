-- A part of a list of bytes, with its place.
use Rattle.std.proofs.Common.{◌≡◌, ℕ, ◌+◌, ◌-◌, ◌≤◌, List, length, take, drop, sym, ap, ◌∙◌, arith}
use Rattle.std.proofs.lemmas.List.Edits.{length-between}
use Rattle.std.proofs.lemmas.List.{drop-drop, take-take}
use Rattle.std.proofs.lemmas.Slice.{between_is}
use Rattle.std.specs.List.{between}
use Rattle.x12.specs.Elements.{PartOf}

-- a part of a whole, and a part of that part
pub part_of : (xs : List ℕ) (p at e : ℕ) → at ≤ e → e ≤ length xs → PartOf xs p (p + at) (between at e xs)
part_of xs p at e lo hi =
    let n : length (between at e xs) ≡ e - at = length-between xs at e hi in
    let a : at ≡ (p + at) - p = omega arith in
    let b : e ≡ (p + at) - p + length (between at e xs) = omega arith in
    record {
      low = omega arith;
      inside = omega arith;
      part = (λ i. between (a i) (b i) xs);
    }

between_between : (xs : List ℕ) (s t a e : ℕ) → e ≤ t - s → between a e (between s t xs) ≡ between (s + a) (s + e) xs
between_between xs s t a e le =
    let d : e - a ≡ (s + e) - (s + a) = omega arith in
    between_is (between s t xs) a e ∙ ap (drop a) (take-take e (t - s) (drop s xs) le) ∙ sym (between_is (drop s xs) a e)
    ∙ ap (take (e - a)) (drop-drop a s xs) ∙ ap (λ n. take n (drop (s + a) xs)) d

pub part_within : (I whole bytes : List ℕ) (at place : ℕ) → at + length whole ≤ length I → whole ≡ between at (at + length whole) I → PartOf whole at place bytes
    → (place + length bytes ≤ length I) × (bytes ≡ between place (place + length bytes) I)
part_within I whole bytes at place w p q =
    let lo = q.low in
    let hi = q.inside in
    let a : at + (place - at) ≡ place = omega arith in
    let b : at + (place - at + length bytes) ≡ place + length bytes = omega arith in (
      omega arith,
      q.part
          ∙ ap (λ (l : List ℕ). between (place - at) (place - at + length bytes) l) p
          ∙ between_between I at (at + length whole) (place - at) (place - at + length bytes) (omega arith)
          ∙ (λ i. between (a i) (b i) I),
    )
