-- No interchange has two first faults.
use Rattle.std.proofs.Common.{◌≡◌, ℕ, suc, List, length, sym, ap, ◌∙◌, inl, inr, arith}
use Rattle.x12.specs.declared.faults.Fault.{Fault}
use Rattle.x12.specs.Header.{separator_of}
use Rattle.x12.specs.Elements.{element_of_segment}
use Rattle.x12.specs.Causes.{fault}
use Rattle.x12.specs.Rank.{First}
use Rattle.x12.proofs.Rank.{same_rank}
use Rattle.x12.proofs.Meets.{one_first}
use Rattle.x12.proofs.SegmentFaults.{met_rank}
use Rattle.guide.specs.Meaning.{Meaning}
use Rattle.placing.proofs.Joined.{misfit_rank}
use Rattle.placing.proofs.Structures.{one_misfit}
use Rattle.reading.specs.Met.{UpperMet, Met}
use Rattle.reading.proofs.MetRank.{upper_rank, same_parting}

module _ (m : Meaning) (I : List ℕ) where
  -- a fault of an element or of a total with its number, element and segment
  as_upper : (f : Fault) (u : UpperMet m I f) → (n e : ℕ) × (f ≡ fault n (suc (length u.0)) e (element_of_segment (separator_of I) u.1.0 e).0)
  as_upper f (z, p, r, inl (n, e, x, q)) = (n, e, q)
  as_upper f (z, p, r, inr (n, e, x, q)) = (n, e, q)

  one_upper : (f g : Fault) → UpperMet m I f → UpperMet m I g → f.number ≡ g.number → f.segment ≡ g.segment → f.element ≡ g.element → f ≡ g
  one_upper f g a b n k e =
      let x = as_upper f a in
      let y = as_upper g b in
      let number : x.0 ≡ y.0 = sym (ap (λ (h : Fault). h.number) x.2) ∙ (n ∙ ap (λ (h : Fault). h.number) y.2) in
      let element : x.1 ≡ y.1 = sym (ap (λ (h : Fault). h.element) x.2) ∙ (e ∙ ap (λ (h : Fault). h.element) y.2) in
      let segment : suc (length a.0) ≡ suc (length b.0) = sym (ap (λ (h : Fault). h.segment) x.2) ∙ (k ∙ ap (λ (h : Fault). h.segment) y.2) in
      let same : a.1.0 ≡ b.1.0 = (same_parting m I b.0 a.0 b.1.0 a.1.0 b.2.behind a.2.behind b.2.all a.2.all (omega arith)).1 in
      x.2 ∙ ((λ i. fault (number i) (segment i) (element i) (element_of_segment (separator_of I) (same i) (element i)).0) ∙ sym y.2)

  pub first_one : (f g : Fault) → First (Met m I) f → First (Met m I) g → f ≡ g
  first_one f g a b = go a.0 b.0
    where
      rank : (f.number ≡ g.number) × (f.segment ≡ g.segment) × (f.layer ≡ g.layer) × (f.element ≡ g.element)
      rank = same_rank f g (a.1 g b.0) (b.1 f a.0)

      go : Met m I f → Met m I g → f ≡ g
      go (inl (inl x)) (inl (inl y)) = one_first I f g (x, λ h z. a.1 h (inl (inl z))) (y, λ h z. b.1 h (inl (inl z)))
      go (inl (inl x)) (inl (inr y)) = let p = (met_rank I f x).1 in let q = (misfit_rank m I g y).1 in let r = rank.2 in absurd (omega arith)
      go (inl (inl x)) (inr y) = let p = (met_rank I f x).1 in let q = (upper_rank m I g y).1 in let r = rank.2 in absurd (omega arith)
      go (inl (inr x)) (inl (inl y)) = let p = (misfit_rank m I f x).1 in let q = (met_rank I g y).1 in let r = rank.2 in absurd (omega arith)
      go (inl (inr x)) (inl (inr y)) = x.4 ∙ (one_misfit m I x.3 y.3 ∙ sym y.4)
      go (inl (inr x)) (inr y) = let p = (misfit_rank m I f x).1 in let q = (upper_rank m I g y).1 in let r = rank.2 in absurd (omega arith)
      go (inr x) (inl (inl y)) = let p = (upper_rank m I f x).1 in let q = (met_rank I g y).1 in let r = rank.2 in absurd (omega arith)
      go (inr x) (inl (inr y)) = let p = (upper_rank m I f x).1 in let q = (misfit_rank m I g y).1 in let r = rank.2 in absurd (omega arith)
      go (inr x) (inr y) = one_upper f g x y rank.0 rank.1 rank.3
