-- The elements of a segment, one after the other.
use Rattle.std.proofs.Common.{◌≡◌, ℕ, suc, ◌+◌, ◌-◌, ◌≤◌, List, [], ◌∷◌, length, replicate, Some, None, Option, IfSome, sym, ap, ◌∙◌, subst, add-zero, arith}
use Rattle.x12.specs.declared.parts.Element.{Element}
use Rattle.x12.specs.declared.parts.Segment.{Segment as SegmentValue}
use Rattle.x12.specs.declared.elements.Elements.{Elements}
use Rattle.x12.specs.Segments.{Part, parts_of}
use Rattle.x12.specs.Views.{plain}
use Rattle.x12.specs.Comes.{parts_from, NextElement, ElementComes}
use Rattle.x12.proofs.Splits.{parts_head}
use Rattle.elements.specs.Checks.{behind_first, present}

none_first : {A : Type 0} {x : A} {xs : List A} → [] ≡ x ∷ xs → ⊥
none_first e = let n : 0 ≡ suc _ = ap length e in absurd (omega (arith, n))

-- the elements of a segment, its name first
all_parts : (s : SegmentValue) → parts_of s.separator s.place s.bytes.now ≡ parts_from s (Some 0)
all_parts s = (λ i. parts_of s.separator (sym (add-zero s.place) i) s.bytes.now)

-- what comes behind the name
pub behind_name : (s : SegmentValue) (r : Option Element) (it t : Elements) → it.segment ≡ s → it.at ≡ Some 0 → it.number ≡ 0 → ElementComes it r t
    → (t.segment ≡ s) × IfSome t.at (λ _. t.number ≡ 1) × (present s.separator (plain s) ≡ parts_from s t.at)
behind_name s None it t e a n h =
    let p = parts_head s.bytes.now s.separator s.place in
    absurd (none_first (sym h ∙ (λ i. parts_from (e i) (a i)) ∙ sym (all_parts s) ∙ p.2))
behind_name s (Some x) it t e a n h = (
  h.same ∙ e,
  subst (λ (k : ℕ). IfSome t.at (λ _. t.number ≡ suc k)) n h.followed,
  ap behind_first (all_parts s ∙ (λ i. parts_from (sym e i) (sym a i)) ∙ h.first) ∙ (λ i. parts_from (e i) t.at),
)

some_number : (s : SegmentValue) (at : Option ℕ) (p : Part) (ps : List Part) (n m : ℕ) → parts_from s at ≡ p ∷ ps → IfSome at (λ _. n ≡ m) → n ≡ m
some_number s None p ps n m e h = absurd (none_first e)
some_number s (Some a) p ps n m e h = h

-- one turn: the next element has the next number
pub record Turn (s : SegmentValue) (it : Elements) (last : ℕ) (x : Element) (t : Elements) : Type 0 where
  pub number : x.number ≡ suc last
  pub first : parts_from s it.at ≡ (x.place, x.bytes.now) ∷ parts_from s t.at
  pub same : t.segment ≡ s
  pub followed : IfSome t.at (λ _. t.number ≡ suc x.number)

pub turn : (s : SegmentValue) (it : Elements) (last : ℕ) (x : Element) (t : Elements) → it.segment ≡ s → IfSome it.at (λ _. it.number ≡ suc last) → NextElement it x t → Turn s it last x t
turn s it last x t e f h =
    let first = (λ i. parts_from (sym e i) it.at) ∙ h.first ∙ (λ i. (x.place, x.bytes.now) ∷ parts_from (e i) t.at) in
    record {
      number = h.numbered ∙ some_number s it.at (x.place, x.bytes.now) (parts_from s t.at) it.number (suc last) first f;
      first = first;
      same = h.same ∙ e;
      followed = subst (λ (k : ℕ). IfSome t.at (λ _. t.number ≡ suc k)) (sym h.numbered) h.followed;
    }

-- copies up to a limit: one, and the others
pub copies_next : {A : Type 0} (limit e : ℕ) (x : A) → e ≤ limit → replicate (suc limit - e) x ≡ x ∷ replicate (suc limit - (e + 1)) x
copies_next limit e x h = let q : suc limit - e ≡ suc (suc limit - (e + 1)) = omega arith in ap (λ n. replicate n x) q
