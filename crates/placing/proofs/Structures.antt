-- The one fault of structure that an interchange meets, by what was placed of it.
use Rattle.std.proofs.Common.{◌≡◌, ℕ, suc, ◌⊎◌, List, [], ◌∷◌, ◌++◌, length, sym, refl, ap, ◌∙◌, subst, inl, inr, append_assoc, append-nil}
use Rattle.x12.specs.declared.faults.Fault.{Fault}
use Rattle.x12.specs.Header.{separator_of}
use Rattle.x12.specs.Segments.{Segment, segments_of}
use Rattle.x12.specs.Causes.{fault}
use Rattle.x12.specs.Rank.{key, Before, First, NoneOf}
use Rattle.x12.proofs.Rank.{lex_refl}
use Rattle.grammar.specs.Marks.{Mark}
use Rattle.grammar.specs.Interchange.{Derivation, Begins}
use Rattle.grammar.specs.Theorems.{OneDerivation}
use Rattle.guide.specs.Meaning.{Meaning}
use Rattle.guide.specs.Asked.{rows_of, label_of}
use Rattle.placing.specs.Placing.{FitsNowhere}
use Rattle.placing.specs.Structure.{mark_in, marks_in, Misfits, no_row_takes, ends_early, StructureMet}

-- two ways to part a list at an item: the first is earlier, or the second, or they are the same
abbrev head_of : {X : Type 0} (d : X) → List X → X
head_of d [] = d
head_of d (x ∷ xs) = x

abbrev tail_of : {X : Type 0} → List X → List X
tail_of [] = []
tail_of (x ∷ xs) = xs

abbrev pub Parted : {X : Type 0} → List X → X → List X → X → Type 0
Parted {X} a x b y = ((rest : List X) × (b ≡ a ++ (x ∷ rest))) ⊎ (((rest : List X) × (a ≡ b ++ (y ∷ rest))) ⊎ ((a ≡ b) × (x ≡ y)))

pub parted : {X : Type 0} (a : List X) (x : X) (u : List X) (b : List X) (y : X) (v : List X) → a ++ (x ∷ u) ≡ b ++ (y ∷ v) → Parted a x b y
parted [] x u [] y v e = inr (inr (refl, ap (head_of x) e))
parted [] x u (z ∷ b) y v e = inl (b, λ i. ap (head_of x) (sym e) i ∷ b)
parted (z ∷ a) x u [] y v e = inr (inl (a, λ i. ap (head_of y) e i ∷ a))
parted (z ∷ a) x u (w ∷ b) y v e =
    let h : z ≡ w = ap (head_of z) e in
    elim (parted a x u b y v (ap tail_of e)) [
      | inl t ↦ inl (t.0, λ i. sym h i ∷ t.1 i)
      | inr s ↦ elim s [ inl t ↦ inr (inl (t.0, λ i. h i ∷ t.1 i)) | inr t ↦ inr (inr ((λ i. h i ∷ t.0 i), t.1)) ]
    ]

pub map-append : (separator : ℕ) (a b : List Segment) → marks_in separator (a ++ b) ≡ marks_in separator a ++ marks_in separator b
map-append separator [] b = refl
map-append separator (x ∷ a) b = ap (λ (l : List Mark). mark_in separator x ∷ l) (map-append separator a b)

module _ (m : Meaning) (I : List ℕ) where
  abbrev Starts : List Mark → Type 0
  Starts marks = Begins (label_of m) (rows_of m) marks

  starts_less : (a b : List Mark) → Starts (a ++ b) → Starts a
  starts_less a b (more, spots, d) = (b ++ more, spots, subst (λ (l : List Mark). Derivation (label_of m) (rows_of m) l spots) (append_assoc a b more) d)

  -- where a segment fits nowhere, no longer list of segments begins a derivation
  too_long : (a : List Segment) (x : Segment) (rest b : List Segment) → b ≡ a ++ (x ∷ rest) → FitsNowhere m (marks_in (separator_of I) a) (mark_in (separator_of I) x) → Starts (marks_in (separator_of I) b) → ⊥
  too_long a x rest b e f st =
      let ms : List Mark = marks_in (separator_of I) a in
      let k : Mark = mark_in (separator_of I) x in
      let q : marks_in (separator_of I) b ≡ (ms ++ (k ∷ [])) ++ marks_in (separator_of I) rest =
      ap (marks_in (separator_of I)) e ∙ map-append (separator_of I) a (x ∷ rest) ∙ sym (append_assoc ms (k ∷ []) (marks_in (separator_of I) rest)) in
      f.1 (starts_less (ms ++ (k ∷ [])) (marks_in (separator_of I) rest) (subst Starts q st))

  pub one_misfit : {n k p n' k' p' : ℕ} → Misfits m I n k p → Misfits m I n' k' p' → fault n k 0 p ≡ fault n' k' 0 p'
  one_misfit (no_row_takes a x u e f) (no_row_takes b y v e' f') =
      elim (parted a x u b y v (sym e ∙ e')) [
        | inl t ↦ absurd (too_long a x t.0 b t.1 f f'.0)
        | inr s ↦ elim s [
          | inl t ↦ absurd (too_long b y t.0 a t.1 f' f.0)
          | inr t ↦ (λ i. fault 6 (suc (length (t.0 i))) 0 (t.1 i).place)
        ]
      ]
  one_misfit (no_row_takes a x u e f) (ends_early o) = absurd (too_long a x u (segments_of I) e f o.0)
  one_misfit (ends_early o) (no_row_takes a x u e f) = absurd (too_long a x u (segments_of I) e f o.0)
  one_misfit (ends_early o) (ends_early o') = refl

  pub misfit_first : (n k p : ℕ) (f : Fault) → Misfits m I n k p → f ≡ fault n k 0 p → First (StructureMet m I) f
  misfit_first n k p f x e =
      ((n, k, p, x, e), λ g (n', k', p', y, e'). subst (Before f) (e ∙ one_misfit x y ∙ sym e') (lex_refl (key f)))

  pub no_misfit : OneDerivation (label_of m) (rows_of m) (marks_in (separator_of I) (segments_of I)) → NoneOf (StructureMet m I)
  no_misfit (spots, d, one) f (n, k, p, x, e) = go x
    where
      all : Starts (marks_in (separator_of I) (segments_of I))
      all = ([], spots, subst (λ (l : List Mark). Derivation (label_of m) (rows_of m) l spots) (sym (append-nil (marks_in (separator_of I) (segments_of I)))) d)

      go : {n k p : ℕ} → Misfits m I n k p → ⊥
      go (no_row_takes a y u q f) = too_long a y u (segments_of I) q f all
      go (ends_early o) = o.1 spots d
