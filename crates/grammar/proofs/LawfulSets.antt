-- What a lawful set makes of the interchange's rows: they are usable and distinct, and the marks determine them.
use Rattle.std.proofs.Common.{◌≡◌, ℕ, ◌≤◌, cond, eqb, [], ◌∷◌, codes, sym, refl, ◌∙◌, subst, inr, arith, lit≤}
use native.Mathlib.Decide.{ℕ_discrete}
use Rattle.std.proofs.lemmas.Slice.Eq.{bytes_eq-Decides}
use Rattle.std.proofs.lemmas.Bool.{false≢true, cond-false, ne_eqb}
use Rattle.grammar.specs.Tree.{Rows, end, row, HasRow, count, NumberedFrom, LeastUpToGreatest, after_first}
use Rattle.grammar.specs.Marks.{Mark, Label, Matches}
use Rattle.grammar.specs.Interchange.{interchange, by_name, with_envelope}
use Rattle.grammar.specs.Law.{LawfulSet}
use Rattle.grammar.proofs.States.{follows_has}
use Rattle.grammar.proofs.Distinct.{DistinctRows}
use Rattle.grammar.proofs.Finishing.{Usable}
use Rattle.grammar.proofs.Determined.{Determined, FollowersDetermined}
use Rattle.grammar.proofs.Matching.{some_mark, labels_disjoint_sound}
use Rattle.grammar.proofs.Followers.{ByLabel, follows_may_follow}
use Rattle.grammar.proofs.Numbering.{numbered_within, interchange_distinct}
use Rattle.grammar.proofs.Envelope.{interchange_determined, behind_st_determined}

-- the row of this number, of the set or of the envelope, matches the mark
abbrev pub RowMatches : (ℕ → Label) → ℕ → Mark → Type 0
RowMatches label q mark = Matches (with_envelope label q) mark

-- every row that may be used as often as it must is usable, since it matches some mark
pub labelled_usable : (label : ℕ → Label) (rows : Rows) → LeastUpToGreatest rows → Usable (ByLabel label) rows
labelled_usable label end u = tt
labelled_usable label (row a lo hi inner after) u = (u.0, some_mark (label a), labelled_usable label inner u.1, labelled_usable label after u.2)

-- a set's rows keep their labels in the interchange
pub label_of_set : (label : ℕ → Label) (q : ℕ) → q ≤ 64 → with_envelope label q ≡ label q
label_of_set label q h =
    let iea : Label = cond (eqb q 68) (by_name (codes "IEA")) (label q) in
    let ge : Label = cond (eqb q 67) (by_name (codes "GE")) iea in
    let gs : Label = cond (eqb q 66) (by_name (codes "GS")) ge in
    cond-false (eqb q 65) (by_name (codes "ISA")) gs (ne_eqb q 65 (λ e. omega arith))
    ∙ (cond-false (eqb q 66) (by_name (codes "GS")) ge (ne_eqb q 66 (λ e. omega arith))
    ∙ (cond-false (eqb q 67) (by_name (codes "GE")) iea (ne_eqb q 67 (λ e. omega arith))
    ∙ cond-false (eqb q 68) (by_name (codes "IEA")) (label q) (ne_eqb q 68 (λ e. omega arith))))

module _ (label : ℕ → Label) (set : Rows) (lawful : LawfulSet label set) where
  few_others : count (after_first set) ≤ 63
  few_others =
      let h : count (row 1 1 1 end (after_first set)) ≤ 64 = subst (λ (x : Rows). count x ≤ 64) lawful.first lawful.few in
      omega arith

  numbered_others : NumberedFrom 2 (after_first set)
  numbered_others = (subst (NumberedFrom 1) lawful.first lawful.numbered).2

  in_set_lem : (q : ℕ) → HasRow set q → q ≤ 64
  in_set_lem q i =
      let b = numbered_within set 1 lawful.numbered q i in
      let h : count set ≤ 64 = lawful.few in
      omega (arith, b.1)

  others_in_set : (q : ℕ) → HasRow (after_first set) q → HasRow set q
  others_in_set q i = subst (λ (x : Rows). HasRow x q) (sym lawful.first) (inr (inr i))

  -- a row of the set matches in the interchange what it matches by its own label
  own_match : (q : ℕ) (m : Mark) → HasRow set q → RowMatches label q m → Matches (label q) m
  own_match q m i r = subst (λ (x : Label). Matches x m) (label_of_set label q (in_set_lem q i)) r

  -- the law of followers, for rows that are read
  set_followers : FollowersDetermined (RowMatches label) set
  set_followers p q₁ q₂ m f₁ f₂ r₁ r₂ =
      elim (ℕ_discrete q₁ q₂) [
        | yes e ↦ e
        | no n ↦ absurd (lawful.followers p q₁ q₂ (follows_may_follow label set p q₁ f₁) (follows_may_follow label set p q₂ f₂) n m (own_match q₁ m (follows_has set p q₁ f₁).1 r₁) (own_match q₂ m (follows_has set p q₂ f₂).1 r₂))
      ]

  -- names that differ have no mark in common
  st_ge : (m : Mark) → RowMatches label 1 m → RowMatches label 67 m → ⊥
  st_ge m x y = false≢true ((bytes_eq-Decides (codes "ST") (codes "GE")).1 (sym lawful.first_is_st ∙ (sym x.0 ∙ y.0)))

  not_st : (q : ℕ) (m : Mark) → HasRow (after_first set) q → RowMatches label q m → RowMatches label 1 m → ⊥
  not_st q m i x y = lawful.no_other_st q i (sym (own_match q m (others_in_set q i) x).0 ∙ (y.0 ∙ lawful.first_is_st))

  not_ge : (q : ℕ) (m : Mark) → HasRow (after_first set) q → RowMatches label q m → RowMatches label 67 m → ⊥
  not_ge q m i x y = lawful.no_ge q i (sym (own_match q m (others_in_set q i) x).0 ∙ y.0)

  pub lawful_usable : Usable (RowMatches label) (interchange set)
  lawful_usable =
      let u : LeastUpToGreatest (after_first set) = (subst LeastUpToGreatest lawful.first lawful.uses).2 in
      labelled_usable (with_envelope label) (interchange set) (lit≤ tt, tt, (lit≤ tt, (lit≤ tt, u, (lit≤ tt, tt, tt)), (lit≤ tt, tt, tt)))

  pub lawful_distinct : DistinctRows (interchange set)
  lawful_distinct = interchange_distinct (after_first set) numbered_others few_others

  pub lawful_determined : Determined (RowMatches label) (interchange set ∷ [])
  lawful_determined =
      interchange_determined (after_first set) (RowMatches label)
      (behind_st_determined (RowMatches label) (after_first set)
      (subst (Usable (RowMatches label)) lawful.first (labelled_usable (with_envelope label) set lawful.uses))
      (subst (FollowersDetermined (RowMatches label)) lawful.first set_followers))
      st_ge (labels_disjoint_sound (by_name (codes "GS")) (by_name (codes "IEA")) refl) not_st not_ge
