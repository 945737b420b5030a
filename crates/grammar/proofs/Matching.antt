-- Whether a label matches a mark is decided by a test, every label matches some mark, and a test finds labels that have no mark in common.
use Rattle.std.proofs.Common.{◌≡◌, ℕ, Bool, true, false, not, ◌&&◌, ◌||◌, List, [], ◌∷◌, Decides, sym, refl, ◌∙◌, subst, inl, inr}
use Rattle.std.specs.Str.{bytes_eq}
use Rattle.std.proofs.lemmas.Slice.Eq.{bytes_eq-Decides}
use Rattle.std.proofs.lemmas.Bool.{false≢true, both_ways, not-true, and_parts, or_cases}
use Rattle.std.proofs.lemmas.Bool.Decides.{Decides-and, Decides-or}
use Rattle.grammar.specs.Marks.{Mark, Label, OneOf, Admit, Matches}

-- every label matches some mark
pub some_mark : (label : Label) → (mark : Mark) × Matches label mark
some_mark label = by_codes label.codes
  where
    by_codes : (codes : List (List ℕ)) → (mark : Mark) × ((mark.name ≡ label.name) × Admit codes mark.first)
    by_codes [] = (record { name = label.name; first = [] }, (refl, tt))
    by_codes (code ∷ codes) = (record { name = label.name; first = code }, (refl, inl refl))

-- the test whether a label matches a mark
abbrev pub is_one_of : List (List ℕ) → List ℕ → Bool
is_one_of [] value = false
is_one_of (code ∷ codes) value = bytes_eq value code || is_one_of codes value

pub one_of_decides : (codes : List (List ℕ)) (value : List ℕ) → Decides (is_one_of codes value) (OneOf codes value)
one_of_decides [] value = ((λ e. absurd (false≢true e)), (λ x. absurd x))
one_of_decides (code ∷ codes) value = Decides-or (bytes_eq value code) (is_one_of codes value) (bytes_eq-Decides value code) (one_of_decides codes value)

abbrev pub codes_admit : List (List ℕ) → List ℕ → Bool
codes_admit [] first = true
codes_admit (code ∷ codes) first = is_one_of (code ∷ codes) first

pub admit_decides : (codes : List (List ℕ)) (first : List ℕ) → Decides (codes_admit codes first) (Admit codes first)
admit_decides [] first = ((λ e. tt), (λ x. refl))
admit_decides (code ∷ codes) first = one_of_decides (code ∷ codes) first

abbrev pub label_matches : Label → Mark → Bool
label_matches label mark = bytes_eq mark.name label.name && codes_admit label.codes mark.first

pub label_decides : (label : Label) (mark : Mark) → Decides (label_matches label mark) (Matches label mark)
label_decides label mark = Decides-and (bytes_eq mark.name label.name) (codes_admit label.codes mark.first) (bytes_eq-Decides mark.name label.name) (admit_decides label.codes mark.first)

pub decided : {P : Type 0} (test : Bool) → Decides test P → Dec P
decided true d = yes (d.0 refl)
decided false d = no (λ p. false≢true (d.1 p))

pub matches_decided : (label : Label) (mark : Mark) → Dec (Matches label mark)
matches_decided label mark = decided (label_matches label mark) (label_decides label mark)

-- two lists of codes have none in common
abbrev pub none_in_common : List (List ℕ) → List (List ℕ) → Bool
none_in_common [] others = true
none_in_common (code ∷ codes) others = not (is_one_of others code) && none_in_common codes others

pub none_in_common_sound : (codes others : List (List ℕ)) → none_in_common codes others ≡ true → (value : List ℕ) → OneOf codes value → OneOf others value → ⊥
none_in_common_sound [] others t value m n = m
none_in_common_sound (code ∷ codes) others t value (inl e) n =
    let p = and_parts (not (is_one_of others code)) (none_in_common codes others) t in
    both_ways (is_one_of others code) (not-true (is_one_of others code) p.0) ((one_of_decides others code).1 (subst (OneOf others) e n))
none_in_common_sound (code ∷ codes) others t value (inr m) n = none_in_common_sound codes others (and_parts (not (is_one_of others code)) (none_in_common codes others) t).1 value m n

-- no first element is admitted by both
abbrev pub codes_disjoint : List (List ℕ) → List (List ℕ) → Bool
codes_disjoint [] others = false
codes_disjoint (code ∷ codes) [] = false
codes_disjoint (code ∷ codes) (other ∷ others) = none_in_common (code ∷ codes) (other ∷ others)

pub codes_disjoint_sound : (codes others : List (List ℕ)) → codes_disjoint codes others ≡ true → (first : List ℕ) → Admit codes first → Admit others first → ⊥
codes_disjoint_sound [] others t first m n = false≢true t
codes_disjoint_sound (code ∷ codes) [] t first m n = false≢true t
codes_disjoint_sound (code ∷ codes) (other ∷ others) t first m n = none_in_common_sound (code ∷ codes) (other ∷ others) t first m n

-- no mark is matched by both labels
abbrev pub labels_disjoint : Label → Label → Bool
labels_disjoint one other = not (bytes_eq one.name other.name) || codes_disjoint one.codes other.codes

pub labels_disjoint_sound : (one other : Label) → labels_disjoint one other ≡ true → (mark : Mark) → Matches one mark → Matches other mark → ⊥
labels_disjoint_sound one other t mark m n =
    elim (or_cases (not (bytes_eq one.name other.name)) (codes_disjoint one.codes other.codes) t) [
      | inl e ↦ both_ways (bytes_eq one.name other.name) (not-true (bytes_eq one.name other.name) e) ((bytes_eq-Decides one.name other.name).1 (sym m.0 ∙ n.0))
      | inr e ↦ codes_disjoint_sound one.codes other.codes e mark.first m.1 n.1
    ]
