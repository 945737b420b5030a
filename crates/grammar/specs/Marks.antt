-- The marks of segments, and which of them a row matches.
use Rattle.std.specs.Prelude.{◌≡◌, ℕ, ◌⊎◌, List, [], ◌∷◌}

-- A segment's mark is its name with its first element, both as bytes. An absent element is the empty list.
pub record Mark : Type 0 where
  pub name : List ℕ
  pub first : List ℕ

-- What a row's segments are known by: their name, and the codes that place them. No codes: any first element does.
pub record Label : Type 0 where
  pub name : List ℕ
  pub codes : List (List ℕ)

-- The value is one of the list.
abbrev pub OneOf : {A : Type 0} → List A → A → Type 0
OneOf [] value = ⊥
OneOf (x ∷ xs) value = (value ≡ x) ⊎ OneOf xs value

-- The codes admit the first element: there are none, or it is one of them.
abbrev pub Admit : List (List ℕ) → List ℕ → Type 0
Admit [] first = Unit {0}
Admit (code ∷ codes) first = OneOf (code ∷ codes) first

-- A row matches a mark of its name and, if it has codes, one of them.
abbrev pub Matches : Label → Mark → Type 0
Matches label mark = (mark.name ≡ label.name) × Admit label.codes mark.first
