-- The words that the meanings of the guides are written in.
use Rattle.std.specs.Prelude.{ℕ, min, max, List, [], ◌∷◌, length}
use Rattle.value.specs.declared.forms.Form.{Form}
use Rattle.value.specs.declared.forms.Form.TheVariants.{Id, D8}
use Rattle.guide.specs.declared.rules.Need.{Need}
use Rattle.guide.specs.declared.rules.Need.TheVariants.{Must, May}
use Rattle.guide.specs.Meaning.{ElementRule, GuideRow, Tree, none, branch}

-- The length of the shortest code of a list, and that of the longest.
abbrev pub shortest : List (List ℕ) → ℕ
shortest [] = 0
shortest (c ∷ []) = length c
shortest (c ∷ (d ∷ ds)) = min (length c) (shortest (d ∷ ds))

abbrev pub longest : List (List ℕ) → ℕ
longest [] = 0
longest (c ∷ cs) = max (length c) (longest cs)

-- The rule of element n: whether it is needed, its type, its least and its greatest length, and the codes that it is held to, if there are any.
abbrev pub element : ℕ → Need → Form → ℕ → ℕ → List (List ℕ) → ElementRule
element n need form least greatest list =
    record { number = n; rule = record { need = need; form = form; least = least; greatest = greatest }; codes = list }

-- Element n has to be filled, or may be, with a value of the type and of these lengths.
abbrev pub must : ℕ → Form → ℕ → ℕ → ElementRule
must n form least greatest = element n Must form least greatest []

abbrev pub may : ℕ → Form → ℕ → ℕ → ElementRule
may n form least greatest = element n May form least greatest []

-- The same with a day, which has eight bytes.
abbrev pub must_day : ℕ → ElementRule
must_day n = must n D8 8 8

abbrev pub may_day : ℕ → ElementRule
may_day n = may n D8 8 8

-- The same with a code of a list: an Id with the lengths of the shortest and of the longest code.
abbrev pub must_code : ℕ → List (List ℕ) → ElementRule
must_code n list = element n Must Id (shortest list) (longest list) list

abbrev pub may_code : ℕ → List (List ℕ) → ElementRule
may_code n list = element n May Id (shortest list) (longest list) list

-- The pair rules a↔b: if one of the two elements is filled, so is the other.
abbrev pub holds_both_ways : ℕ → ℕ → List (ℕ × ℕ)
holds_both_ways a b = (a, b) ∷ (b, a) ∷ []

-- Rows in order. Each puts itself before the rows that come after it.
abbrev pub in_order : List (Tree → Tree) → Tree
in_order [] = none
in_order (row ∷ rows) = row (in_order rows)

-- A row that opens no loop, and one that opens a loop with these rows in order.
abbrev pub one : GuideRow → Tree → Tree
one row after = branch row none after

abbrev pub loop : GuideRow → List (Tree → Tree) → Tree → Tree
loop row rows after = branch row (in_order rows) after
