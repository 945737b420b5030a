-- What a judge may ask of a guide, as the meaning answers it.
use Rattle.std.specs.Prelude.{ℕ, ◌^◌, ◌<◌, max, Bool, true, false, cond, ◌&&◌, ◌||◌, List, [], ◌∷◌, Some, None, Option, ◌==◌, nat_eq}
use Rattle.std.specs.Str.{bytes_eq}
use Rattle.x12.specs.Lists.{nth}
use Rattle.grammar.specs.Tree.{Rows}
use Rattle.grammar.specs.Marks.{Label}
use Rattle.guide.specs.declared.rules.Rule.{Rule}
use Rattle.guide.specs.declared.rules.Row.{Row}
use Rattle.guide.specs.Meaning.{ElementRule, GuideRow, Meaning, Standing, standing, numbered}

-- the row with number n, counted from 1
abbrev pub row_at : Meaning → ℕ → Option Standing
row_at m n = nth (standing 0 m.tree) n

abbrev pub over : {A B : Type 0} → (A → B) → Option A → Option B
over f None = None
over f (Some x) = Some (f x)

abbrev pub and_then : {A B : Type 0} → Option A → (A → Option B) → Option B
and_then None f = None
and_then (Some x) f = f x

-- a test of what is there; nothing passes it
abbrev pub test : {A : Type 0} → (A → Bool) → Option A → Bool
test f None = false
test f (Some x) = f x

-- the greatest number of an element that a rule names, and that a pair rule names
abbrev pub last_rule : List ElementRule → ℕ
last_rule [] = 0
last_rule (e ∷ es) = max e.number (last_rule es)

abbrev pub last_pair : List (ℕ × ℕ) → ℕ
last_pair [] = 0
last_pair (p ∷ ps) = max (max p.0 p.1) (last_pair ps)

abbrev pub has_pairs : List (ℕ × ℕ) → Bool
has_pairs [] = false
has_pairs (p ∷ ps) = true

-- a row as it is told
abbrev pub told : Standing → Row
told s = record {
  depth = s.depth;
  inner = s.inner;
  least = s.this.least;
  greatest = s.this.greatest;
  elements = max (last_rule s.this.elements) (last_pair s.this.pairs);
  paired = has_pairs s.this.pairs;
}

abbrev pub row_of : Meaning → ℕ → Option Row
row_of m n = over told (row_at m n)

-- the value is one of the codes, by bytes
abbrev pub is_among : List ℕ → List (List ℕ) → Bool
is_among v [] = false
is_among v (c ∷ cs) = let more = is_among v cs in bytes_eq v c || more

-- an empty list of codes holds nothing back
abbrev pub admits : List (List ℕ) → List ℕ → Bool
admits [] v = true
admits (c ∷ cs) v = is_among v (c ∷ cs)

-- a row matches a mark of its name and, if it has codes that place it, one of them
abbrev pub matches : GuideRow → List ℕ → List ℕ → Bool
matches r name first = bytes_eq name r.name && admits r.placing first

abbrev pub fits_row : Meaning → ℕ → List ℕ → List ℕ → Bool
fits_row m n name first = test (λ s. matches s.this name first) (row_at m n)

-- the rule of element e
abbrev pub find_rule : ℕ → List ElementRule → Option ElementRule
find_rule e [] = None
find_rule e (x ∷ xs) = let more = find_rule e xs in cond (e == x.number) (Some x) more

abbrev pub element_at : Meaning → ℕ → ℕ → Option ElementRule
element_at m n e = and_then (row_at m n) (λ s. find_rule e s.this.elements)

abbrev pub rule_of : Meaning → ℕ → ℕ → Option Rule
rule_of m n e = over (λ x. x.rule) (element_at m n e)

-- a rule whose lengths are 32-bit numbers
abbrev pub Short : Rule → Type 0
Short r = (r.least < 2 ^ 32) × (r.greatest < 2 ^ 32)

-- the value is a code of element e of row n, or the element has no codes
abbrev pub is_code : Meaning → ℕ → ℕ → List ℕ → Bool
is_code m n e v = test (λ x. admits x.codes v) (element_at m n e)

-- some pair rule of the row is (a, b)
abbrev pub any_pair : (ℕ × ℕ → Bool) → List (ℕ × ℕ) → Bool
any_pair f [] = false
any_pair f (p ∷ ps) = let more = any_pair f ps in f p || more

abbrev pub pairs_in : Meaning → ℕ → ℕ → ℕ → Bool
pairs_in m n a b = test (λ s. any_pair (λ p. (a == p.0) && b == p.1) s.this.pairs) (row_at m n)

-- some pair rule of the row asks for b
abbrev pub paired_to : Meaning → ℕ → ℕ → Bool
paired_to m n b = test (λ s. any_pair (λ p. nat_eq b p.1) s.this.pairs) (row_at m n)

-- a guide as derivations see it: its rows by number, and what their segments are known by
abbrev pub rows_of : Meaning → Rows
rows_of m = numbered 1 m.tree

abbrev pub label : Option Standing → Label
label None = record { name = []; codes = [] }
label (Some s) = record { name = s.this.name; codes = s.this.placing }

abbrev pub label_of : Meaning → ℕ → Label
label_of m n = label (row_at m n)
