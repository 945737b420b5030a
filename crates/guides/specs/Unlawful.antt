-- Meanings that break the law in one place, so that the test is seen to refuse.
use Rattle.std.specs.Prelude.{◌≡◌, ℕ, suc, ◌+◌, false, cond, List, map, codes, ◌==◌}
use Rattle.value.specs.declared.forms.Form.TheVariants.{N0}
use Rattle.guide.specs.Meaning.{ElementRule, GuideRow, Tree, none, branch, size, Meaning}
use Rattle.guide.specs.Law.{Lawful}
use Rattle.guide.proofs.LawTest.{law_test}
use Rattle.guides.specs.Tables.{must}
use Rattle.guides.specs.GuideB.{guide_b_meaning}

-- The tree with row k changed. Its rows count from n.
abbrev pub changed_from : ℕ → ℕ → (GuideRow → GuideRow) → Tree → Tree
changed_from n k change none = none
changed_from n k change (branch this inner after) =
    branch (cond (n == k) (change this) this) (changed_from (suc n) k change inner) (changed_from (suc n + size inner) k change after)

-- The meaning with row k changed.
abbrev pub changed : ℕ → (GuideRow → GuideRow) → Meaning → Meaning
changed k change m = record {
  tree = changed_from 1 k change m.tree;
  kind = m.kind;
  needed = m.needed;
  held = m.held;
  isa12 = m.isa12;
  gs08 = m.gs08;
}

-- The row with another name.
abbrev pub renamed : List ℕ → GuideRow → GuideRow
renamed name row = record {
  name = name;
  placing = row.placing;
  least = row.least;
  greatest = row.greatest;
  elements = row.elements;
  pairs = row.pairs;
}

-- The row with another rule for an element that has one.
abbrev pub with_rule : ElementRule → GuideRow → GuideRow
with_rule rule row = record {
  name = row.name;
  placing = row.placing;
  least = row.least;
  greatest = row.greatest;
  elements = map (λ x. cond (x.number == rule.number) rule x) row.elements;
  pairs = row.pairs;
}

-- Guide B with CTP renamed PID: two rows that may follow PO1 match the same mark.
abbrev pub two_pid : Meaning
two_pid = changed 8 (renamed (codes "PID")) guide_b_meaning

-- Guide B with PO102 a whole number and no quantity.
abbrev pub whole_po102 : Meaning
whole_po102 = changed 7 (with_rule (must 2 N0 1 9)) guide_b_meaning

-- The test refuses both.
abbrev pub BothRefused : Type 0
BothRefused = (law_test two_pid ≡ false) × (law_test whole_po102 ≡ false)

-- And both break the law.
abbrev pub BothBreakTheLaw : Type 0
BothBreakTheLaw = (Lawful two_pid → ⊥) × (Lawful whole_po102 → ⊥)
