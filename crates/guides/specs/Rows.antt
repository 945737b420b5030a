-- What a table means.
use Rattle.std.specs.Prelude.{◌≡◌, ℕ, true, List, map}
use Rattle.std.specs.Borrow.{Bor}
use Rattle.std.specs.List.{list_all}
use Rattle.guide.specs.declared.rules.Row.{Row}
use Rattle.guide.specs.Meaning.{ElementRule, GuideRow, Standing, Meaning, standing}
use Rattle.guide.specs.Asked.{told}
use Rattle.guides.specs.declared.tables.Element.{Element}
use Rattle.guides.specs.declared.tables.TableRow.{TableRow}
use Rattle.guides.specs.Bits.{is_kept}

-- the bytes that a reference points to
abbrev pub bytes_of : Bor (List ℕ) → List ℕ
bytes_of r = r.now

-- a list of codes, an element, a row, a row where it stands, and a row as it is told
abbrev pub texts : List (Bor (List ℕ)) → List (List ℕ)
texts codes = map bytes_of codes

abbrev pub element_meant : Element → ElementRule
element_meant e = record { number = e.number; rule = e.rule; codes = texts e.codes.now }

abbrev pub row_meant : TableRow → GuideRow
row_meant r = record {
  name = r.name.now;
  placing = texts r.placing.now;
  least = r.told.least;
  greatest = r.told.greatest;
  elements = map element_meant r.elements.list.now;
  pairs = r.pairs.list.now;
}

abbrev pub standing_meant : TableRow → Standing
standing_meant r = record { depth = r.told.depth; inner = r.told.inner; this = row_meant r }

abbrev pub told_of : TableRow → Row
told_of r = r.told

-- The rows of the table stand as the rows of the meaning do, and are told as these are; their bits are right.
abbrev pub Means : List TableRow → Meaning → Type 0
Means rows m = (map standing_meant rows ≡ standing 0 m.tree) × (map told_of rows ≡ map told (standing 0 m.tree)) × (list_all is_kept rows ≡ true)
