-- Laws of the definitions, each named by the contract of a function of its own.
use Rattle.std.specs.Prelude.{◌≡◌, ℕ, suc, ◌+◌, List, [], ◌∷◌, ◌++◌, length}
use Rattle.std.specs.List.{ContainsAt as Has}
use Rattle.x12.specs.declared.faults.Fault.{Fault}
use Rattle.x12.specs.Segments.{Part, parts_of}
use Rattle.x12.specs.Rank.{First}
use Rattle.x12.specs.Met.{Met}

-- a list that begins at a place is split at the bytes that equal `mark`, into these parts
pub data Split (mark : ℕ) : ℕ → List ℕ → List Part → Type 0 where
  -- no mark is left: the rest is the last part
  last : {at : ℕ} (v : List ℕ) → (Has v mark → ⊥) → Split mark at v ((at, v) ∷ [])
  -- a part with no mark in it, a mark, and the parts behind
  next : {at : ℕ} (v rest : List ℕ) (ps : List Part) → (Has v mark → ⊥) → Split mark (suc (at + length v)) rest ps → Split mark at (v ++ mark ∷ rest) ((at, v) ∷ ps)

-- every list is split in one way and no second: the parts that `parts_of` gives
abbrev pub OneSplit : Type 0
OneSplit = (mark at : ℕ) (xs : List ℕ) → Split mark at xs (parts_of mark at xs) × ((ps : List Part) → Split mark at xs ps → ps ≡ parts_of mark at xs)

-- no interchange has two first byte faults
abbrev pub OneFirstFault : Type 0
OneFirstFault = (I : List ℕ) (f g : Fault) → First (Met I) f → First (Met I) g → f ≡ g
