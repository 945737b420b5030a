-- What the rows of a set have to keep, so that marks determine the derivations of an interchange.
use Rattle.std.specs.Prelude.{◌≡◌, ℕ, ◌≤◌, ◌≢◌, codes}
use Rattle.grammar.specs.Tree.{Rows, end, row, HasRow, count, NumberedFrom, LeastUpToGreatest, after_first}
use Rattle.grammar.specs.Marks.{Mark, Label, Matches}
use Rattle.grammar.specs.Derivations.{MayFollow}

-- Two different rows that may directly follow the same row never match the same mark.
abbrev pub FollowersDisjoint : (ℕ → Label) → Rows → Type 0
FollowersDisjoint label rows = (p q r : ℕ) → MayFollow label rows p q → MayFollow label rows p r → q ≢ r → (mark : Mark) → Matches (label q) mark → Matches (label r) mark → ⊥

-- `label` gives each row of the set, by its number, its name and codes.
pub record LawfulSet (label : ℕ → Label) (set : Rows) : Type 0 where
  -- each row's least use is at most its greatest
  pub uses : LeastUpToGreatest set
  -- the rows are numbered in order from 1
  pub numbered : NumberedFrom 1 set
  -- there are at most 64 rows
  pub few : count set ≤ 64
  -- the first row is used once and opens nothing
  pub first : set ≡ row 1 1 1 end (after_first set)
  -- the first row is ST
  pub first_is_st : (label 1).name ≡ codes "ST"
  -- no other row is ST
  pub no_other_st : (q : ℕ) → HasRow (after_first set) q → (label q).name ≢ codes "ST"
  -- no row is GE
  pub no_ge : (q : ℕ) → HasRow (after_first set) q → (label q).name ≢ codes "GE"
  -- two different rows that may directly follow the same row in a set never match the same mark
  pub followers : FollowersDisjoint label set
