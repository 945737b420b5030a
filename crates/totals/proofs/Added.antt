-- What a segment adds, as the code keeps it and as the definitions say.
use Rattle.std.proofs.Common.{◌≡◌, ℕ, Bool, true, false, cond, Option, refl}
use Rattle.placing.specs.Placed.{PlacedSegment}
use Rattle.elements.specs.Rules.{value}
use Rattle.totals.specs.declared.open_line.OpenLine.{OpenLine}
use Rattle.totals.specs.Words.{quantity, is_line, ordered, acknowledged}
use Rattle.totals.specs.Steps.{line_after}

module _ (x : ℕ) (p : PlacedSegment) where
  -- what is asked counts only of a line
  pub asked_is : (o : Option OpenLine) (k outer : ℕ) → line_after o k outer (is_line x p) (ordered x p) (acknowledged x p) ≡ line_after o k outer (is_line x p) (quantity (value x p 2)) (acknowledged x p)
  asked_is o k outer = go (is_line x p)
    where
      go : (a : Bool) → line_after o k outer a (cond a (quantity (value x p 2)) 0) (acknowledged x p) ≡ line_after o k outer a (quantity (value x p 2)) (acknowledged x p)
      go true = refl
      go false = refl
