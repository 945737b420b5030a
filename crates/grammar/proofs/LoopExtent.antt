-- How far a loop extends: no segment inside it stands in a loop that was opened before it.
use Rattle.std.proofs.Common.{ℕ, ◌≤◌, Bool, true, false, cond, List, arith}
use Rattle.std.specs.List.{AllByRecursion}
use Rattle.std.proofs.ByRecursion.{All-append}
use Rattle.grammar.specs.Tree.{Rows}
use Rattle.grammar.specs.Derivations.{Spot, opens_loop, InOrder, no_row, next_row, Uses, no_use, next_use}

-- the segments stand in loops that were opened at b or later
abbrev pub OuterFrom : ℕ → List Spot → Type 0
OuterFrom b spots = AllByRecursion (λ (x : Spot). b ≤ x.outer) spots

loop_from : (opens : Bool) (b around place : ℕ) → b ≤ around → b ≤ place → b ≤ cond opens place around
loop_from true b around place p q = q
loop_from false b around place p q = p

mutual
  -- rows in order from the place b on, or later, that stand in the loop b or in one inside it
  pub rows_outer_from : {rows : Rows} {around place : ℕ} {spots : List Spot} (b : ℕ) → InOrder rows around place spots → b ≤ around → b ≤ place → OuterFrom b spots
  rows_outer_from b no_row p q = tt
  rows_outer_from b (next_row {place = n} {used = u} {others = v} l g s r) p q = All-append (λ (x : Spot). b ≤ x.outer) u v (uses_outer_from b s p q) (rows_outer_from b r p (omega arith))

  pub uses_outer_from : {number times around place : ℕ} {inner : Rows} {spots : List Spot} (b : ℕ) → Uses number inner times around place spots → b ≤ around → b ≤ place → OuterFrom b spots
  uses_outer_from b no_use p q = tt
  uses_outer_from b (next_use {number = a} {around = h} {place = n} {inner = inner} {inside = u} {others = v} r s) p q =
      (p, All-append (λ (x : Spot). b ≤ x.outer) u v (rows_outer_from b r (loop_from (opens_loop a inner) b h n p q) (omega arith)) (uses_outer_from b s p (omega arith)))
