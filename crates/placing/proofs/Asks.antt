-- What a guide's answers say of its table.
use Rattle.std.proofs.Common.{◌≡◌, ℕ, zero, suc, ◌+◌, ◌<◌, ◌≤◌, ◌≢◌, List, [], ◌∷◌, length, drop, Some, None, Option, sym, refl, ap, ◌∙◌, subst, arith}
use Rattle.x12.specs.Lists.{nth}
use Rattle.grammar.proofs.Search.{NoRowOfDepth}
use Rattle.guide.specs.declared.rules.Row.{Row}
use Rattle.guide.specs.Meaning.{Meaning, Standing, standing}
use Rattle.guide.specs.Asked.{row_at, row_of, over, told}
use Rattle.guide.specs.Law.{Lawful}
use Rattle.placing.specs.Model.{table_of, RowBehind}
use Rattle.placing.proofs.Tables.{length_standing, table_at, table_end, loop_within}

over_some : (o : Option Standing) (r : Row) → Some r ≡ over told o → (s : Standing) × (o ≡ Some s) × (told s ≡ r)
over_some None r e = let z : ◌≡◌ {A = ℕ} 0 1 = cc in absurd (omega arith)
over_some (Some s) r e = (s, refl, (let q : told s ≡ r = cc in q))

over_none : (o : Option Standing) → None ≡ over told o → o ≡ None
over_none None e = refl
over_none (Some s) e = let z : ◌≡◌ {A = ℕ} 0 1 = cc in absurd (omega arith)

nth_past : {A : Type 0} (xs : List A) (n : ℕ) → length xs < n → nth xs n ≡ None
nth_past [] n h = refl
nth_past (x ∷ xs) zero h = absurd (omega arith)
nth_past (x ∷ xs) (suc zero) h = absurd (omega arith)
nth_past (x ∷ xs) (suc (suc n)) h = nth_past xs (suc n) (omega arith)

module _ (m : Meaning) where
  -- the row that the guide tells
  pub told_row : (n : ℕ) (r : Row) → Some r ≡ row_of m n → (s : Standing) × (row_at m n ≡ Some s) × (told s ≡ r)
  told_row n r e = over_some (row_at m n) r e

  -- where it tells none behind a place, or the place is past all rows, there is none of any depth
  pub no_row_told : (place d : ℕ) → None ≡ row_of m (place + 1) → NoRowOfDepth d (drop place (table_of m))
  no_row_told place d e = subst (NoRowOfDepth d) (sym (table_end m place (over_none (row_at m (place + 1)) e))) tt

  pub no_row_past : Lawful m → (place d : ℕ) → 64 ≤ place → NoRowOfDepth d (drop place (table_of m))
  no_row_past w place d h =
      let few = w.few_rows in
      let l = length_standing 0 m.tree in
      subst (NoRowOfDepth d) (sym (table_end m place (nth_past (standing 0 m.tree) (place + 1) (omega arith)))) tt

  pub other_depth : (place d : ℕ) (r : Row) → Some r ≡ row_of m (place + 1) → r.depth ≢ d → NoRowOfDepth d (drop place (table_of m))
  other_depth place d r e n =
      let t = told_row (place + 1) r e in
      subst (NoRowOfDepth d) (sym (table_at m place t.0 t.1)) (λ q. n (ap (λ (x : Row). x.depth) (sym t.2) ∙ q))

  pub row_behind_lem : Lawful m → (place d : ℕ) (r : Row) → Some r ≡ row_of m (place + 1) → r.depth ≡ d → RowBehind m place d r
  row_behind_lem w place d r e q =
      let t = told_row (place + 1) r e in
      let few = w.few_rows in
      let h = loop_within m (place + 1) t.0 t.1 in
      let i : t.0.inner ≡ r.inner = ap (λ (x : Row). x.inner) t.2 in
      let d : t.0.depth ≡ r.depth = ap (λ (x : Row). x.depth) t.2 in
      let few_loops = w.few_loops (place + 1) t.0 t.1 in
      record { within = omega arith; told_so = sym e; level = q; shallow = omega arith }
