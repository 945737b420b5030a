-- Each branch of the search for a row, in the words of the code.
use Rattle.std.proofs.Common.{◌≡◌, ℕ, zero, suc, ◌+◌, ◌<◌, ◌≤◌, Bool, true, false, ltb, ◌⊎◌, List, ◌∷◌, length, get_or, drop, Some, sym, refl, ap, ◌∙◌, subst, inl, inr, true≢false, arith}
use Rattle.grammar.proofs.States.{State}
use Rattle.grammar.proofs.FlatTable.{UsedRow, skip_deeper}
use Rattle.grammar.proofs.Determined.{Refuses}
use Rattle.grammar.proofs.Search.{Searching, Found, RowAt, NoRowOfDepth, search_takes, search_skips, search_stops_at_row, search_takes_again, search_leaves, search_stops_at_used, search_ends}
use Rattle.guide.specs.declared.rules.Row.{Row}
use Rattle.guide.specs.Meaning.{Meaning, Standing}
use Rattle.guide.specs.Asked.{row_at, told, fits_row}
use Rattle.guide.specs.Law.{Lawful}
use Rattle.placing.specs.declared.sets.UsedRow.{UsedRow as CodeRow}
use Rattle.placing.specs.Model.{table_of, least_in, greatest_in, least_of, greatest_of, opens_in, opens_of, depth_in, depth_of, blank, below, RowBehind, Fits}
use Rattle.placing.proofs.Tables.{table_row, table_at, table_numbered, table_skips}
use Rattle.placing.proofs.Asks.{told_row}

pub below_length : (us : List CodeRow) (d : ℕ) → length (below us d) ≡ d
below_length us zero = refl
below_length us (suc d) = ap suc (below_length us d)

never_both : (b : Bool) → b ≡ false → b ≡ true → ⊥
never_both b e f = true≢false (sym f ∙ e)

module _ (m : Meaning) (us : List CodeRow) (mark : List ℕ × List ℕ) (S : State) where
  abbrev pub Search : ℕ → ℕ → Type 0
  Search i d = Searching (table_of m) (least_of m) (greatest_of m) (Fits m) mark S i (below us d)

  abbrev pub Finding : ℕ → List UsedRow → Type 0
  Finding a cs = Found (table_of m) (least_of m) (greatest_of m) S a cs

  -- the row that the guide tells behind the place
  module _ (i d : ℕ) (r : Row) (b : RowBehind m i d r) where
    s : Standing
    s = (told_row m (i + 1) r (sym b.told_so)).0

    here : row_at m (i + 1) ≡ Some s
    unfolding s
    here = (told_row m (i + 1) r (sym b.told_so)).1

    same : told s ≡ r
    unfolding s
    same = (told_row m (i + 1) r (sym b.told_so)).2

    at_row : RowAt (table_of m) i (length (below us d)) (table_row (i + 1) s)
    at_row = (ap (λ (x : Row). x.depth) same ∙ b.level ∙ sym (below_length us d), (drop (suc i) (table_of m), table_at m i s here))

    least_is : s.this.least ≡ least_of m (i + 1)
    least_is = ap least_in (sym here)

    greatest_is : s.this.greatest ≡ greatest_of m (i + 1)
    greatest_is = ap greatest_in (sym here)

    pub opens_is : ltb 0 r.inner ≡ opens_of m (i + 1)
    opens_is = ap (λ (x : Row). ltb 0 x.inner) (sym same) ∙ ap opens_in (sym here)

    pub depth_is : depth_of m (i + 1) ≡ d
    depth_is = ap depth_in here ∙ ap (λ (x : Row). x.depth) same ∙ b.level

    pub takes : Lawful m → Search i d → Finding (i + 1) (record { row = i + 1; count = 1 } ∷ below us d)
    takes w u = search_takes (table_of m) (least_of m) (greatest_of m) (Fits m) mark S (table_numbered m) i (below us d) (table_row (i + 1) s) at_row least_is greatest_is (w.uses (i + 1) s here).1 u

    pub stops_at_row : fits_row m (i + 1) mark.0 mark.1 ≡ false → 0 < r.least → Search i d → Refuses (Fits m) S mark
    stops_at_row f h u =
        search_stops_at_row (table_of m) (least_of m) (greatest_of m) (Fits m) mark S i (below us d) (table_row (i + 1) s) at_row (never_both (fits_row m (i + 1) mark.0 mark.1) f)
        (let e : s.this.least ≡ r.least = ap (λ (x : Row). x.least) same in omega arith) u

    pub skips : fits_row m (i + 1) mark.0 mark.1 ≡ false → r.least ≡ 0 → Search i d → Search (i + 1 + r.inner) d
    skips f z u =
        let e : s.inner ≡ r.inner = ap (λ (x : Row). x.inner) same in
        let k : i + 1 ≡ suc i = omega arith in
        let q : s.depth ≡ length (below us d) = at_row.0 in
        search_skips (table_of m) (least_of m) (greatest_of m) (Fits m) mark S i (i + 1 + r.inner) (below us d) (table_row (i + 1) s) at_row (never_both (fits_row m (i + 1) mark.0 mark.1) f)
        (ap (λ (x : Row). x.least) same ∙ z)
        (ap (λ (j : ℕ). drop (i + 1 + j) (table_of m)) (sym e) ∙ table_skips m (i + 1) s here ∙ (λ j. skip_deeper (q j) (drop (k j) (table_of m)))) u

  -- no row of the depth is behind the place
  module _ (i e : ℕ) (n : NoRowOfDepth (suc e) (drop i (table_of m))) where
    none_here : NoRowOfDepth (suc (length (below us e))) (drop i (table_of m))
    none_here = subst (λ (k : ℕ). NoRowOfDepth (suc k) (drop i (table_of m))) (sym (below_length us e)) n

    pub takes_again : (get_or us e blank).count < greatest_of m (get_or us e blank).row → Search i (suc e)
        → Finding (get_or us e blank).row (record { row = (get_or us e blank).row; count = (get_or us e blank).count + 1 } ∷ below us e)
    takes_again h u = search_takes_again (table_of m) (least_of m) (greatest_of m) (Fits m) mark S i (get_or us e blank).row (get_or us e blank).count (below us e) none_here h u

    pub leaves : ((greatest_of m (get_or us e blank).row ≤ (get_or us e blank).count) ⊎ (fits_row m (get_or us e blank).row mark.0 mark.1 ≡ false)) → least_of m (get_or us e blank).row ≤ (get_or us e blank).count
        → Search i (suc e) → Search i e
    leaves h l u =
        search_leaves (table_of m) (least_of m) (greatest_of m) (Fits m) mark S i (get_or us e blank).row (get_or us e blank).count (below us e) none_here
        (elim h [ inl x ↦ inl x | inr x ↦ inr (never_both (fits_row m (get_or us e blank).row mark.0 mark.1) x) ]) l u

    pub stops_at_used : ((greatest_of m (get_or us e blank).row ≤ (get_or us e blank).count) ⊎ (fits_row m (get_or us e blank).row mark.0 mark.1 ≡ false)) → (get_or us e blank).count < least_of m (get_or us e blank).row
        → Search i (suc e) → Refuses (Fits m) S mark
    stops_at_used h l u =
        search_stops_at_used (table_of m) (least_of m) (greatest_of m) (Fits m) mark S i (get_or us e blank).row (get_or us e blank).count (below us e) none_here
        (elim h [ inl x ↦ inl x | inr x ↦ inr (never_both (fits_row m (get_or us e blank).row mark.0 mark.1) x) ]) l u

  pub ends : (i : ℕ) → NoRowOfDepth 0 (drop i (table_of m)) → Search i 0 → Refuses (Fits m) S mark
  ends i n u = search_ends (table_of m) (least_of m) (greatest_of m) (Fits m) mark S i n u
