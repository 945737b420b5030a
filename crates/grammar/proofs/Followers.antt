-- Rows that may directly follow a row in a derivation are those that directly follow it in rows that the tree accepts.
use Rattle.std.proofs.Common.{◌≡◌, ℕ, List, [], ◌∷◌, ◌++◌, sym, refl, ap, ◌∙◌, subst}
use mathlib.Core.List.{map-append, cons≢nil, head-eq_of_cons-eq, tail-eq_of_cons-eq}
use Rattle.grammar.specs.Tree.{Rows}
use Rattle.grammar.specs.Marks.{Mark, Label, Matches}
use Rattle.grammar.specs.Derivations.{Spot, InOrder, RowsMatch, Adjacent, MayFollow}
use Rattle.grammar.proofs.States.{StateMayEnd, Accepts, Follows}
use Rattle.grammar.proofs.Finishing.{RowsFit}
use Rattle.grammar.proofs.LoopStates.{without_loops, rows_of, forget_run, looped_run}
use Rattle.grammar.proofs.DerivationRuns.{derivation_run, run_derivation}
use Rattle.grammar.proofs.Matching.{some_mark}

-- the row of this number matches the mark
abbrev pub ByLabel : (ℕ → Label) → ℕ → Mark → Type 0
ByLabel label q mark = Matches (label q) mark

pub match_fit : (label : ℕ → Label) (w : List Spot) (ms : List Mark) → RowsMatch label w ms → RowsFit (ByLabel label) (rows_of w) ms
match_fit label [] [] f = tt
match_fit label [] (m ∷ ms) f = f
match_fit label (x ∷ w) [] f = f
match_fit label (x ∷ w) (m ∷ ms) f = (f.0, match_fit label w ms f.1)

pub fit_match : (label : ℕ → Label) (w : List Spot) (ms : List Mark) → RowsFit (ByLabel label) (rows_of w) ms → RowsMatch label w ms
fit_match label [] [] f = tt
fit_match label [] (m ∷ ms) f = f
fit_match label (x ∷ w) [] f = f
fit_match label (x ∷ w) (m ∷ ms) f = (f.0, fit_match label w ms f.1)

pub some_marks : (label : ℕ → Label) (w : List Spot) → (ms : List Mark) × RowsMatch label w ms
some_marks label [] = ([], tt)
some_marks label (x ∷ w) =
    let m = some_mark (label x.row) in
    let ms = some_marks label w in
    (m.0 ∷ ms.0, (m.1, ms.1))

-- the rows of a derivation are rows that the tree accepts, and such rows are those of a derivation
pub derivation_accepts : (rows : Rows) (h n : ℕ) (w : List Spot) → InOrder rows h n w → Accepts (rows ∷ []) (rows_of w)
derivation_accepts rows h n w d =
    let t = derivation_run d in
    (without_loops t.0, forget_run t.1, t.2)

pub accepts_derivation : (rows : Rows) (h n : ℕ) (w : List ℕ) → Accepts (rows ∷ []) w → (v : List Spot) × InOrder rows h n v × (rows_of v ≡ w)
accepts_derivation rows h n w (X, r, e) =
    let t = looped_run r ((rows, h) ∷ []) n refl in
    (t.0, run_derivation (t.1, t.2, subst StateMayEnd (sym t.4) e), t.3)

-- two rows side by side among the rows of spots
rows_adjacent : (u : List ℕ) (p q : ℕ) (v : List ℕ) (w : List Spot) → rows_of w ≡ u ++ (p ∷ q ∷ v) → Adjacent p q w
rows_adjacent [] p q v [] e = absurd (cons≢nil (sym e))
rows_adjacent [] p q v (x ∷ []) e = absurd (cons≢nil (sym (tail-eq_of_cons-eq e)))
rows_adjacent [] p q v (x ∷ y ∷ w) e = ([], x, y, w, refl, head-eq_of_cons-eq e, head-eq_of_cons-eq (tail-eq_of_cons-eq e))
rows_adjacent (z ∷ u) p q v [] e = absurd (cons≢nil (sym e))
rows_adjacent (z ∷ u) p q v (x ∷ w) e =
    let t = rows_adjacent u p q v w (tail-eq_of_cons-eq e) in
    (x ∷ t.0, t.1, t.2, t.3, ap (λ (s : List Spot). x ∷ s) t.4, t.5, t.6)

pub may_follow_follows : (label : ℕ → Label) (rows : Rows) (p q : ℕ) → MayFollow label rows p q → Follows rows p q
may_follow_follows label rows p q (marks, w, d, (u, x, y, v, e, f, g)) =
    let a : Accepts (rows ∷ []) (rows_of w) = derivation_accepts rows 0 1 w d.0 in
    let h : rows_of w ≡ rows_of u ++ (p ∷ q ∷ rows_of v) = ap rows_of e ∙ (map-append (λ (z : Spot). z.row) u (x ∷ y ∷ v) ∙ (λ i. rows_of u ++ (f i ∷ g i ∷ rows_of v))) in
    (rows_of u, rows_of v, subst (Accepts (rows ∷ [])) h a)

pub follows_may_follow : (label : ℕ → Label) (rows : Rows) (p q : ℕ) → Follows rows p q → MayFollow label rows p q
follows_may_follow label rows p q (u, v, a) =
    let d = accepts_derivation rows 0 1 (u ++ (p ∷ q ∷ v)) a in
    let ms = some_marks label d.0 in
    (ms.0, d.0, (d.1, ms.1), rows_adjacent u p q v d.0 d.2)
