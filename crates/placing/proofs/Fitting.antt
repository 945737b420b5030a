-- A row fits a mark exactly where its label matches it, and the rows of a set are rows of the guide.
use Rattle.std.proofs.Common.{◌≡◌, ℕ, zero, suc, ◌+◌, ◌≤◌, List, [], ◌∷◌, length, Some, Decides, Option, sym, refl, ap, subst, arith}
use Rattle.std.proofs.lemmas.Slice.Eq.{bytes_eq-Decides}
use Rattle.std.proofs.lemmas.Bool.Decides.{Decides-and, Decides-or}
use Rattle.std.specs.Str.{bytes_eq}
use Rattle.x12.specs.Lists.{nth}
use Rattle.grammar.specs.Tree.{HasRow, count, NumberedFrom, after_first}
use Rattle.grammar.specs.Marks.{Mark, OneOf, Admit, Matches}
use Rattle.grammar.proofs.Numbering.{numbered_within}
use Rattle.guide.specs.Meaning.{Meaning, Standing, standing, size}
use Rattle.guide.specs.Asked.{row_at, rows_of, label, label_of, fits_row, test, matches, is_among, admits}
use Rattle.guide.specs.Law.{Lawful}
use Rattle.guide.proofs.Sets.{lawful_rows, count_numbered}
use Rattle.placing.proofs.Tables.{length_standing}

pub among_decides : (v : List ℕ) (cs : List (List ℕ)) → Decides (is_among v cs) (OneOf cs v)
among_decides v [] = ((λ e. let z : ◌≡◌ {A = ℕ} 0 1 = cc in omega arith), (λ x. absurd x))
among_decides v (c ∷ cs) = Decides-or (bytes_eq v c) (is_among v cs) (bytes_eq-Decides v c) (among_decides v cs)

pub admits_decides : (cs : List (List ℕ)) (v : List ℕ) → Decides (admits cs v) (Admit cs v)
admits_decides [] v = ((λ e. tt), (λ x. refl))
admits_decides (c ∷ cs) v = among_decides v (c ∷ cs)

pub fits_decides : (m : Meaning) (q : ℕ) (s : Standing) (mark : Mark) → row_at m q ≡ Some s → Decides (fits_row m q mark.name mark.first) (Matches (label_of m q) mark)
fits_decides m q s mark e =
    subst (λ (o : Option Standing). Decides (test (λ (x : Standing). matches x.this mark.name mark.first) o) (Matches (label o) mark)) (sym e)
    (Decides-and (bytes_eq mark.name s.this.name) (admits s.this.placing mark.first) (bytes_eq-Decides mark.name s.this.name) (admits_decides s.this.placing mark.first))

nth_some : {A : Type 0} (xs : List A) (n : ℕ) → 1 ≤ n → n ≤ length xs → (x : A) × (nth xs n ≡ Some x)
nth_some [] n a h = absurd (omega arith)
nth_some (x ∷ xs) zero a h = absurd (omega arith)
nth_some (x ∷ xs) (suc zero) a h = (x, refl)
nth_some (x ∷ xs) (suc (suc n)) a h = nth_some xs (suc n) (omega arith) (omega arith)

-- the rows behind ST have the numbers from 2 on, up to 64
pub others_within : (m : Meaning) → Lawful m → (q : ℕ) → HasRow (after_first (rows_of m)) q → (2 ≤ q) × (q ≤ size m.tree)
others_within m w q i =
    let l = lawful_rows m w in
    let e = l.first in
    let n : NumberedFrom 2 (after_first (rows_of m)) = (subst (NumberedFrom 1) e l.numbered).2 in
    let b = numbered_within (after_first (rows_of m)) 2 n q i in
    let c : count (rows_of m) ≡ suc (0 + count (after_first (rows_of m))) = ap count e in
    let k = count_numbered 1 m.tree in
    (b.0, omega (arith, b.1))

pub others_known : (m : Meaning) → Lawful m → (q : ℕ) → HasRow (after_first (rows_of m)) q → (s : Standing) × (row_at m q ≡ Some s)
others_known m w q i =
    let h = others_within m w q i in
    let l = length_standing 0 m.tree in
    nth_some (standing 0 m.tree) q (omega (arith, h.0)) (omega (arith, h.1))
