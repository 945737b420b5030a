-- The tests of totals decide the words of the rule book.
use Rattle.std.proofs.Common.{◌≡◌, ℕ, ◌<◌, ◌≤◌, Bool, true, false, cond, not, ◌&&◌, eqb, ltb, leb, ◌≢◌, ◌⊎◌, List, [], Some, Decides, Option, refl, inl, inr}
use Rattle.std.proofs.lemmas.Slice.Eq.{bytes_eq-Decides}
use Rattle.std.proofs.lemmas.Bool.{and_parts, eqb-true, leb-true, le-leb}
use Rattle.std.proofs.lemmas.Bool.Decides.{Decides-and, Decides-not, Decides-eqb, Decides-ltb}
use Rattle.std.proofs.ByRecursion.{Decides-by_and}
use Rattle.std.specs.List.{AllByRecursion}
use Rattle.std.specs.Str.{bytes_eq}
use Rattle.grammar.specs.Marks.{OneOf}
use Rattle.guide.specs.Meaning.{Meaning}
use Rattle.guide.specs.Asked.{test}
use Rattle.placing.specs.Placed.{PlacedSegment, sum_of, has_row}
use Rattle.elements.specs.Rules.{value}
use Rattle.elements.proofs.Words.{test_decides}
use Rattle.totals.specs.Words.{quantity, is_line, acknowledged, values_of, set_of, group_of, Line, last_line}
use Rattle.totals.specs.Tests.{taken, every_of, ends_before, is_unlike, ends_unlike}

-- a value that has to be repeated is another
pub unrepeated_decides : (v : List ℕ) (o : Option (List ℕ)) → Decides (test (λ w. not (bytes_eq v w)) o) ((w : List ℕ) × (o ≡ Some w) × (v ≢ w))
unrepeated_decides v o = test_decides (λ w. not (bytes_eq v w)) (λ w. v ≢ w) (λ w. Decides-not (bytes_eq v w) (bytes_eq-Decides v w)) o

-- a quantity that has to be this number is another
pub uncounted_decides : (n : ℕ) (o : Option ℕ) → Decides (test (λ k. not (eqb n k)) o) ((k : ℕ) × (o ≡ Some k) × (n ≢ k))
uncounted_decides n o = test_decides (λ k. not (eqb n k)) (λ k. n ≢ k) (λ k. Decides-not (eqb n k) (Decides-eqb n k)) o

leb_decides : (a b : ℕ) → Decides (leb a b) (a ≤ b)
leb_decides a b = (leb-true a b, le-leb a b)

-- the loop of a line ends before p
pub ends_decides : (p : PlacedSegment) (l : Line) → Decides (ends_before p l) (AllByRecursion (λ (q : PlacedSegment). l.number ≤ q.1.outer) l.behind × (p.1.outer < l.number))
ends_decides p l =
    Decides-and (every_of (λ (q : PlacedSegment). leb l.number q.1.outer) l.behind) (ltb p.1.outer l.number)
    (Decides-by_and (λ (q : PlacedSegment). leb l.number q.1.outer) (λ (q : PlacedSegment). l.number ≤ q.1.outer) (every_of (λ (q : PlacedSegment). leb l.number q.1.outer))
    (λ q. leb_decides l.number q.1.outer) refl (λ _ _. refl) l.behind)
    (Decides-ltb p.1.outer l.number)

unlike_decides : (separator : ℕ) (l : Line) → Decides (is_unlike separator l) (sum_of (acknowledged separator) l.behind ≢ quantity (value separator l.line 2))
unlike_decides separator l =
    Decides-not (eqb (sum_of (acknowledged separator) l.behind) (quantity (value separator l.line 2))) (Decides-eqb (sum_of (acknowledged separator) l.behind) (quantity (value separator l.line 2)))

true_decides : (b : Bool) → Decides b (b ≡ true)
true_decides b = ((λ e. e), (λ e. e))

-- the loop of the last line ends before p with another sum, and the guide holds the sums
pub ends_unlike_decides : (m : Meaning) (separator : ℕ) (z : List PlacedSegment) (p : PlacedSegment) → Decides (ends_unlike m separator z p)
    ((m.held ≡ true) × ((l : Line) × (last_line separator z ≡ Some l) × ((AllByRecursion (λ (q : PlacedSegment). l.number ≤ q.1.outer) l.behind × (p.1.outer < l.number)) × (sum_of (acknowledged separator) l.behind ≢ quantity (value separator l.line 2)))))
ends_unlike_decides m separator z p =
    Decides-and m.held (test (λ l. ends_before p l && is_unlike separator l) (last_line separator z)) (true_decides m.held)
    (test_decides (λ l. ends_before p l && is_unlike separator l) _ (λ l. Decides-and (ends_before p l) (is_unlike separator l) (ends_decides p l) (unlike_decides separator l)) (last_line separator z))

-- only the elements 1 and 2 must not occur again
pub taken_elements : (separator : ℕ) (z : List PlacedSegment) (p : PlacedSegment) (e : ℕ) (v : List ℕ) → OneOf (taken separator z p e) v → (e ≡ 1) ⊎ (e ≡ 2)
taken_elements separator z p e v =
    go (eqb e 2 && has_row 1 p) (eqb e 1 && is_line separator p) (λ h. eqb-true e 2 (and_parts (eqb e 2) (has_row 1 p) h).0) (λ h. eqb-true e 1 (and_parts (eqb e 1) (is_line separator p) h).0)
  where
    go : (a b : Bool) → (a ≡ true → e ≡ 2) → (b ≡ true → e ≡ 1)
        → OneOf (cond a (values_of separator (has_row 1) 2 (group_of z)) (cond b (values_of separator (is_line separator) 1 (set_of z)) [])) v → (e ≡ 1) ⊎ (e ≡ 2)
    go true b x y o = inr (x refl)
    go false true x y o = inl (y refl)
    go false false x y o = elim o [ ]
