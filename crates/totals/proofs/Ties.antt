-- What a tally keeps is what the definitions ask for.
use Rattle.std.proofs.Common.{◌≡◌, ℕ, suc, ◌+◌, ◌<◌, Bool, true, false, cond, not, ◌&&◌, ◌||◌, eqb, ltb, leb, List, [], ◌∷◌, ◌++◌, length, get_or, Some, None, Ok, Err, codes, Option, Result, sym, refl, ap, ◌∙◌, arith}
use Rattle.std.specs.Str.{bytes_eq}
use Rattle.std.proofs.lemmas.Bool.{ltb-true}
use Rattle.x12.specs.declared.faults.Fault.{Fault}
use Rattle.x12.specs.Lists.{filled, and_then}
use Rattle.x12.specs.Elements.{element_of_segment}
use Rattle.guide.specs.Meaning.{Meaning}
use Rattle.guide.specs.Asked.{test, is_among}
use Rattle.placing.specs.Placed.{PlacedSegment, sum_of, any_of, has_row}
use Rattle.elements.specs.Rules.{value}
use Rattle.elements.specs.Tests.{is_named, is_row_lacking}
use Rattle.elements.specs.Checks.{first_of}
use Rattle.elements.proofs.Parts.{name_place}
use Rattle.seen.specs.Came.{came_before}
use Rattle.seen.specs.ControlNumbers.{numbers_of as control_numbers_of}
use Rattle.seen.specs.LineNumbers.{numbers_of as line_numbers_of}
use Rattle.totals.specs.declared.open_line.OpenLine.{OpenLine}
use Rattle.totals.specs.declared.tally.Tally.{Tally}
use Rattle.totals.specs.Words.{quantity, set_of, group_of, is_line, acknowledged, values_of, Line, last_line}
use Rattle.totals.specs.Tests.{counted, summed, repeated, taken, every_of, ends_before, is_unlike, ends_unlike, total_tests, totals_check}
use Rattle.totals.specs.Steps.{counted_by, sum_by_name, differs, kept_open, line_after, is_unlike_close}
use Rattle.totals.specs.Keeps.{repeated_by, unlike_control, lacks_by, totals_by}
use Rattle.totals.specs.Small.{is_byte}
use Rattle.totals.specs.Tally.{open_in, line_opened, TallyIs}
use Rattle.totals.proofs.Pushes.{any_push, every_push, sum_push, line_push, with_behind}

-- the two words for a value that is one of a list
among_came : (v : List ℕ) (ns : List (List ℕ)) → is_among v ns ≡ came_before v ns
among_came v [] = refl
among_came v (n ∷ ns) = ap (λ (t : Bool). bytes_eq v n || t) (among_came v ns)

among_if : (v : List ℕ) (b : Bool) (ns : List (List ℕ)) → is_among v (cond b ns []) ≡ (b && came_before v ns)
among_if v true ns = among_came v ns
among_if v false ns = refl

or_false : (a : Bool) → (a || false) ≡ a
or_false true = refl
or_false false = refl

then_ok : (r : Result (Unit {0}) Fault) → and_then r (λ u. Ok tt) ≡ r
then_ok (Ok u) = refl
then_ok (Err f) = refl

-- the open line with one more segment
module _ (separator : ℕ) (p : PlacedSegment) where
  behind_open : (o : Option Line) → open_in separator (with_behind separator p o) ≡ kept_open (open_in separator o) p.1.outer (acknowledged separator p)
  behind_open None = refl
  behind_open (Some l) =
      (λ i. cond (every_push (λ (q : PlacedSegment). leb l.number q.1.outer) l.behind p i)
      (Some (record { number = l.number; asked = quantity (value separator l.line 2); given = sum_push (acknowledged separator) l.behind p i })) None)
      ∙ go (every_of (λ (q : PlacedSegment). leb l.number q.1.outer) l.behind)
    where
      go : (b : Bool) → cond (b && leb l.number p.1.outer) (Some (record { number = l.number; asked = quantity (value separator l.line 2); given = sum_of (acknowledged separator) l.behind + acknowledged separator p })) None
          ≡ kept_open (cond b (Some (record { number = l.number; asked = quantity (value separator l.line 2); given = sum_of (acknowledged separator) l.behind })) None) p.1.outer (acknowledged separator p)
      go true = refl
      go false = refl

  pub open_push : (z : List PlacedSegment) → line_opened separator (z ++ (p ∷ [])) ≡ line_after (line_opened separator z) (suc (length z)) p.1.outer (is_line separator p) (quantity (value separator p 2)) (acknowledged separator p)
  open_push z =
      ap (open_in separator) (line_push separator 1 z p)
      ∙ go (is_line separator p)
      ∙ (λ i. cond (is_line separator p) (Some (record { number = (let e : 1 + length z ≡ suc (length z) = omega arith in e i); asked = quantity (value separator p 2); given = 0 })) (behind_open (last_line separator z) i))
    where
      go : (b : Bool) → open_in separator (cond b (Some (record { number = 1 + length z; line = p; behind = [] })) (with_behind separator p (last_line separator z)))
          ≡ cond b (Some (record { number = 1 + length z; asked = quantity (value separator p 2); given = 0 })) (open_in separator (with_behind separator p (last_line separator z)))
      go true = refl
      go false = refl

  -- the loop of the last line ends unlike exactly where the open line does
  closes : (o : Option Line) → test (λ l. ends_before p l && is_unlike separator l) o ≡ is_unlike_close (open_in separator o) p.1.outer
  closes None = refl
  closes (Some l) = go (every_of (λ (q : PlacedSegment). leb l.number q.1.outer) l.behind)
    where
      go : (b : Bool) → ((b && ltb p.1.outer l.number) && is_unlike separator l)
          ≡ is_unlike_close (cond b (Some (record { number = l.number; asked = quantity (value separator l.line 2); given = sum_of (acknowledged separator) l.behind })) None) p.1.outer
      go true = refl
      go false = refl

  pub ends_by : (m : Meaning) (z : List PlacedSegment) → ends_unlike m separator z p ≡ (m.held && is_unlike_close (line_opened separator z) p.1.outer)
  ends_by m z = ap (λ (t : Bool). m.held && t) (closes (last_line separator z))

-- the row that a set lacks
missing_same : (needed : Option ℕ) (used : List Bool) (rows : List PlacedSegment) (p : PlacedSegment) → is_byte needed ≡ true → ((r : ℕ) → r < 256 → get_or used r false ≡ any_of (has_row r) rows)
    → test (λ r. not (get_or used r false || eqb p.1.row r)) needed ≡ test (λ r. not (any_of (has_row r) (rows ++ (p ∷ [])))) needed
missing_same None used rows p b h = refl
missing_same (Some r) used rows p b h = ap not (ap (λ (t : Bool). t || eqb p.1.row r) (h r (ltb-true r 256 b)) ∙ sym (any_push (has_row r) rows p))

module _ (m : Meaning) (separator : ℕ) (z : List PlacedSegment) (p : PlacedSegment) (t : Tally) (is : TallyIs m separator z t) where
  pub lacks_by_lem : is_byte t.rows.needed ≡ true → lacks_by t.rows.needed t.rows.used p.1.row (value separator p 0) ≡ is_row_lacking m separator z p
  lacks_by_lem b =
      ap (λ (x : Bool). is_named separator (codes "SE") p && x)
      (missing_same t.rows.needed t.rows.used (set_of z) p b is.used ∙ ap (test (λ r. not (any_of (has_row r) (set_of z ++ (p ∷ []))))) is.needed)

  counted_by_lem : counted_by t.counts p.1.row (value separator p 0) ≡ counted separator z p
  counted_by_lem = (λ i. cond (is_named separator (codes "SE") p) (Some (suc (is.segments_of_set i)))
      (cond (is_named separator (codes "CTT") p) (Some (is.set_lines i))
      (cond (has_row 67 p) (Some (is.sets_of_group i))
      (cond (has_row 68 p) (Some (is.groups i)) None))))

  summed_by : sum_by_name t.counts (value separator p 0) ≡ summed separator z p
  summed_by = (λ i. cond (is_named separator (codes "CTT") p) (Some (is.set_sum i)) None)

  repeated_by_lem : repeated_by t.controls.isa13.now t.controls.gs06.now t.controls.st02.now p.1.row (value separator p 0) ≡ repeated separator z p
  repeated_by_lem = (λ i. cond (is_named separator (codes "SE") p) (Some (is.st02 i)) (cond (has_row 67 p) (Some (is.gs06 i)) (cond (has_row 68 p) (Some (is.isa13 i)) None)))

  -- the check by the tally is the check of the definitions
  pub checked_by : (k place : ℕ) → place ≡ p.0.place
      → totals_by k place (m.held && is_unlike_close t.line p.1.outer)
      (element_of_segment separator p.0 1).0 (differs (counted_by t.counts p.1.row (value separator p 0)) (value separator p 1)) (is_line separator p && came_before (value separator p 1) (line_numbers_of t.line_numbers))
      (element_of_segment separator p.0 2).0 (unlike_control (repeated_by t.controls.isa13.now t.controls.gs06.now t.controls.st02.now p.1.row (value separator p 0)) (value separator p 2))
      (filled (value separator p 2) && differs (sum_by_name t.counts (value separator p 0)) (value separator p 2))
      (has_row 1 p && came_before (value separator p 2) (control_numbers_of t.set_numbers))
      ≡ totals_check m separator k z p
  checked_by k place q =
      let unlike : (m.held && is_unlike_close t.line p.1.outer) ≡ ends_unlike m separator z p =
      ap (λ (o : Option OpenLine). m.held && is_unlike_close o p.1.outer) is.line ∙ sym (ends_by separator p m z) in
      let count : differs (counted_by t.counts p.1.row (value separator p 0)) (value separator p 1) ≡ (differs (counted separator z p) (value separator p 1) || false) =
      ap (λ (o : Option ℕ). differs o (value separator p 1)) counted_by_lem ∙ sym (or_false (differs (counted separator z p) (value separator p 1))) in
      let line : (is_line separator p && came_before (value separator p 1) (line_numbers_of t.line_numbers)) ≡ is_among (value separator p 1) (taken separator z p 1) =
      ap (λ (ns : List (List ℕ)). is_line separator p && came_before (value separator p 1) ns) is.numbers_of_lines ∙ sym (among_if (value separator p 1) (is_line separator p) (values_of separator (is_line separator) 1 (set_of z))) in
      let set : (has_row 1 p && came_before (value separator p 2) (control_numbers_of t.set_numbers)) ≡ is_among (value separator p 2) (taken separator z p 2) =
      ap (λ (ns : List (List ℕ)). has_row 1 p && came_before (value separator p 2) ns) is.numbers_of_set ∙ sym (among_if (value separator p 2) (has_row 1 p) (values_of separator (has_row 1) 2 (group_of z))) in
      (λ i. totals_by k ((q ∙ sym (name_place separator p.0)) i) (unlike i)
      (element_of_segment separator p.0 1).0 (count i) (line i)
      (element_of_segment separator p.0 2).0 (unlike_control (repeated_by_lem i) (value separator p 2)) (filled (value separator p 2) && differs (summed_by i) (value separator p 2)) (set i))
      ∙ (λ i. and_then (first_of k 0 (element_of_segment separator p.0 0).0 (total_tests m separator z p 0 (value separator p 0)))
      (λ u. and_then (first_of k 1 (element_of_segment separator p.0 1).0 (total_tests m separator z p 1 (value separator p 1)))
      (λ v. sym (then_ok (first_of k 2 (element_of_segment separator p.0 2).0 (total_tests m separator z p 2 (value separator p 2)))) i)))
