-- One segment more: what a tally then keeps.
use Rattle.std.proofs.Common.{◌≡◌, ℕ, suc, ◌+◌, ◌*◌, ◌<◌, ◌≤◌, Bool, true, false, cond, ◌||◌, eqb, ◌⊎◌, List, [], ◌∷◌, ◌++◌, length, get_or, set, replicate, Some, None, codes, Option, sym, refl, ap, ◌∙◌, subst, inl, inr, arith, get_or-set_other, get_or-set_same}
use Rattle.std.proofs.lemmas.Bool.{cases_eq, eq-eqb, ne_eqb}
use Rattle.guide.specs.Meaning.{Meaning}
use Rattle.guide.specs.Asked.{and_then}
use Rattle.placing.specs.Placed.{PlacedSegment, sum_of, any_of, or_else, last_of, has_row}
use Rattle.elements.specs.Rules.{value}
use Rattle.elements.specs.Tests.{is_named}
use Rattle.seen.specs.ControlNumbers.{numbers_of as control_numbers_of}
use Rattle.seen.specs.LineNumbers.{numbers_of as line_numbers_of}
use Rattle.totals.specs.declared.counts.Counts.{Counts}
use Rattle.totals.specs.declared.open_line.OpenLine.{OpenLine}
use Rattle.totals.specs.declared.tally.Tally.{Tally}
use Rattle.totals.specs.Words.{quantity, set_of, group_of, is_line, ordered, acknowledged, last_value, value_in, Line, last_line_from}
use Rattle.totals.specs.Steps.{counts_behind, line_after}
use Rattle.totals.specs.Roomy.{SmallCounts}
use Rattle.totals.specs.Tally.{TallyIs}
use Rattle.totals.proofs.Amounts.{quantity_small, none_used}
use Rattle.totals.proofs.Pushes.{sum_push, count_push, last_push, since_sum, since_count, since_length, since_any, since_values, since_short, count_few}
use Rattle.totals.proofs.Ties.{open_push}

-- what a step of the tally is to do with the segment p, which has the number k
pub record Steps (m : Meaning) (separator k : ℕ) (p : PlacedSegment) (t t' : Tally) : Type 0 where
  pub counts : t'.counts ≡ counts_behind t.counts p.1.row (is_line separator p) (ordered separator p)
  pub isa13 : t'.controls.isa13.now ≡ cond (has_row 65 p) (value separator p 13) t.controls.isa13.now
  pub gs06 : t'.controls.gs06.now ≡ cond (has_row 66 p) (value separator p 6) t.controls.gs06.now
  pub st02 : t'.controls.st02.now ≡ cond (has_row 1 p) (value separator p 2) t.controls.st02.now
  pub numbers_of_set : control_numbers_of t'.set_numbers ≡ cond (has_row 66 p) [] (control_numbers_of t.set_numbers) ++ cond (has_row 1 p) (value separator p 2 ∷ []) []
  pub numbers_of_lines : line_numbers_of t'.line_numbers ≡ cond (has_row 1 p) [] (line_numbers_of t.line_numbers) ++ cond (is_line separator p) (value separator p 1 ∷ []) []
  pub used : t'.rows.used ≡ set (cond (has_row 1 p) (replicate 256 false) t.rows.used) p.1.row true
  pub needed : t'.rows.needed ≡ cond (has_row 2 p) (m.needed (value separator p 2)) t.rows.needed
  pub line : t'.line ≡ line_after t.line k p.1.outer (is_line separator p) (quantity (value separator p 2)) (acknowledged separator p)

value_if : (separator e : ℕ) (b : Bool) (p : PlacedSegment) (o : Option PlacedSegment) → value_in separator e (cond b (Some p) o) ≡ cond b (value separator p e) (value_in separator e o)
value_if separator e true p o = refl
value_if separator e false p o = refl

then_if : {A B : Type 0} (b : Bool) (x : A) (o : Option A) (f : A → Option B) → and_then (cond b (Some x) o) f ≡ cond b (f x) (and_then o f)
then_if true x o f = refl
then_if false x o f = refl

get_d_if : (b : Bool) (xs ys : List Bool) (r : ℕ) → get_or (cond b xs ys) r false ≡ cond b (get_or xs r false) (get_or ys r false)
get_d_if true xs ys r = refl
get_d_if false xs ys r = refl

length_if : (b : Bool) (ys : List Bool) → length ys ≡ 256 → length (cond b (replicate 256 false) ys) ≡ 256
length_if true ys h = refl
length_if false ys h = h

or_true : (a : Bool) → (a || true) ≡ true
or_true true = refl
or_true false = refl

or_false : (a : Bool) → (a || false) ≡ a
or_false true = refl
or_false false = refl

marked : (xs : List Bool) (i r : ℕ) → i < length xs → get_or (set xs i true) r false ≡ (get_or xs r false || eqb i r)
marked xs i r l = go (cases_eq i r)
  where
    go : (i ≡ r) ⊎ (i ≡ r → ⊥) → get_or (set xs i true) r false ≡ (get_or xs r false || eqb i r)
    go (inl e) =
        ap (λ (n : ℕ). get_or (set xs i true) n false) (sym e) ∙ get_or-set_same xs i true false l
        ∙ sym (ap (λ (t : Bool). get_or xs r false || t) (eq-eqb i r e) ∙ or_true (get_or xs r false))
    go (inr n) =
        get_or-set_other xs i r true false (λ q. n (sym q))
        ∙ sym (ap (λ (t : Bool). get_or xs r false || t) (ne_eqb i r n) ∙ or_false (get_or xs r false))

module _ (m : Meaning) (separator : ℕ) (z : List PlacedSegment) (p : PlacedSegment) (t t' : Tally) (is : TallyIs m separator z t) (step : Steps m separator (suc (length z)) p t t')
    (whole : length t.rows.used ≡ 256) (byte : p.1.row < 256) where
  now_last : (e n : ℕ) → (f : PlacedSegment → Bool) → cond (f p) (value separator p e) (last_value separator f e z) ≡ last_value separator f e (z ++ (p ∷ []))
  now_last e n f = sym (value_if separator e (f p) p (last_of f z)) ∙ ap (value_in separator e) (sym (last_push f z p))

  more_used : (r : ℕ) → r < 256 → get_or t'.rows.used r false ≡ any_of (has_row r) (set_of (z ++ (p ∷ [])))
  more_used r l =
      let l₀ : p.1.row < length (cond (has_row 1 p) (replicate 256 false) t.rows.used) = subst (λ (n : ℕ). p.1.row < n) (sym (length_if (has_row 1 p) t.rows.used whole)) byte in
      ap (λ (u : List Bool). get_or u r false) step.used
      ∙ marked (cond (has_row 1 p) (replicate 256 false) t.rows.used) p.1.row r l₀
      ∙ ap (λ (x : Bool). x || eqb p.1.row r) (get_d_if (has_row 1 p) (replicate 256 false) t.rows.used r ∙ (λ i. cond (has_row 1 p) (none_used r 256 i) (is.used r l i)))
      ∙ sym (since_any (has_row 1) z p (has_row r))

  pub tally_more : TallyIs m separator (z ++ (p ∷ [])) t'
  tally_more = record {
    groups = ap (λ (c : Counts). c.groups) step.counts ∙ ap (λ (n : ℕ). n + cond (has_row 66 p) 1 0) is.groups ∙ sym (count_push (has_row 66) z p);
    sets = ap (λ (c : Counts). c.sets) step.counts ∙ ap (λ (n : ℕ). n + cond (has_row 1 p) 1 0) is.sets ∙ sym (count_push (has_row 1) z p);
    lines = ap (λ (c : Counts). c.lines) step.counts ∙ ap (λ (n : ℕ). n + cond (is_line separator p) 1 0) is.lines ∙ sym (count_push (is_line separator) z p);
    sum = ap (λ (c : Counts). c.sum) step.counts ∙ ap (λ (n : ℕ). n + ordered separator p) is.sum ∙ sym (sum_push (ordered separator) z p);
    sets_of_group = ap (λ (c : Counts). c.group_sets) step.counts ∙ ap (λ (n : ℕ). cond (has_row 66 p) 0 n + cond (has_row 1 p) 1 0) is.sets_of_group ∙ sym (since_count (has_row 66) z p (has_row 1));
    segments_of_set = ap (λ (c : Counts). c.set_segments) step.counts ∙ ap (λ (n : ℕ). cond (has_row 1 p) 0 n + 1) is.segments_of_set ∙ sym (since_length (has_row 1) z p);
    set_lines = ap (λ (c : Counts). c.set_lines) step.counts ∙ ap (λ (n : ℕ). cond (has_row 1 p) 0 n + cond (is_line separator p) 1 0) is.set_lines ∙ sym (since_count (has_row 1) z p (is_line separator));
    set_sum = ap (λ (c : Counts). c.set_sum) step.counts ∙ ap (λ (n : ℕ). cond (has_row 1 p) 0 n + ordered separator p) is.set_sum ∙ sym (since_sum (has_row 1) z p (ordered separator));
    isa13 = step.isa13 ∙ ap (cond (has_row 65 p) (value separator p 13)) is.isa13 ∙ now_last 13 0 (has_row 65);
    gs06 = step.gs06 ∙ ap (cond (has_row 66 p) (value separator p 6)) is.gs06 ∙ now_last 6 0 (has_row 66);
    st02 = step.st02 ∙ ap (cond (has_row 1 p) (value separator p 2)) is.st02 ∙ now_last 2 0 (has_row 1);
    numbers_of_set = step.numbers_of_set ∙ ap (λ (l : List (List ℕ)). cond (has_row 66 p) [] l ++ cond (has_row 1 p) (value separator p 2 ∷ []) []) is.numbers_of_set ∙ sym (since_values separator (has_row 1) (has_row 66) 2 z p);
    numbers_of_lines = step.numbers_of_lines ∙ ap (λ (l : List (List ℕ)). cond (has_row 1 p) [] l ++ cond (is_line separator p) (value separator p 1 ∷ []) []) is.numbers_of_lines ∙ sym (since_values separator (is_line separator) (has_row 1) 1 z p);
    needed = step.needed ∙ ap (cond (has_row 2 p) (m.needed (value separator p 2))) is.needed ∙ sym (then_if (has_row 2 p) p (last_of (has_row 2) z) (λ b. m.needed (value separator b 2)))
        ∙ ap (λ (o : Option PlacedSegment). and_then o (λ b. m.needed (value separator b 2))) (sym (last_push (has_row 2) z p));
    used = more_used;
    line = step.line ∙ ap (λ (o : Option OpenLine). line_after o (suc (length z)) p.1.outer (is_line separator p) (quantity (value separator p 2)) (acknowledged separator p)) is.line ∙ sym (open_push separator p z);
  }

-- the numbers of a tally are small where the segments are few
pub sum_small : (f : PlacedSegment → ℕ) → ((p : PlacedSegment) → f p ≤ 10000000000) → (z : List PlacedSegment) → sum_of f z ≤ 10000000000 * length z
sum_small f b [] = omega arith
sum_small f b (p ∷ z) = let h = sum_small f b z in let k = b p in omega arith

ordered_small : (separator : ℕ) (p : PlacedSegment) → ordered separator p ≤ 10000000000
ordered_small separator p = go (is_line separator p)
  where
    go : (b : Bool) → cond b (quantity (value separator p 2)) 0 ≤ 10000000000
    go true = quantity_small (value separator p 2)
    go false = omega arith

pub acknowledged_small : (separator : ℕ) (p : PlacedSegment) → acknowledged separator p ≤ 10000000000
acknowledged_small separator p = go (is_named separator (codes "ACK") p)
  where
    go : (b : Bool) → cond b (quantity (value separator p 2)) 0 ≤ 10000000000
    go true = quantity_small (value separator p 2)
    go false = omega arith

module _ (m : Meaning) (separator : ℕ) (z : List PlacedSegment) (t : Tally) (is : TallyIs m separator z t) (few : length z ≤ 65536) where
  pub small_counts_lem : SmallCounts t.counts
  small_counts_lem = record {
    few_groups = let e = is.groups in omega (arith, count_few (has_row 66) z);
    few_sets = let e = is.sets in omega (arith, count_few (has_row 1) z);
    few_lines = let e = is.lines in omega (arith, count_few (is_line separator) z);
    small_sum = let e = is.sum in omega (arith, sum_small (ordered separator) (ordered_small separator) z);
    few_group_sets = let e = is.sets_of_group in omega (arith, count_few (has_row 1) (group_of z), since_short (has_row 66) z);
    few_set_segments = let e = is.segments_of_set in omega (arith, since_short (has_row 1) z);
    few_set_lines = let e = is.set_lines in omega (arith, count_few (is_line separator) (set_of z), since_short (has_row 1) z);
    small_set_sum = let e = is.set_sum in omega (arith, sum_small (ordered separator) (ordered_small separator) (set_of z), since_short (has_row 1) z);
  }

-- what follows the last line is no longer than the whole
pub line_short : (separator k : ℕ) (z : List PlacedSegment) (l : Line) → last_line_from separator k z ≡ Some l → length l.behind ≤ length z
line_short separator k [] l e = let q : ◌≡◌ {A = ℕ} 0 1 = cc in absurd (omega arith)
line_short separator k (p ∷ z) l e = go (last_line_from separator (suc k) z) (λ x q. line_short separator (suc k) z x q) (is_line separator p) e
  where
    go : (o : Option Line) → ((x : Line) → o ≡ Some x → length x.behind ≤ length z) → (b : Bool) → or_else o (cond b (Some (record { number = k; line = p; behind = z })) None) ≡ Some l → length l.behind ≤ suc (length z)
    go None h true q = let w : ◌≡◌ {A = Line} (record { number = k; line = p; behind = z }) l = cc in let n : length z ≡ length l.behind = ap (λ (y : Line). length y.behind) w in omega arith
    go None h false q = let w : ◌≡◌ {A = ℕ} 0 1 = cc in absurd (omega arith)
    go (Some y) h b q = let w : y ≡ l = cc in let n : length y.behind ≡ length l.behind = ap (λ (v : Line). length v.behind) w in let f = h y refl in omega arith
