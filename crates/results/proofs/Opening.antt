-- The row of a loop that is opened is written.
use Rattle.std.proofs.Common.{◌≡◌, ℕ, suc, ◌+◌, ◌<◌, ◌≤◌, Bool, true, false, ◌&&◌, eqb, ltb, List, [], ◌∷◌, ◌++◌, length, drop, set, MatchBool, sym, refl, ap, ◌∙◌, subst, true≢false, add-one, arith, length-append}
use Rattle.std.proofs.lemmas.List.{set_at, drop_more, append_assoc, length_push}
use Rattle.std.proofs.lemmas.Bool.{cond-true, cond-false, lt-ltb, ltb-true}
use Rattle.placing.specs.declared.placer.Placed.{Placed}
use Rattle.placing.specs.Stages.{spot_for}
use Rattle.placing.specs.Placed.{PlacedSegment}
use Rattle.results.specs.declared.rows.LoopRow.{LoopRow}
use Rattle.results.specs.Rows.{opens_at, loops_in, each_loop}
use Rattle.results.specs.Steps.{open_row, open_rows, OpensNext}
use Rattle.results.proofs.Counting.{length_each_loop}

-- one row more is written
pub row_written : {A : Type 0} (table front old : List A) (n : ℕ) (x : A) → table ≡ front ++ drop n old → length front ≡ n → n < length old
    → set table n x ≡ (front ++ (x ∷ [])) ++ drop (n + 1) old
row_written {A} table front old n x e l h =
    ap (λ (t : List A). set t n x) (e ∙ ap (λ (t : List A). front ++ t) (drop_more old n x h))
    ∙ set_at front _ (drop (n + 1) old) x n l
    ∙ sym (append_assoc front (x ∷ []) (drop (n + 1) old))

-- the loop that the next segment opens, if it opens one
pub record LoopsOn (z after : List PlacedSegment) (old_loops loops : List LoopRow) (count opened : ℕ) : Type 0 where
  pub front : List LoopRow
  pub written : length front ≡ opened
  pub loops_are : loops ≡ front ++ drop opened old_loops
  pub all_loops : open_rows z ≡ front ++ each_loop open_row (suc (count + 1)) after

module _ (z : List PlacedSegment) (p : PlacedSegment) (after : List PlacedSegment) (front old_loops loops loops' : List LoopRow) (count opened opened' : ℕ) (placed : Placed)
    (spot : p.1 ≡ spot_for placed) (written : length front ≡ opened) (loops_are : loops ≡ front ++ drop opened old_loops)
    (all_loops : open_rows z ≡ front ++ each_loop open_row (suc count) (p ∷ after)) (room : loops_in z ≤ length old_loops) (kept : length loops ≡ length old_loops)
    (next : OpensNext loops opened (count + 1) placed loops' opened') where
  abbrev more : List LoopRow
  more = each_loop open_row (suc (suc count)) after

  abbrev this : LoopRow
  this = open_row (suc count) p after

  opens_is : opens_at (suc count) p ≡ eqb placed.around (count + 1)
  opens_is = (λ j. eqb (spot j).loop (sym (add-one count) j))

  later : each_loop open_row (suc (suc count)) after ≡ each_loop open_row (suc (count + 1)) after
  later = ap (λ (k : ℕ). each_loop open_row (suc k) after) (sym (add-one count))

  when_opened : opens_at (suc count) p ≡ true → open_rows z ≡ front ++ (open_row (suc count) p after ∷ each_loop open_row (suc (suc count)) after)
  when_opened h = all_loops ∙ ap (λ (l : List LoopRow). front ++ l) (cond-true (opens_at (suc count) p) (this ∷ more) more h)

  has_room : opens_at (suc count) p ≡ true → opened < length old_loops
  has_room h =
      let a = length_each_loop open_row 1 z in
      let b = ap length (when_opened h) ∙ length-append front (this ∷ more) in
      omega arith

  test_is : (b : Bool) → opens_at (suc count) p ≡ b → (b ≡ true → opened < length loops) → eqb placed.around (count + 1) && ltb opened (length loops) ≡ b
  test_is true h l = (λ j. (sym opens_is ∙ h) j && lt-ltb opened (length loops) (l refl) j)
  test_is false h l = (λ j. (sym opens_is ∙ h) j && ltb opened (length loops))

  abbrev Next : Bool → Type 0
  Next b =
      MatchBool b
      ((loops' ≡ set loops opened (record { opening = count + 1; last = count + 1; outer = placed.outer; row = placed.row })) × (opened' ≡ opened + 1))
      ((loops' ≡ loops) × (opened' ≡ opened))

  row_is : record { opening = count + 1; last = count + 1; outer = placed.outer; row = placed.row } ≡ open_row (suc count) p after
  row_is = (λ j. record { opening = add-one count j; last = add-one count j; outer = (sym spot j).outer; row = (sym spot j).row })

  pub loops_on : LoopsOn z after old_loops loops' count opened'
  loops_on = go (opens_at (suc count) p) refl
    where
      go : (b : Bool) → opens_at (suc count) p ≡ b → LoopsOn z after old_loops loops' count opened'
      go true h =
          let l : opened < length loops = (let r = has_room h in omega arith) in
          let n : Next true = subst Next (test_is true h (λ _. l)) next in
          record {
            front = front ++ (this ∷ []);
            written = length_push front this ∙ ap (λ (k : ℕ). k + 1) written ∙ sym n.1;
            loops_are =
                n.0
                ∙ ap (set loops opened) row_is
                ∙ row_written loops front old_loops opened this loops_are written (has_room h)
                ∙ ap (λ (k : ℕ). (front ++ (this ∷ [])) ++ drop k old_loops) (sym n.1);
            all_loops = when_opened h ∙ sym (append_assoc front (this ∷ []) more) ∙ ap (λ (l : List LoopRow). (front ++ (this ∷ [])) ++ l) later;
          }
      go false h =
          let n : Next false = subst Next (test_is false h (λ e. absurd (true≢false (sym e)))) next in
          record {
            front = front;
            written = written ∙ sym n.1;
            loops_are = n.0 ∙ loops_are ∙ ap (λ (k : ℕ). front ++ drop k old_loops) (sym n.1);
            all_loops = all_loops ∙ ap (λ (l : List LoopRow). front ++ l) (cond-false (opens_at (suc count) p) (this ∷ more) more h ∙ later);
          }

-- the number of loops stays within the table
pub opened_within : (loops loops' : List LoopRow) (opened number opened' : ℕ) (placed : Placed) → OpensNext loops opened number placed loops' opened' → opened ≤ length loops → opened' ≤ length loops
opened_within loops loops' opened number opened' placed next l = go (eqb placed.around number) (ltb opened (length loops)) refl next
  where
    go : (a b : Bool) → ltb opened (length loops) ≡ b
        → MatchBool (a && b) ((loops' ≡ set loops opened (record { opening = number; last = number; outer = placed.outer; row = placed.row })) × (opened' ≡ opened + 1)) ((loops' ≡ loops) × (opened' ≡ opened))
        → opened' ≤ length loops
    go true true h n = let r = ltb-true opened (length loops) h in omega (arith, n.1)
    go true false h n = omega (arith, n.1)
    go false true h n = omega (arith, n.1)
    go false false h n = omega (arith, n.1)
