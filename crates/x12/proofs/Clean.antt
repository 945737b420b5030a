-- A segment with no bad byte can be refused for its name alone.
use Rattle.std.proofs.Common.{◌≡◌, ℕ, suc, Bool, false, not, ◌&&◌, ◌||◌, List, [], ◌∷◌, Ok, Err, Result, sym, refl, ap, ◌∙◌, subst, eqb, arith}
use Rattle.std.proofs.lemmas.Bool.{or_parts, or_from, and_left, and_right, cond-false, cond_both, ne_eqb}
use Rattle.std.specs.List.{list_any}
use Rattle.x12.specs.declared.faults.Fault.{Fault}
use Rattle.x12.specs.Lists.{and_then, each}
use Rattle.x12.specs.Segments.{Part, Segment, parts_of, push}
use Rattle.x12.specs.Elements.{end_of, part_at, element_of_segment}
use Rattle.x12.specs.Checks.{bad_byte, good_name, is_isa16, part_judged, part_check, segment_check}
use Rattle.x12.proofs.Splits.{parts_head}

-- the parts of which no byte meets a test
module _ (f : ℕ → Bool) where
  abbrev Clean : List Part → Type 0
  Clean [] = Unit {0}
  Clean (p ∷ ps) = (list_any f p.1 ≡ false) × Clean ps

  clean_push : (at x : ℕ) (ps : List Part) → f x ≡ false → Clean ps → Clean (push at x ps)
  clean_push at x [] h c = tt
  clean_push at x (p ∷ ps) h c = (or_from (f x) (list_any f p.1) h c.0, c.1)

  -- where no byte of the whole does, none of its parts' does
  clean_parts : (mark at : ℕ) (xs : List ℕ) → list_any f xs ≡ false → Clean (parts_of mark at xs)
  clean_parts mark at [] h = (refl, tt)
  clean_parts mark at (x ∷ xs) h =
      let q = or_parts (f x) (list_any f xs) h in
      let more = clean_parts mark (suc at) xs q.1 in
      cond_both (eqb x mark) ((at, []) ∷ parts_of mark (suc at) xs) (push at x (parts_of mark (suc at) xs)) Clean
      (λ _. (refl, more))
      (λ _. clean_push at x (parts_of mark (suc at) xs) q.0 more)

module _ (component k : ℕ) (closed : Bool) where
  -- with no bad byte, an element but the name is not refused
  rest_passed : (e : ℕ) (ps : List Part) → Clean (bad_byte component) ps → each (part_check component k closed) (suc e) ps ≡ Ok tt
  rest_passed e [] c = refl
  rest_passed e (p ∷ ps) c =
      ap (λ (r : Result (Unit {0}) Fault). and_then r (λ u. each (part_check component k closed) (suc (suc e)) ps))
      (ap (λ (b : Bool). part_judged b k closed (suc e) p) c.0
      ∙ cond-false (not (is_isa16 k (suc e)) && false) _ _ (and_right (not (is_isa16 k (suc e))) false refl)
      ∙ cond-false (eqb (suc e) 0 && (not closed || not (good_name p.1))) _ _ (and_left (eqb (suc e) 0) _ (ne_eqb (suc e) 0 (omega arith))))
      ∙ rest_passed (suc e) ps c.1

  -- what is checked last
  at_last : (r : Result (Unit {0}) Fault) → and_then r (λ u. Ok tt) ≡ r
  at_last (Ok u) = refl
  at_last (Err f) = refl

  -- so the name decides
  name_judged : (p : Part) (ps : List Part) → Clean (bad_byte component) (p ∷ ps) → each (part_check component k closed) 0 (p ∷ ps) ≡ part_judged false k closed 0 p
  name_judged p ps c =
      ap (λ (r : Result (Unit {0}) Fault). and_then (part_check component k closed 0 p) (λ u. r)) (rest_passed 0 ps c.1)
      ∙ at_last (part_check component k closed 0 p)
      ∙ ap (λ (b : Bool). part_judged b k closed 0 p) c.0

pub clean_judged : (separator component k : ℕ) (s : Segment) → list_any (bad_byte component) s.bytes ≡ false
    → segment_check separator component k s ≡ part_judged false k s.closed 0 (element_of_segment separator s 0)
clean_judged separator component k s h =
    let t = parts_head s.bytes separator s.place in
    ap (each (part_check component k s.closed) 0) t.2
    ∙ name_judged component k s.closed (s.place, t.0) t.1 (subst (Clean (bad_byte component)) t.2 (clean_parts (bad_byte component) separator s.place s.bytes h))
    ∙ ap (λ (ps : List Part). part_judged false k s.closed 0 (part_at (end_of s) ps 0)) (sym t.2)
