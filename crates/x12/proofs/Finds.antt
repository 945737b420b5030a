-- What a search in the rest of a list finds, as a place of the list.
use Rattle.std.proofs.Common.{◌≡◌, ℕ, ◌+◌, ◌-◌, ◌<◌, ◌≤◌, Bool, true, false, not, List, length, drop, get_or, Some, None, Option, MatchOption, sym, refl, ap, ◌∙◌, subst, arith, length-drop, take_all}
use Rattle.std.proofs.lemmas.List.{get_or-drop}
use Rattle.std.proofs.lemmas.Bool.{eqb-true, eqb-false, true≢false}
use Rattle.std.specs.Prelude.{◌==◌}
use Rattle.std.specs.List.{between, AllWithin, HoldsAt}
use Rattle.x12.specs.Find.{Finds, Passes, Stops}
use Rattle.x12.specs.Segments.{is_break}

-- what lies between a place and the end of a list is its rest
pub rest_is : (s : List ℕ) (from to : ℕ) → length s ≤ to → between from to s ≡ drop from s
rest_is s from to le = take_all (to - from) (drop from s) (omega (arith, length-drop from s))

module _ (test : ℕ → Bool → Type 0) (s rest : List ℕ) (from : ℕ) (le : from ≤ length s) (whole : rest ≡ drop from s) where
  abbrev Fails : ℕ → Type 0
  Fails x = test x false

  abbrev Hits : ℕ → Type 0
  Hits x = test x true

  there : (k : ℕ) → from ≤ k → get_or rest (k - from) 0 ≡ get_or s k 0
  there k lo =
      let e : from + (k - from) ≡ k = omega arith in
      ap (λ l. get_or l (k - from) 0) whole ∙ get_or-drop from s (k - from) 0 ∙ ap (λ (i : ℕ). get_or s i 0) e

  size_is : length rest ≡ length s - from
  size_is = ap length whole ∙ length-drop from s

  -- no byte of the rest before place n passes
  none_before : (n : ℕ) → AllWithin Fails rest 0 n → (k : ℕ) → from ≤ k → k < from + n → Fails (get_or s k 0)
  none_before n h k lo hi = subst Fails (there k lo) (h (k - from) 0 (omega arith) (omega arith))

  -- what a search in the rest answers
  abbrev Answer : Option ℕ → Type 0
  Answer r =
      MatchOption r (AllWithin Fails rest 0 (length rest)) (λ k. (k < length rest) × HoldsAt Hits rest k × AllWithin Fails rest 0 k)

  pub stops_there : (r : Option ℕ) (k : ℕ) → r ≡ Some k → Answer r → Stops test s from (from + k)
  stops_there r k e a =
      let h = subst Answer e a in
      let z : from + k - from ≡ k = omega arith in
      record {
        low = omega arith;
        within = omega (arith, h.0, size_is);
        before = none_before k h.2;
        stops = λ _. subst Hits (ap (λ (j : ℕ). get_or rest j 0) (sym z) ∙ there (from + k) (omega arith)) (h.1 0);
      }

  pub stops_nowhere : (r : Option ℕ) → r ≡ None → Answer r → Stops test s from (length s)
  stops_nowhere r e a =
      record {
        low = le;
        within = omega arith;
        before = λ k lo hi. none_before _ (subst Answer e a) k lo (omega (arith, size_is));
        stops = λ l. absurd (omega arith);
      }

false_not : (t : Bool) → false ≡ not t → t ≡ true
false_not true h = refl
false_not false h = absurd (true≢false (sym h))

module _ {P : ℕ → Bool → Type 0} (s : List ℕ) (from r : ℕ) where
  -- a search for a byte
  pub found : (b : ℕ) → ((x : ℕ) (t : Bool) → P x t → t ≡ (x == b)) → Stops P s from r → Finds s from b r
  found b is h =
      record {
        low = h.low;
        within = h.within;
        before = λ k lo hi. eqb-false _ _ (sym (is _ false (h.before k lo hi)));
        found = λ l. eqb-true _ _ (sym (is _ true (h.stops l)));
      }

  -- a search for what is no line break
  pub passed : ((x : ℕ) (t : Bool) → P x t → t ≡ not (is_break x)) → Stops P s from r → Passes s from r
  passed is h =
      record {
        low = h.low;
        within = h.within;
        before = λ k lo hi. false_not _ (is _ false (h.before k lo hi));
        stops = λ l e. true≢false (is _ true (h.stops l) ∙ ap not e);
      }
