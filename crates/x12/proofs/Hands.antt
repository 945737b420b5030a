-- An element that is handed out by its numbers.
use Rattle.std.proofs.Common.{◌≡◌, ℕ, ◌+◌, ◌≤◌, ◌≢◌, List, [], length, Some, None, Option, Ok, Err, Result, sym, ap, ◌∙◌, subst, MatchOption, MatchResult}
use Rattle.std.proofs.lemmas.Option.{none-some}
use Rattle.std.specs.Result.{result_ok}
use Rattle.std.specs.List.{between}
use Rattle.x12.specs.Lists.{nth}
use Rattle.x12.specs.Header.{separator_of, Sound}
use Rattle.x12.specs.Segments.{Part, Segment, segments_of}
use Rattle.x12.specs.Elements.{element_of_segment, element_at, element_of, PartOf, HandedOut}
use Rattle.x12.proofs.Picks.{part_within}

-- where the segment is absent there is no element
pub no_segment : (I : List ℕ) (k n : ℕ) → nth (segments_of I) k ≡ None → element_of I k n ≡ []
no_segment I k n h = ap (λ (o : Option Segment). (element_at (separator_of I) o n).1) h

-- an answer that is nothing
pub at_none : {E P : Type 0} (Q : E → Type 0) (r : Option E) → r ≡ None → P → MatchOption r P Q
at_none {P = P} Q r e p = subst (λ o. MatchOption o P Q) (sym e) p

-- what is said of a result that went on by `ok`
pub from_ok : {X F : Type 0} (P : X → Type 0) (Q : F → Type 0) (r : Result X F) (x : X) → result_ok r ≡ Some x → MatchResult r P Q → P x
from_ok P Q (Ok y) x e h = subst (λ o. MatchOption o ⊥ P) e h
from_ok P Q (Err f) x e h = absurd (none-some x e)

-- what a segment hands out, the interchange does
pub handed_out : (I : List ℕ) (k n separator : ℕ) (s : Segment) → Sound I → separator ≡ separator_of I → nth (segments_of I) k ≡ Some s
    → s.place + length s.bytes ≤ length I → s.bytes ≡ between s.place (s.place + length s.bytes) I
    → {E : Type 0} (place : E → ℕ) (bytes : E → List ℕ) (r : Option E)
    → MatchOption r ((element_of_segment separator s n).1 ≡ []) (λ e. (bytes e ≢ []) × (element_of_segment separator s n ≡ (place e, bytes e)) × PartOf s.bytes s.place (place e) (bytes e))
    → MatchOption r (Sound I → element_of I k n ≡ []) (λ e. HandedOut I k n (place e) (bytes e))
handed_out I k n separator s sound same h inside part place bytes None c =
    λ _. ap (λ (o : Option Segment). (element_at (separator_of I) o n).1) h ∙ ap (λ (b : ℕ). (element_of_segment b s n).1) (sym same) ∙ c
handed_out I k n separator s sound same h inside part place bytes (Some e) c =
    let is : element_at (separator_of I) (nth (segments_of I) k) n ≡ (place e, bytes e) =
    ap (λ (o : Option Segment). element_at (separator_of I) o n) h ∙ ap (λ (b : ℕ). element_of_segment b s n) (sym same) ∙ c.1 in
    let w = part_within I s.bytes (bytes e) s.place (place e) inside part c.2 in
    record {
      sound = sound;
      some_byte = c.0;
      value = ap (λ (p : Part). p.1) (sym is);
      found = ap (λ (p : Part). p.0) (sym is);
      inside = w.0;
      part = w.1;
    }
