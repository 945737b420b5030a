-- Segments with rows and loops that every derivation gives them.
use Rattle.std.proofs.Common.{◌≡◌, ℕ, List, [], ◌∷◌, ◌++◌, length, take, sym, refl, ap, ◌∙◌, subst, append_assoc, append-nil, arith, length-append}
use mathlib.Core.List.{cons≢nil, head-eq_of_cons-eq, tail-eq_of_cons-eq}
use lib.ListN.{length-map}
use Rattle.std.proofs.lemmas.List.{map_push, take_at, nil_from_length}
use Rattle.x12.specs.Header.{separator_of}
use Rattle.x12.specs.Segments.{Segment, segments_of}
use Rattle.grammar.specs.Marks.{Mark}
use Rattle.grammar.specs.Derivations.{Spot}
use Rattle.grammar.specs.Interchange.{Derivation, Begins, with_envelope}
use Rattle.grammar.specs.Theorems.{OneDerivation}
use Rattle.guide.specs.Meaning.{Meaning}
use Rattle.guide.specs.Asked.{rows_of, label_of}
use Rattle.placing.specs.Placing.{EveryDerivationGives}
use Rattle.placing.specs.Structure.{mark_in, marks_in}
use Rattle.placing.specs.Placed.{PlacedSegment, segments_in, spots_in, PlacedSo, OnlySo, DerivedSo}
use Rattle.placing.proofs.Runs.{match_length}

-- one more placed segment
pub segments_more : (z : List PlacedSegment) (p : PlacedSegment) → segments_in (z ++ (p ∷ [])) ≡ segments_in z ++ (p.0 ∷ [])
segments_more z p = map_push (λ (q : PlacedSegment). q.0) z p

pub spots_more : (z : List PlacedSegment) (p : PlacedSegment) → spots_in (z ++ (p ∷ [])) ≡ spots_in z ++ (p.1 ∷ [])
spots_more z p = map_push (λ (q : PlacedSegment). q.1) z p

pub marks_more : (x : ℕ) (z : List PlacedSegment) (p : PlacedSegment) → marks_in x (segments_in (z ++ (p ∷ []))) ≡ marks_in x (segments_in z) ++ (mark_in x p.0 ∷ [])
marks_more x z p = ap (marks_in x) (segments_more z p) ∙ map_push (mark_in x) (segments_in z) p.0

-- there are as many segments, spots and marks
pub segments_length : (z : List PlacedSegment) → length (segments_in z) ≡ length z
segments_length z = length-map z (λ (q : PlacedSegment). q.0)

pub spots_length : (z : List PlacedSegment) → length (spots_in z) ≡ length z
spots_length z = length-map z (λ (q : PlacedSegment). q.1)

pub marks_length : (x : ℕ) (ss : List Segment) → length (marks_in x ss) ≡ length ss
marks_length x ss = length-map ss (mark_in x)

-- beginnings of the same length of one list are the same
same_front : {X : Type 0} (a u b v : List X) → length a ≡ length b → a ++ u ≡ b ++ v → a ≡ b
same_front a u b v l e = sym (take_at a u (length b) l) ∙ ap (take (length b)) e ∙ take_at b v (length b) refl

-- the same segments with the same spots are the same
same_pairs : (z z' : List PlacedSegment) → segments_in z' ≡ segments_in z → spots_in z' ≡ spots_in z → z' ≡ z
same_pairs [] [] e f = refl
same_pairs [] (p ∷ z') e f = absurd (cons≢nil e)
same_pairs (p ∷ z) [] e f = absurd (cons≢nil (sym e))
same_pairs (p ∷ z) (q ∷ z') e f =
    let more = same_pairs z z' (tail-eq_of_cons-eq e) (tail-eq_of_cons-eq f) in
    let s : q.0 ≡ p.0 = head-eq_of_cons-eq e in
    let t : q.1 ≡ p.1 = head-eq_of_cons-eq f in
    (λ i. (s i, t i) ∷ more i)

abbrev Derives : Meaning → List Mark → List Spot → Type 0
Derives m marks spots = Derivation (label_of m) (rows_of m) marks spots

module _ (m : Meaning) (x : ℕ) where
  pub only_none : OnlySo m x []
  only_none more spots d = (spots, refl)

  -- one more segment, to which every derivation gives this spot
  pub only_more : (z : List PlacedSegment) (s : Segment) (spot : Spot) → OnlySo m x z → EveryDerivationGives m (marks_in x (segments_in z)) (mark_in x s) spot → OnlySo m x (z ++ ((s, spot) ∷ []))
  only_more z s spot only gives more spots d =
      let ms : List Mark = marks_in x (segments_in z) in
      let mk : Mark = mark_in x s in
      let d₁ : Derives m ((ms ++ (mk ∷ [])) ++ more) spots = subst (λ (l : List Mark). Derives m (l ++ more) spots) (marks_more x z (s, spot)) d in
      let d₂ : Derives m (ms ++ (mk ∷ more)) spots = subst (λ (l : List Mark). Derives m l spots) (append_assoc ms (mk ∷ []) more) d₁ in
      let g = gives more spots d₁ in
      let o = only (mk ∷ more) spots d₂ in
      let l : length g.0 ≡ length (spots_in z) = g.3 ∙ (marks_length x (segments_in z) ∙ (segments_length z ∙ sym (spots_length z))) in
      let same : g.0 ≡ spots_in z = same_front g.0 (spot ∷ g.1) (spots_in z) o.0 l (sym g.2 ∙ o.1) in
      (g.1, g.2 ∙ (ap (λ (f : List Spot). f ++ (spot ∷ g.1)) same ∙ (sym (append_assoc (spots_in z) (spot ∷ []) g.1) ∙ ap (λ (f : List Spot). f ++ g.1) (sym (spots_more z (s, spot))))))

  -- where a derivation begins so, the spots that every derivation gives are those of one
  pub begun_placed : (z : List PlacedSegment) → OnlySo m x z → Begins (label_of m) (rows_of m) (marks_in x (segments_in z)) → PlacedSo m x z
  begun_placed z only (more, spots, d) =
      let o = only more spots d in
      (more, o.0, subst (Derives m (marks_in x (segments_in z) ++ more)) o.1 d)

  pub placed_more : (z : List PlacedSegment) (s : Segment) (spot : Spot) → OnlySo m x (z ++ ((s, spot) ∷ [])) → Begins (label_of m) (rows_of m) (marks_in x (segments_in z) ++ (mark_in x s ∷ [])) → PlacedSo m x (z ++ ((s, spot) ∷ []))
  placed_more z s spot only b = begun_placed (z ++ ((s, spot) ∷ [])) only (subst (Begins (label_of m) (rows_of m)) (sym (marks_more x z (s, spot))) b)

  -- the spots of the same segments
  pub same_placed : (z z' : List PlacedSegment) → OnlySo m x z → PlacedSo m x z' → segments_in z' ≡ segments_in z → z' ≡ z
  same_placed z z' only (more, others, d) e =
      let o = only more (spots_in z' ++ others) (subst (λ (l : List Segment). Derives m (marks_in x l ++ more) (spots_in z' ++ others)) e d) in
      let l : length (spots_in z') ≡ length (spots_in z) = spots_length z' ∙ (sym (segments_length z') ∙ (ap length e ∙ (segments_length z ∙ sym (spots_length z)))) in
      same_pairs z z' e (same_front (spots_in z') others (spots_in z) o.0 l o.1)

-- where an interchange has one derivation, that gives its segments the spots that every derivation gives
pub derived_whole : (m : Meaning) (I : List ℕ) (z : List PlacedSegment) → OnlySo m (separator_of I) z → segments_in z ≡ segments_of I → OneDerivation (label_of m) (rows_of m) (marks_in (separator_of I) (segments_of I))
    → DerivedSo m I z × ((z' : List PlacedSegment) → DerivedSo m I z' → z' ≡ z)
derived_whole m I z only e (spots, d, one) = ((e, subst (Derives m (marks_in (separator_of I) (segments_of I))) same d), λ z' y. same_pairs z z' (y.0 ∙ sym e) (one (spots_in z') y.1 ∙ same))
  where
    same : spots ≡ spots_in z
    same =
        let o = only [] spots (subst (λ (l : List Mark). Derives m l spots) (ap (marks_in (separator_of I)) (sym e) ∙ sym (append-nil (marks_in (separator_of I) (segments_in z)))) d) in
        let a = match_length (with_envelope (label_of m)) spots (marks_in (separator_of I) (segments_of I)) d.1 in
        let b = marks_length (separator_of I) (segments_of I) in
        let c = ap length e in
        let f = segments_length z in
        let g = spots_length z in
        let h = ap length o.1 ∙ length-append (spots_in z) o.0 in
        let none : o.0 ≡ [] = nil_from_length o.0 (omega arith) in
        o.1 ∙ (ap (λ (l : List Spot). spots_in z ++ l) none ∙ append-nil (spots_in z))
