-- What stands at a place of a list, and what an iterator gives at its place.
use Rattle.std.proofs.Common.{◌≡◌, ℕ, zero, suc, ◌+◌, ◌-◌, ◌≤◌, List, [], ◌∷◌, length, take, drop, Some, None, Option, MatchOption, IfSome, sym, refl, ap, ◌∙◌, subst, arith, add-zero}
use Rattle.std.specs.Iterator.{Yields, SkipsThenYields}
use Rattle.std.specs.List.{between}
use Rattle.std.specs.Option.{unwrap_or}
use Rattle.x12.specs.declared.parts.Element.{Element}
use Rattle.x12.specs.declared.parts.Interchange.{Interchange}
use Rattle.x12.specs.declared.parts.Segment.{Segment}
use Rattle.x12.specs.declared.elements.Elements.{Elements}
use Rattle.x12.specs.declared.segments.Segments.{Segments}
use Rattle.x12.specs.Segments as S
use Rattle.x12.specs.Lists.{nth}
use Rattle.x12.specs.Segments.{Part, parts_of, segments_from, segments_of, FirstFrom}
use Rattle.x12.specs.Header.{terminator_of}
use Rattle.x12.specs.Elements.{PartOf, part_at, end_of, element_of_segment}
use Rattle.x12.specs.Views.{plain}
use Rattle.x12.specs.Comes.{NextElement, ElementComes, SegmentComes, parts_from}
use Rattle.x12.proofs.Picks.{part_of}
use Rattle.x12.proofs.Walks.{On, Turn, Started, started, turn, ended, all_ahead}

-- a list that ends before a place, and one that has something there
part_absent : (stop : ℕ) (ps : List Part) (m n : ℕ) → drop m ps ≡ [] → m ≤ n → part_at stop ps n ≡ (stop, [])
part_absent stop [] m n e le = refl
part_absent stop (p ∷ ps) zero n e le = absurd (omega (arith, ap length e))
part_absent stop (p ∷ ps) (suc m) zero e le = absurd (omega arith)
part_absent stop (p ∷ ps) (suc m) (suc n) e le = part_absent stop ps m n e (omega arith)

part_there : (stop : ℕ) (ps : List Part) (n : ℕ) (p : Part) (qs : List Part) → drop n ps ≡ p ∷ qs → part_at stop ps n ≡ p
part_there stop [] zero p qs e = absurd (omega (arith, ap length e))
part_there stop [] (suc n) p qs e = absurd (omega (arith, ap length e))
part_there stop (x ∷ ps) zero p qs e = ap (λ l. part_at stop l 0) e
part_there stop (x ∷ ps) (suc n) p qs e = part_there stop ps n p qs e

pub nth_zero : {X : Type 0} (xs : List X) → nth xs 0 ≡ None
nth_zero [] = refl
nth_zero (x ∷ xs) = refl

nth_absent : {X : Type 0} (xs : List X) (m n : ℕ) → drop m xs ≡ [] → m ≤ n → nth xs (suc n) ≡ None
nth_absent [] m n e le = refl
nth_absent (x ∷ xs) zero n e le = absurd (omega (arith, ap length e))
nth_absent (x ∷ xs) (suc m) zero e le = absurd (omega arith)
nth_absent (x ∷ xs) (suc m) (suc n) e le = nth_absent xs m n e (omega arith)

nth_there : {X : Type 0} (xs : List X) (n : ℕ) (y : X) (ys : List X) → drop n xs ≡ y ∷ ys → nth xs (suc n) ≡ Some y
nth_there [] zero y ys e = absurd (omega (arith, ap length e))
nth_there [] (suc n) y ys e = absurd (omega (arith, ap length e))
nth_there (x ∷ xs) zero y ys e = ap (λ l. nth l 1) e
nth_there (x ∷ xs) (suc n) y ys e = nth_there xs n y ys e

-- what holds of an iterator after some items, and what it has left then
module _ {S A B : Type 0} (steps : S → Option A → S → Type 0) (left : S → List B) (Keeps : ℕ → S → Type 0)
    (next : (n : ℕ) (s : S) (x : A) (t : S) → Keeps n s → steps s (Some x) t → Keeps (suc n) t × ((y : B) × (left s ≡ y ∷ left t))) where
  reached : (xs : List A) (n : ℕ) (s t : S) → Keeps n s → Yields steps s xs t → Keeps (n + length xs) t × (drop (length xs) (left s) ≡ left t)
  reached [] n s t k y = (subst (λ (u : S). Keeps (n + 0) u) y (subst (λ (m : ℕ). Keeps m s) (sym (add-zero n)) k), ap left y)
  reached (x ∷ xs) n s t k (j, h, y) =
      let a = next n s x j k h in
      let r = reached xs (suc n) j t a.0 y in
      let e : suc n + length xs ≡ n + suc (length xs) = omega arith in
      (subst (λ (m : ℕ). Keeps m t) e r.0, ap (drop (suc (length xs))) a.1.1 ∙ r.1)

-- the elements of a segment, by their numbers
module _ (z : Segment) where
  record Elems (n : ℕ) (s : Elements) : Type 0 where
    pub same : s.segment ≡ z
    pub counted : IfSome s.at (λ _. s.number ≡ n)

  count_of : (a : Option ℕ) (P : Type 0) (p : Part) (ps : List Part) → parts_from z a ≡ p ∷ ps → IfSome a (λ _. P) → P
  count_of None P p ps e h = absurd (omega (arith, ap length e))
  count_of (Some a) P p ps e h = h

  first_left : (s : Elements) (x : Element) (t : Elements) → s.segment ≡ z → NextElement s x t → parts_from z s.at ≡ (x.place, x.bytes.now) ∷ parts_from z t.at
  first_left s x t e h = subst (λ (y : Segment). parts_from y s.at ≡ (x.place, x.bytes.now) ∷ parts_from y t.at) e h.first

  next_element : (n : ℕ) (s : Elements) (x : Element) (t : Elements) → Elems n s → NextElement s x t
      → Elems (suc n) t × ((p : Part) × (parts_from z s.at ≡ p ∷ parts_from z t.at))
  next_element n s x t k h =
      let f = first_left s x t k.same h in (
        record {
          same = h.same ∙ k.same;
          counted = subst (λ (m : ℕ). IfSome t.at (λ _. t.number ≡ suc m)) (count_of s.at (s.number ≡ n) _ _ f k.counted) h.followed;
        },
        ((x.place, x.bytes.now), f),
      )

  -- the element with a number, as the calls for it say
  abbrev pub Found : ℕ → Element → Type 0
  Found n x = (element_of_segment z.separator (plain z) n ≡ (x.place, x.bytes.now)) × PartOf z.bytes.now z.place x.place x.bytes.now × (x.number ≡ n)

  all_parts : (s : Elements) → s.at ≡ Some 0 → element_of_segment z.separator (plain z) ≡ part_at (end_of (plain z)) (parts_from z s.at)
  all_parts s e = sym (ap (λ a. part_at (end_of (plain z)) (parts_from z a)) e ∙ ap (λ (p : ℕ). part_at (end_of (plain z)) (parts_of z.separator p z.bytes.now)) (add-zero z.place))

  pub nth_element : (n : ℕ) (s : Elements) (r : Option Element) (u : Elements) (d : Element) → s.segment ≡ z → s.at ≡ Some 0 → s.number ≡ 0
      → SkipsThenYields ElementComes s n r u → d.number ≡ n → d.place ≡ end_of (plain z) → d.bytes.now ≡ between (length z.bytes.now) (length z.bytes.now) z.bytes.now
      → Found n (unwrap_or r d)
  nth_element n s r u d e a c (xs, (t, y, h), m) dn dp db = go r h m
    where
      started : (a : Option ℕ) → IfSome a (λ _. s.number ≡ 0)
      started None = tt
      started (Some a) = c

      w : Elems (0 + length xs) t × (drop (length xs) (parts_from z s.at) ≡ parts_from z t.at)
      w = reached ElementComes (λ v. parts_from z v.at) Elems next_element xs 0 s t (record { same = e; counted = started s.at }) y

      none : between (length z.bytes.now) (length z.bytes.now) z.bytes.now ≡ []
      none = let q : length z.bytes.now - length z.bytes.now ≡ 0 = omega arith in ap (λ (i : ℕ). take i (drop (length z.bytes.now) z.bytes.now)) q

      go : (r : Option Element) → ElementComes t r u → MatchOption r (length xs ≤ n) (λ _. length xs ≡ n) → Found n (unwrap_or r d)
      go None h m = (
        ap (λ f. f n) (all_parts s a)
            ∙ part_absent (end_of (plain z)) (parts_from z s.at) (length xs) n (w.1 ∙ subst (λ (v : Segment). parts_from v t.at ≡ []) w.0.same h) m
            ∙ (λ i. (sym dp i, sym (db ∙ none) i)),
        subst (λ (p : Part). PartOf z.bytes.now z.place p.0 p.1) (λ i. (sym dp i, sym db i)) (part_of z.bytes.now z.place (length z.bytes.now) (length z.bytes.now) (omega arith) (omega arith)),
        dn,
      )
      go (Some x) h m =
          let f = first_left t x u w.0.same h in
          let q : 0 + length xs ≡ n = omega (arith, m) in (
            ap (λ f. f n) (all_parts s a) ∙ part_there (end_of (plain z)) (parts_from z s.at) n _ _ (subst (λ (i : ℕ). drop i (parts_from z s.at) ≡ parts_from z t.at) m w.1 ∙ f),
            subst (λ (v : Segment). PartOf v.bytes.now v.place x.place x.bytes.now) w.0.same h.part,
            h.numbered ∙ count_of t.at (t.number ≡ 0 + length xs) _ _ f w.0.counted ∙ q,
          )

-- the segments of an interchange
module _ (z : Interchange) where
  abbrev segments_left : Segments → List S.Segment
  segments_left s = segments_from z.delimiters.terminator s.at z.bytes.now

  pub nth_segment : (n : ℕ) (s : Segments) (r : Option Segment) (u : Segments) → On z s → SkipsThenYields SegmentComes s n r u
      → MatchOption r (nth (segments_left s) (suc n) ≡ None)
      (λ x. (nth (segments_left s) (suc n) ≡ Some (plain x)) × ((t : Segments) × Turn z t x u))
  nth_segment n s r u o (xs, (t, y, h), m) = go r h m
    where
      w : On z t × (drop (length xs) (segments_left s) ≡ segments_left t)
      w = reached SegmentComes segments_left (λ _. On z) (λ n s x t k h. let a = turn z s k x t h in (a.on, (plain x, a.first.next ∙ ap (λ (i : ℕ). plain x ∷ segments_from z.delimiters.terminator i z.bytes.now) (sym a.behind)))) xs 0 s t o y

      go : (r : Option Segment) → SegmentComes t r u → MatchOption r (length xs ≤ n) (λ _. length xs ≡ n)
          → MatchOption r (nth (segments_left s) (suc n) ≡ None) (λ x. (nth (segments_left s) (suc n) ≡ Some (plain x)) × ((t : Segments) × Turn z t x u))
      go None h m = nth_absent (segments_left s) (length xs) n (w.1 ∙ ended z t w.0 h) m
      go (Some x) h m =
          let a = turn z t w.0 x u h in
          (nth_there (segments_left s) n (plain x) _ (subst (λ (i : ℕ). drop i (segments_left s) ≡ segments_left t) m w.1 ∙ a.first.next), (t, a))

-- the segment with a number, as the call for an element needs it
module _ (I : List ℕ) (k : ℕ) where
  abbrev Picked : Interchange → Option Segment → Type 0
  Picked z r =
      MatchOption r (nth (segments_of I) k ≡ None)
      (λ x. (nth (segments_of I) k ≡ Some (plain x)) × (x.separator ≡ z.delimiters.separator)
      × (x.place + length x.bytes.now ≤ length I) × (x.bytes.now ≡ between x.place (x.place + length x.bytes.now) I))

  pub nth_of_all : (z : Interchange) (n : ℕ) (s : Segments) (r : Option Segment) (u : Segments) → (s.interchange ≡ z) × (s.at ≡ 0) × (s.count ≡ 0)
      → z.bytes.now ≡ I → z.delimiters.terminator ≡ terminator_of I → n + 1 ≡ k → SkipsThenYields SegmentComes s n r u → Picked z r
  nth_of_all z n s r u m w e q h = go r (nth_segment s.interchange n s r u st.on h)
    where
      st : Started I s
      st = started I s s z refl m w

      all : nth (segments_left s.interchange s) (suc n) ≡ nth (segments_of I) k
      all = let y : suc n ≡ k = omega (arith, q) in (λ i. nth (all_ahead I s st (ap (λ x. x.delimiters.terminator) m.0 ∙ e) i) (y i))

      go : (r : Option Segment) → MatchOption r (nth (segments_left s.interchange s) (suc n) ≡ None)
          (λ x. (nth (segments_left s.interchange s) (suc n) ≡ Some (plain x)) × ((t : Segments) × Turn s.interchange t x u)) → Picked z r
      go None y = sym all ∙ y
      go (Some x) (y, (t, a)) =
          let f = subst (λ (l : List ℕ). FirstFrom l s.interchange.delimiters.terminator t.at x.place x.bytes.now x.closed) st.within a.first in
          (sym all ∙ y, a.separated ∙ ap (λ x. x.delimiters.separator) m.0, f.inside, f.part)
