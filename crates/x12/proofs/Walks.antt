-- A walk over the segments of an interchange, one segment a turn.
use Rattle.std.proofs.Common.{◌≡◌, ℕ, suc, ◌+◌, ◌≤◌, List, [], length, Err, Result, refl, ap, ◌∙◌, subst, arith}
use Rattle.x12.specs.declared.parts.Interchange.{Interchange}
use Rattle.x12.specs.declared.parts.Segment.{Segment}
use Rattle.x12.specs.declared.segments.Segments.{Segments}
use Rattle.x12.specs.Lists.{each}
use Rattle.x12.specs.Segments as S
use Rattle.x12.specs.Header.{terminator_of}
use Rattle.x12.specs.Segments.{segments_from, segments_of, FirstFrom}
use Rattle.x12.specs.Views.{plain}
use Rattle.x12.specs.Comes.{NextSegment}
use Rattle.x12.proofs.Turns.{each_stop}

-- the iterator goes over the interchange
pub record On (z : Interchange) (s : Segments) : Type 0 where
  pub same : s.interchange ≡ z
  pub inside : s.at ≤ length z.bytes.now + 1

-- a turn, said of the interchange
pub record Turn (z : Interchange) (s : Segments) (x : Segment) (t : Segments) : Type 0 where
  pub first : FirstFrom z.bytes.now z.delimiters.terminator s.at x.place x.bytes.now x.closed
  pub numbered : x.number ≡ suc s.count
  pub separated : x.separator ≡ z.delimiters.separator
  pub component : x.component ≡ z.delimiters.component
  pub on : On z t
  pub behind : t.at ≡ x.place + length x.bytes.now + 1
  pub counted : t.count ≡ x.number

-- before the first turn
pub record Started (I : List ℕ) (s : Segments) : Type 0 where
  pub on : On s.interchange s
  pub within : s.interchange.bytes.now ≡ I
  pub first : s.at ≡ 0
  pub none : s.count ≡ 0

pub started : (I : List ℕ) (made s : Segments) (read : Interchange) → s ≡ made → (made.interchange ≡ read) × (made.at ≡ 0) × (made.count ≡ 0) → read.bytes.now ≡ I → Started I s
started I made s read e m w =
    let a : s.at ≡ 0 = ap (λ x. x.at) e ∙ m.1 in
    record {
      on = record { same = refl; inside = omega (arith, a) };
      within = ap (λ x. x.interchange.bytes.now) e ∙ ap (λ x. x.bytes.now) m.0 ∙ w;
      first = a;
      none = ap (λ x. x.count) e ∙ m.2;
    }

-- all segments are ahead
pub all_ahead : (I : List ℕ) (s : Segments) → Started I s → s.interchange.delimiters.terminator ≡ terminator_of I
    → segments_from s.interchange.delimiters.terminator s.at s.interchange.bytes.now ≡ segments_of I
all_ahead I s h t = (λ i. segments_from (t i) (h.first i) (h.within i))

module _ (z : Interchange) (s : Segments) (o : On z s) where
  pub turn : (x : Segment) (t : Segments) → NextSegment s x t → Turn z s x t
  turn x t n =
      let f = subst (λ (y : Interchange). FirstFrom y.bytes.now y.delimiters.terminator s.at x.place x.bytes.now x.closed) o.same n.first in
      record {
        first = f;
        numbered = n.numbered;
        separated = n.separated ∙ ap (λ y. y.delimiters.separator) o.same;
        component = n.component ∙ ap (λ y. y.delimiters.component) o.same;
        on = record { same = n.same ∙ o.same; inside = omega (arith, n.behind, f.inside) };
        behind = n.behind;
        counted = n.counted;
      }

  -- no segment is left
  pub ended : segments_from s.interchange.delimiters.terminator s.at s.interchange.bytes.now ≡ [] → segments_from z.delimiters.terminator s.at z.bytes.now ≡ []
  ended e = subst (λ (y : Interchange). segments_from y.delimiters.terminator s.at y.bytes.now ≡ []) o.same e

  -- a check of each segment is one turn on, or refuses this segment
  module _ {F : Type 0} (check : ℕ → S.Segment → Result (Unit {0}) F) (x : Segment) (t : Segments) (n : NextSegment s x t) where
    pub stops : (f : F) → check (suc s.count) (plain x) ≡ Err f → each check (suc s.count) (segments_from z.delimiters.terminator s.at z.bytes.now) ≡ Err f
    stops f h = each_stop check (suc s.count) _ _ _ f (turn x t n).first.next h
