use Rattle.std.proofs.Common.{◌≡◌, ℕ, ◌+◌, cond, eqb, List, [], ◌∷◌, ◌++◌, length, Ok, Err, Result, sym, refl, ap, ◌∙◌, subst, add-zero, arith, MatchResult}
use Rattle.std.proofs.lemmas.Result.{err_from_is_err_and}
use Rattle.std.proofs.lemmas.Bool.{eq-eqb, ne_eqb, cond-true, cond-false}
use Rattle.x12.specs.Header.{separator_of, component_of, terminator_of}
use Rattle.x12.specs.declared.parts.Interchange.{Interchange}
use Rattle.x12.specs.declared.parts.Segment.{Segment as SegmentValue}
use Rattle.x12.specs.declared.segments.Segments.{Segments}
use Rattle.x12.specs.Segments.{segments_from}
use Rattle.x12.specs.Views.{plain}
use Rattle.x12.specs.Comes.{NextSegment}
use Rattle.x12.specs.Checks.{header_check}
use Rattle.x12.proofs.Walks.{On, Turn, started, turn, ended}
use Rattle.x12.specs.Rank.{First}
use Rattle.guide.specs.Meaning.{Meaning}
use Rattle.placing.specs.declared.placer.Placed.{Placed}
use Rattle.placing.specs.declared.placer.Placer.{Placer}
use Rattle.placing.specs.Stages.{spot_for}
use Rattle.placing.specs.Placed.{PlacedSegment}
use Rattle.results.proofs.Counting.{loops_within}
use Rattle.totals.specs.declared.faults.TotalsFault.{TotalsFault}
use Rattle.totals.specs.declared.tally.Tally.{Tally}
use Rattle.totals.specs.Fails.{cause_of_totals}
use Rattle.reading.specs.declared.judging.Judgment.{Judgment}
use Rattle.reading.specs.Met.{Met}
use Rattle.reading.specs.Judgment.{JudgedSo}
use Rattle.reading.specs.Turns.{Stands, TurnIs}
use Rattle.reading.proofs.Underway.{Underway, few_bytes, underway_start, stands, refused, passed, begun, whole}
use Rattle.reading.proofs.judging.judge.Goals as goal

-- the answer of a judgment that stopped
stopped : (m : Meaning) (I : List ℕ) (r : Result Judgment TotalsFault) (f : TotalsFault) → r ≡ Err f → First (Met m I) (cause_of_totals f) → MatchResult r (λ j. JudgedSo m I j) (λ f. First (Met m I) (cause_of_totals f))
stopped m I r f e h = subst (λ (x : Result Judgment TotalsFault). MatchResult x (λ j. JudgedSo m I j) (λ f. First (Met m I) (cause_of_totals f))) (sym e) h

-- between two segments
abbrev Between : Meaning → Interchange → ℕ → ℕ → Segments → Placer → Tally → Type 0
Between m w count loops it placer tally = On w it × (it.count ≡ count) × ((z : List PlacedSegment) × Underway m w.bytes.now count loops it.at placer tally z)

-- the delimiters are those of the header
abbrev Delimited : Interchange → Type 0
Delimited w = (w.delimiters.separator ≡ separator_of w.bytes.now) × ((w.delimiters.component ≡ component_of w.bytes.now) × (w.delimiters.terminator ≡ terminator_of w.bytes.now))

module _ {m : Meaning} {w : Interchange} {count loops : ℕ} {it : Segments} {placer : Placer} {tally : Tally} (sound : header_check w.bytes.now ≡ Ok tt) (delimited : Delimited w) (here : Between m w count loops it placer tally) where
  -- no segment is left
  none_left : segments_from it.interchange.delimiters.terminator it.at it.interchange.bytes.now ≡ [] → segments_from (terminator_of w.bytes.now) it.at w.bytes.now ≡ []
  none_left e = subst (λ (t : ℕ). segments_from t it.at w.bytes.now ≡ []) delimited.1.1 (ended w it here.0 e)

  -- the turn of the next segment
  module _ {s : SegmentValue} {t : Segments} (step : NextSegment it s t) where
    k : Turn w it s t
    k = turn w it here.0 s t step

    number_is : s.number ≡ count + 1
    number_is = let n = k.numbered in let c = here.1 in omega arith

    next_is : segments_from (terminator_of w.bytes.now) it.at w.bytes.now ≡ plain s ∷ segments_from (terminator_of w.bytes.now) (s.place + length s.bytes.now + 1) w.bytes.now
    next_is = subst (λ (b : ℕ). segments_from b it.at w.bytes.now ≡ plain s ∷ segments_from b (s.place + length s.bytes.now + 1) w.bytes.now) delimited.1.1 k.first.next

    -- what is said of the interchange's separators and of the next number is said of the segment's
    of_segment : (P : ℕ → ℕ → ℕ → Type 0) → P (separator_of w.bytes.now) (component_of w.bytes.now) (count + 1) → P s.separator s.component s.number
    of_segment P = subst (λ (q : ℕ × ℕ × ℕ). P q.0 q.1 q.2) (λ j. (sym (k.separated ∙ delimited.0) j, sym (k.component ∙ delimited.1.0) j, sym number_is j))

    -- before the segment
    stands_so : Stands m s.separator s.number here.2.0 placer tally
    stands_so = of_segment (λ x y n. Stands m x n here.2.0 placer tally) (stands m _ tt sound _ _ _ _ _ _ here.2.1 _ next_is k.first.low k.first.inside)

    module _ (placer' : Placer) (tally' : Tally) where
      -- what is answered of a segment that stands so
      abbrev Turned : Result Placed TotalsFault → Type 0
      Turned r = (z : List PlacedSegment) → Stands m s.separator s.number z placer tally → TurnIs m s.separator s.component s.number z (plain s) placer' tally' r

      -- the segment is refused
      refused_so : (f : TotalsFault) → Turned (Err f) → First (Met m w.bytes.now) (cause_of_totals f)
      refused_so f turned = of_segment (λ x y n. TurnIs m x y n here.2.0 (plain s) placer' tally' (Err f) → First (Met m w.bytes.now) (cause_of_totals f))
          (λ h. refused m _ tt sound _ _ _ _ _ _ here.2.1 _ next_is k.first.low k.first.inside h.0 (cause_of_totals f) h.1 h.2)
          (turned here.2.0 stands_so)

      -- the segment is judged, and maybe opens a loop
      goes_on : (loops' : ℕ) (placed : Placed) → Turned (Ok placed) → loops' ≡ loops + cond (eqb placed.around s.number) 1 0 → Between m w s.number loops' t placer' tally'
      goes_on loops' placed turned opened = (
        k.on,
        k.counted,
        (
          z,
          of_segment (λ x y n. TurnIs m x y n here.2.0 (plain s) placer' tally' (Ok placed) → loops' ≡ loops + cond (eqb placed.around n) 1 0 → Underway m w.bytes.now n loops' t.at placer' tally' z)
              (λ h o. subst (λ (b : ℕ). Underway m w.bytes.now (count + 1) loops' b placer' tally' z) (sym k.behind)
              (passed m _ tt sound _ _ _ _ _ _ here.2.1 _ next_is k.first.low k.first.inside placed placer' tally' loops' h.0 h.1 h.2 h.3 o))
              (turned here.2.0 stands_so) opened,
        ),
      )
        where
          z : List PlacedSegment
          z = here.2.0 ++ ((plain s, spot_for placed) ∷ [])

pub loop-segment-init : goal.loop-segment-init
loop-segment-init g c =
    let m = g.G.Guide.meaning c.args.guide.now in
    let w = c.args.interchange.now in
    let it = c.into_iter-segment-iterator.result in
    let s = started w.bytes.now c.segments-segment-items.result it w c.into_iter-segment-iterator.ensures.into_iter_gives c.segments-segment-items.ensures refl in
    let same : it.interchange ≡ w = ap (λ y. y.interchange) c.into_iter-segment-iterator.ensures.into_iter_gives ∙ c.segments-segment-items.ensures.0 in (
      subst (λ y. On y it) same s.on,
      s.none,
      (
        [],
        subst (λ (n : ℕ). Underway m w.bytes.now 0 0 n c.start-placer.result c.new-tally.result []) (sym s.first)
            (underway_start m w.bytes.now tt c.requires.sound c.start-placer.result c.new-tally.result (c.start-placer.ensures m) (c.new-tally.ensures m (separator_of w.bytes.now))),
      ),
    )

pub judge_segment-requires : goal.judge_segment-requires
judge_segment-requires g c = (c.loop-segment.invariant.2.0, stands_so c.requires.sound c.requires.delimited c.loop-segment.invariant c.in-Some.ensures.steps)

pub returns-in_err-placed : goal.returns-in_err-placed
returns-in_err-placed g c =
    let m = g.G.Guide.meaning c.args.guide.now in
    let I = c.args.interchange.now.bytes.now in
    let p = err_from_is_err_and c.from_residual.result c.from_residual.ensures.1 in
    stopped m I c.from_residual.result p.0 p.1
    (subst (λ (f : TotalsFault). First (Met m I) (cause_of_totals f)) (sym p.2)
    (refused_so c.requires.sound c.requires.delimited c.loop-segment.invariant c.in-Some.ensures.steps c.judge_segment.new.placer c.judge_segment.new.tally _ c.in_err-placed.ensures))

pub overflow_add-loops : goal.overflow_add-loops
overflow_add-loops g c =
    let i = c.loop-segment.invariant.2 in
    let n = i.1.number in
    let w = i.1.within in
    let f = i.1.few in
    let o = i.1.opened in
    let b = few_bytes (g.G.Guide.meaning c.args.guide.now) c.args.interchange.now.bytes.now tt c.requires.sound in
    omega (arith, loops_within 1 i.0)

pub loop-segment-preserved : goal.loop-segment-preserved
loop-segment-preserved g c =
    goes_on c.requires.sound c.requires.delimited c.loop-segment.invariant c.in-Some.ensures.steps _ _ _ _ c.in_ok-placed.ensures
    (sym (add-zero c.loop-segment.loops) ∙ ap (λ (x : ℕ). c.loop-segment.loops + x) (sym (cond-false _ 1 0 (ne_eqb _ _ c.if-placed-count.false))))

pub loop-segment-preserved-then-placed-count : goal.loop-segment-preserved-then-placed-count
loop-segment-preserved-then-placed-count g c =
    goes_on c.requires.sound c.requires.delimited c.loop-segment.invariant c.in-Some.ensures.steps _ _ _ _ c.in_ok-placed.ensures
    (ap (λ (x : ℕ). c.loop-segment.loops + x) (sym (cond-true _ 1 0 (eq-eqb _ _ c.if-placed-count.true))))

pub returns-then-not-is_whole : goal.returns-then-not-is_whole
returns-then-not-is_whole g c =
    let m = g.G.Guide.meaning c.args.guide.now in
    let i = c.loop-segment.invariant.2 in
    subst (λ (f : TotalsFault). First (Met m c.args.interchange.now.bytes.now) (cause_of_totals f)) (sym c.from.ensures)
    (begun m _ tt c.requires.sound _ _ _ _ _ i.0 i.1 (none_left c.requires.sound c.requires.delimited c.loop-segment.invariant c.in-None.ensures.steps)
    (c.if-not-is_whole.ensures m (g.G.Guide.lawful c.args.guide.now) _ i.1.placed))

pub returns : goal.returns
returns g c =
    let m = g.G.Guide.meaning c.args.guide.now in
    let i = c.loop-segment.invariant.2 in
    whole m _ tt c.requires.sound _ _ _ _ _ i.0 i.1 (none_left c.requires.sound c.requires.delimited c.loop-segment.invariant c.in-None.ensures.steps) _ refl refl refl refl refl
    (c.if-not-is_whole.ensures m (g.G.Guide.lawful c.args.guide.now) _ i.1.placed)
