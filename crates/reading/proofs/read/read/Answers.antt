use Rattle.std.proofs.Common.{◌≡◌, ℕ, ◌≤◌, List, length, Ok, Err, Result, sym, ap, ◌∙◌, subst, inl, inr, arith}
use Rattle.std.proofs.lemmas.Result.{err_from_is_err_and}
use Rattle.x12.specs.Header.{separator_of, component_of, terminator_of}
use Rattle.x12.specs.Checks.{header_check}
use Rattle.x12.specs.Rank.{First}
use Rattle.guide.specs.Meaning.{Meaning}
use Rattle.results.specs.Rows.{loops_in, Fitting}
use Rattle.verdict.specs.declared.verdicts.Totals.{Totals}
use Rattle.totals.specs.Fails.{cause_of_totals}
use Rattle.reading.specs.declared.faults.ReadingFault.{ReadingFault}
use Rattle.reading.specs.declared.judging.Judgment.{Judgment}
use Rattle.reading.specs.Met.{Met}
use Rattle.reading.specs.Judgment.{JudgedSo}
use Rattle.reading.specs.Promise.{ReadingIs, totals_of}
use Rattle.reading.proofs.Quiets.{header_first}
use Rattle.reading.proofs.Promises.{promise_accepted, promise_few, promise_refused}
use Rattle.reading.proofs.read.read.Goals as goal

-- the totals of a judgment
told : (m : Meaning) (I : List ℕ) (j : Judgment) (s : JudgedSo m I j) → j.totals ≡ totals_of I s.derivation
told m I j s = (λ i. record { segments = s.segments i; sets = s.sets i; lines = s.lines i; sum = s.sum i })

pub returns-in_err-read : goal.returns-in_err-read
returns-in_err-read g c =
    let m = g.G.Guide.meaning c.args.guide.now in
    let I = c.args.interchange.now in
    let S = c.args.segments.now in
    let L = c.args.loops.now in
    let p = err_from_is_err_and c.from_residual.result c.from_residual.ensures.1 in
    subst (λ (r : Result Totals ReadingFault). ReadingIs m I S S L L r) (sym (p.1 ∙ ap Err p.2))
    (promise_refused m I S L _ (header_first m I _ c.in_err-read.ensures))

pub judge-requires : goal.judge-requires
judge-requires g c =
    let r = c.in_ok-read.read in
    let h = c.in_ok-read.ensures in record {
      sound = ap header_check h.0 ∙ h.1;
      delimited = (h.2 ∙ sym (ap separator_of h.0), (h.3 ∙ sym (ap component_of h.0), h.4 ∙ sym (ap terminator_of h.0)));
    }

pub returns-in_err-judgment : goal.returns-in_err-judgment
returns-in_err-judgment g c =
    let m = g.G.Guide.meaning c.args.guide.now in
    let I = c.args.interchange.now in
    let S = c.args.segments.now in
    let L = c.args.loops.now in
    let p = err_from_is_err_and c.from_residual-in_err-judgment.result c.from_residual-in_err-judgment.ensures.1 in
    subst (λ (r : Result Totals ReadingFault). ReadingIs m I S S L L r) (sym (p.1 ∙ ap Err p.2))
    (promise_refused m I S L c.in_err-judgment.field-0.0 (subst (λ (l : List ℕ). First (Met m l) (cause_of_totals c.in_err-judgment.field-0.0)) c.in_ok-read.ensures.0 c.in_err-judgment.ensures))

pub returns-then-judgment-segments : goal.returns-then-judgment-segments
returns-then-judgment-segments g c =
    let m = g.G.Guide.meaning c.args.guide.now in
    let I = c.args.interchange.now in
    let s = subst (λ (l : List ℕ). JudgedSo m l c.in_ok-judgment.judgment) c.in_ok-read.ensures.0 c.in_ok-judgment.ensures in
    let a = s.segments in
    let b = s.loops in
    promise_few m I c.args.segments.now c.args.loops.now s.regular s.derivation s.derived s.one
    (elim c.then-judgment-segments.either [ inl h ↦ inl (omega (arith, a, h)) | inr h ↦ inr (omega (arith, b, h.1)) ])

pub returns : goal.returns
returns g c =
    let m = g.G.Guide.meaning c.args.guide.now in
    let I = c.args.interchange.now in
    let S = c.args.segments.now in
    let L = c.args.loops.now in
    let r = c.in_ok-read.read in
    let h = c.in_ok-read.ensures in
    let s = subst (λ (l : List ℕ). JudgedSo m l c.in_ok-judgment.judgment) c.in_ok-read.ensures.0 c.in_ok-judgment.ensures in
    let a = s.segments in
    let b = s.loops in
    let enough : length s.derivation ≤ length S = omega (arith, a, c.if-judgment-segments.false) in
    let loops_enough : loops_in s.derivation ≤ length L = omega (arith, b, c.if-judgment-loops.false) in
    subst (λ (t : Totals). ReadingIs m I S c.fill.new.segments L c.fill.new.loops (Ok t)) (sym (told m I c.in_ok-judgment.judgment s))
    (promise_accepted m I S c.fill.new.segments L c.fill.new.loops s.regular s.derivation s.derived s.one enough loops_enough
    (c.fill.ensures s.derivation
    (subst (λ (l : List ℕ). Fitting m l r.delimiters.terminator r.delimiters.separator (length S) (length L) s.derivation) (sym h.0)
    (record { derived = s.derived; ends = h.4; parts = h.2; room = enough; loop_room = loops_enough }))))
