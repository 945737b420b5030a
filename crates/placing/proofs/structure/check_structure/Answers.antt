use Rattle.std.proofs.Common.{◌≡◌, ℕ, List, length, Ok, Err, Result, sym, ap, ◌∙◌, subst, arith, MatchResult}
use Rattle.std.proofs.lemmas.Result.{err_from_is_err_and}
use Rattle.x12.specs.declared.faults.Fault.{Fault}
use Rattle.x12.specs.declared.parts.Interchange.{Interchange}
use Rattle.x12.specs.Header.{separator_of, component_of, terminator_of}
use Rattle.x12.specs.Segments.{segments_of}
use Rattle.x12.specs.Checks.{header_check}
use Rattle.x12.specs.Causes.{cause_of}
use Rattle.x12.specs.Rank.{First, NoneOf}
use Rattle.x12.specs.Met.{Met}
use Rattle.guide.specs.Meaning.{Meaning}
use Rattle.placing.specs.declared.faults.SegmentFault.{SegmentFault}
use Rattle.placing.specs.Structure.{StructureMet, SegmentMet, cause_of_segment}
use Rattle.placing.proofs.Joined.{header_first, neither, structure_only, structure_earlier, bytes_earlier, bytes_only}
use Rattle.placing.proofs.structure.check_structure.Goals as goal

-- what placing answers of the segments of an interchange
abbrev Structured : Meaning → List ℕ → Result ℕ SegmentFault → Type 0
Structured m I r = MatchResult r (λ n. NoneOf (StructureMet m I) × (n ≡ length (segments_of I))) (λ f. First (StructureMet m I) (cause_of_segment f))

-- the bytes are read, with their delimiters
abbrev ReadSo : List ℕ → Interchange → Type 0
ReadSo I z =
    (z.bytes.now ≡ I) × (header_check I ≡ Ok tt) × (z.delimiters.separator ≡ separator_of I) × (z.delimiters.component ≡ component_of I) × (z.delimiters.terminator ≡ terminator_of I)

-- what is said of the interchange that was read is said of the bytes
said : (m : Meaning) (I : List ℕ) (z : Interchange) (r : Result ℕ SegmentFault) → ReadSo I z
    → (z.delimiters.terminator ≡ terminator_of z.bytes.now → z.delimiters.separator ≡ separator_of z.bytes.now → Structured m z.bytes.now r) → Structured m I r
said m I z r d h = subst (λ I. Structured m I r) d.0 (h (d.4 ∙ sym (ap terminator_of d.0)) (d.2 ∙ sym (ap separator_of d.0)))

-- no fault of bytes: the answer is that of structure
sound_bytes : (m : Meaning) (I : List ℕ) (r : Result ℕ SegmentFault) → NoneOf (Met I) → Structured m I r
    → MatchResult r (λ n. NoneOf (SegmentMet m I) × (n ≡ length (segments_of I))) (λ f. First (SegmentMet m I) (cause_of_segment f))
sound_bytes m I (Ok n) none x = (neither m I none x.0, x.1)
sound_bytes m I (Err f) none x = structure_only m I (cause_of_segment f) none x

pub returns-in_err-read : goal.returns-in_err-read
returns-in_err-read g c =
    let p = err_from_is_err_and c.from_residual.result c.from_residual.ensures.1 in
    rw (p.1, p.2) (header_first (g.G.Guide.meaning c.args.guide.now) c.args.interchange.now (cause_of c.in_err-read.field-0.0) c.in_err-read.ensures)

pub returns-in_default : goal.returns-in_default
returns-in_default g c =
    let m = g.G.Guide.meaning c.args.guide.now in
    let r = c.place_segments-placed.result in
    sound_bytes m c.args.interchange.now r c.in_default.ensures.0 (said m _ c.in_ok-read.read r c.in_ok-read.ensures c.place_segments-placed.ensures)

pub returns-then-from : goal.returns-then-from
returns-then-from g c =
    let m = g.G.Guide.meaning c.args.guide.now in
    let a = ap (λ (z : Fault). z.segment) c.from.ensures in
    let b = ap (λ (z : Fault). z.segment) c.from-in-Err-placed.ensures in
    let h = c.if-from.true in
    let f = c.in-Err-placed.misfit in
    structure_earlier m c.args.interchange.now (cause_of c.in-Err.bytes) (cause_of_segment f) c.in-Err.ensures (said m _ c.in_ok-read.read (Err f) c.in_ok-read.ensures c.in-Err-placed.ensures) (omega arith)

pub returns-else-from : goal.returns-else-from
returns-else-from g c =
    let m = g.G.Guide.meaning c.args.guide.now in
    let a = ap (λ (z : Fault). z.segment) c.from.ensures in
    let b = ap (λ (z : Fault). z.segment) c.from-in-Err-placed.ensures in
    let h = c.if-from.false in
    let f = c.in-Err-placed.misfit in
    bytes_earlier m c.args.interchange.now (cause_of c.in-Err.bytes) (cause_of_segment f) c.in-Err.ensures (said m _ c.in_ok-read.read (Err f) c.in_ok-read.ensures c.in-Err-placed.ensures) (omega arith)

pub returns-in_default-placed : goal.returns-in_default-placed
returns-in_default-placed g c =
    let m = g.G.Guide.meaning c.args.guide.now in
    bytes_only m c.args.interchange.now (cause_of c.in-Err.bytes) c.in-Err.ensures (said m _ c.in_ok-read.read (Ok c.in_default-placed.field-0) c.in_ok-read.ensures c.in_default-placed.ensures).0
