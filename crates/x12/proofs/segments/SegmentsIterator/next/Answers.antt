use Rattle.std.proofs.Common.{refl, ◌∙◌, arith, add-one}
use Rattle.x12.proofs.Follows.{class_five, skip_at, none_at, first_from}
use Rattle.x12.proofs.segments.SegmentsIterator.next.Goals as goal

pub returns-then-place-bytes-clause-steps : goal.returns-then-place-bytes-clause-steps
returns-then-place-bytes-clause-steps c =
    let s = c.args.self.now in
    skip_at s.interchange.bytes.now s.interchange.delimiters.terminator s.at c.skip_breaks-place.result (class_five _ s.interchange.delimiters.printed.2) c.skip_breaks-place.ensures
    ∙ none_at s.interchange.bytes.now s.interchange.delimiters.terminator c.skip_breaks-place.result (omega arith)

pub returns-clause-steps : goal.returns-clause-steps
returns-clause-steps c =
    let s = c.args.self.now in
    let p = c.skip_breaks-place.ensures in
    let f = first_from s.interchange.bytes.now s.interchange.delimiters.terminator s.at c.skip_breaks-place.result c.find_from-end.result (class_five _ s.interchange.delimiters.printed.2) p (omega (arith, p.within)) c.find_from-end.ensures in
    record {
      first = f;
      numbered = add-one s.count;
      separated = refl;
      component = refl;
      same = refl;
      behind = omega (arith, f.inside);
      counted = refl;
    }
