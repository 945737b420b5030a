use Rattle.std.proofs.Common.{◌<◌, length, refl, ap, ◌∙◌, add-one, arith}
use Rattle.x12.specs.Comes.{parts_from}
use Rattle.x12.proofs.Picks.{part_of}
use Rattle.x12.proofs.Splits.{found_at, last_at}
use Rattle.x12.proofs.elements.ElementsIterator.next.Goals as goal

pub returns-then-end-segment-clause-steps : goal.returns-then-end-segment-clause-steps
returns-then-end-segment-clause-steps c =
    let s = c.args.self.now in
    let xs = s.segment.bytes.now in
    let h = c.find_from-end.ensures in
    record {
      first = ap (parts_from s.segment) c.in_ok-at.was ∙ last_at xs s.segment.separator s.segment.place c.in_ok-at.at c.find_from-end.result h (omega arith);
      part = part_of xs s.segment.place c.in_ok-at.at c.find_from-end.result h.low h.within;
      numbered = refl;
      same = refl;
      counted = omega arith;
      followed = tt;
    }

pub returns-clause-steps : goal.returns-clause-steps
returns-clause-steps c =
    let s = c.args.self.now in
    let xs = s.segment.bytes.now in
    let h = c.find_from-end.ensures in
    let lt : c.find_from-end.result < length xs = omega (arith, h.within) in
    record {
      first = ap (parts_from s.segment) c.in_ok-at.was ∙ found_at xs s.segment.separator s.segment.place c.in_ok-at.at c.find_from-end.result h lt;
      part = part_of xs s.segment.place c.in_ok-at.at c.find_from-end.result h.low h.within;
      numbered = refl;
      same = refl;
      counted = omega arith;
      followed = add-one s.number;
    }
