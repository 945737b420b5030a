use Rattle.seen.proofs.Lasts.{linked_push}
use Rattle.seen.proofs.line_numbers.LineNumbers.add.Goals as goal

pub invariant_of-self : goal.invariant_of-self
invariant_of-self c =
    let s = c.self.inside in
    linked_push s.numbers.items _ s.older.items _ s.heads _ _ _ c.self.invariant c.bucket_of-bucket.ensures.is c.bucket_of-bucket.ensures.fits c.len.ensures.value c.push-2.ensures.items c.push.ensures.items
