use Rattle.std.proofs.Common.{◌<◌, [], map, length, sym, refl, ap, ◌∙◌, subst, arith}
use Rattle.std.specs.Str.{bytes_eq}
use Rattle.std.proofs.lemmas.List.Recursion.{or_at, or_from_places}
use Rattle.seen.specs.Came.{bytes_of, came_before}
use Rattle.seen.specs.Chains.{latest}
use Rattle.seen.proofs.Lasts.{up_to}
use Rattle.seen.proofs.Walks.{kept_at, older_at, Walk, walk_start, walk_more, nearer}
use Rattle.seen.proofs.line_numbers.LineNumbers.has.Goals as goal

pub loop-next-init : goal.loop-next-init
loop-next-init c =
    let ns = map bytes_of c.self.inside.numbers.items in
    let v = c.args.number.now in
    let e = c.self.invariant.headed c.bucket_of.result c.bucket_of.ensures.fits ∙ ap (λ b. latest ns b (length ns)) c.bucket_of.ensures.is in
    subst (Walk ns v) (sym e) (walk_start ns v)

pub returns-then-same_bytes : goal.returns-then-same_bytes
returns-then-same_bytes c =
    let items = c.self.inside.numbers.items in
    let v = c.args.number.now in
    let i = c.in-Some.i in
    let w = rw c.in-Some.is at c.loop-next.invariant in
    let lt : c.in-Some.i < length (map bytes_of c.self.inside.numbers.items) = omega (arith, w.within) in
    let same = ap (bytes_eq v) (kept_at c.as_slice.result.now items c.from-i.result i _ c.as_slice.ensures.value c.from-i.ensures lt) ∙ sym c.same_bytes.ensures.test ∙ c.if-same_bytes.true in
    sym (or_at (came_before v) (bytes_eq v) refl (λ _ _. refl) (map bytes_of items) i [] lt same) ∙ ap (came_before v) c.self.view_is

pub loop-next-smaller : goal.loop-next-smaller
loop-next-smaller c =
    let s = c.self.inside in
    let i = c.in-Some.i in
    let w = rw c.in-Some.is at c.loop-next.invariant in
    let lt : c.in-Some.i < length (map bytes_of c.self.inside.numbers.items) = omega (arith, w.within) in
    nearer (map bytes_of s.numbers.items) c.args.number.now i _ _ (older_at c.as_slice-in-Some.result.now s.older.items c.from-i.result i _ c.as_slice-in-Some.ensures.value c.from-i.ensures (c.self.invariant.chained i lt)) c.in-Some.is

pub loop-next-preserved : goal.loop-next-preserved
loop-next-preserved c =
    let s = c.self.inside in
    let v = c.args.number.now in
    let i = c.in-Some.i in
    let w = rw c.in-Some.is at c.loop-next.invariant in
    let lt : c.in-Some.i < length (map bytes_of c.self.inside.numbers.items) = omega (arith, w.within) in
    let other = ap (bytes_eq v) (kept_at c.as_slice.result.now s.numbers.items c.from-i.result i _ c.as_slice.ensures.value c.from-i.ensures lt) ∙ sym c.same_bytes.ensures.test ∙ c.if-same_bytes.false in
    let older = older_at c.as_slice-in-Some.result.now s.older.items c.from-i.result i _ c.as_slice-in-Some.ensures.value c.from-i.ensures (c.self.invariant.chained i lt) in
    subst (Walk (map bytes_of s.numbers.items) v) (sym older) (walk_more (map bytes_of s.numbers.items) v i w other)

pub returns : goal.returns
returns c =
    let ns = map bytes_of c.self.inside.numbers.items in
    let v = c.args.number.now in
    sym (or_from_places (came_before v) (bytes_eq v) refl (λ _ _. refl) ns [] (λ i lt. c.loop-next.invariant.past i (omega (arith, ap up_to c.in_default.is)) lt)) ∙ ap (came_before v) c.self.view_is
