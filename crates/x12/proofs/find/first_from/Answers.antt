use Rattle.std.proofs.Common.{rules, true, false, refl, ◌∙◌}
use Rattle.std.proofs.lemmas.Iterator.{IsFirst-from_position, YieldsList-from_slice}
use Rattle.x12.proofs.Finds.{rest_is, stops_there, stops_nowhere}
use Rattle.x12.proofs.find.first_from.Given.{P-post}
use Rattle.x12.proofs.find.first_from.Goals as goal

pub returns-in-Some : goal.returns-in-Some
returns-in-Some g c =
    let whole = c.iter.ensures.rest ∙ rest_is c.args.s.now c.args.from _ (search rules) in
    stops_there (P-post g c.args.test) c.args.s.now _ c.args.from c.requires.place whole c.position.result c.in-Some.k c.in-Some.is
    (IsFirst-from_position _ _ c.position.result (λ x. P-post g c.args.test x true) (λ x. P-post g c.args.test x false) c.position.ensures.ran (YieldsList-from_slice _ refl) (λ x q k. search rules) (λ x q k. search rules))

pub returns : goal.returns
returns g c =
    let whole = c.iter.ensures.rest ∙ rest_is c.args.s.now c.args.from _ (search rules) in
    stops_nowhere (P-post g c.args.test) c.args.s.now _ c.args.from c.requires.place whole c.position.result c.in-None.is
    (IsFirst-from_position _ _ c.position.result (λ x. P-post g c.args.test x true) (λ x. P-post g c.args.test x false) c.position.ensures.ran (YieldsList-from_slice _ refl) (λ x q k. search rules) (λ x q k. search rules))
