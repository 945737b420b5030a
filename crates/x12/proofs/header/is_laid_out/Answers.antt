use Rattle.std.proofs.Common.{◌∙◌}
use Rattle.x12.proofs.Places.{laid_out_is}
use Rattle.x12.proofs.header.is_laid_out.Goals as goal

pub returns : goal.returns
returns c = c.has_placed.ensures ∙ laid_out_is c.args.interchange.now c.requires
