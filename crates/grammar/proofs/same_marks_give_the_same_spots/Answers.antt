-- The contract is the second theorem of proofs/Judging.
use Rattle.grammar.proofs.Judging.{same_marks_same_spots}
use Rattle.grammar.proofs.same_marks_give_the_same_spots.Goals as goal

pub returns : goal.returns
returns c = same_marks_same_spots
