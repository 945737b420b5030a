-- The contract is the first theorem of proofs/Judging.
use Rattle.grammar.proofs.Judging.{one_derivation_or_first_misfit}
use Rattle.grammar.proofs.every_list_of_marks_is_judged.Goals as goal

pub returns : goal.returns
returns c = one_derivation_or_first_misfit
