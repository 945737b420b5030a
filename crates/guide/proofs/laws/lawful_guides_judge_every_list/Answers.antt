use Rattle.grammar.proofs.Judging.{one_derivation_or_first_misfit}
use Rattle.guide.specs.Asked.{rows_of, label_of}
use Rattle.guide.proofs.Sets.{lawful_rows}
use Rattle.guide.proofs.laws.lawful_guides_judge_every_list.Goals as goal

pub returns : goal.returns
returns c m w marks = one_derivation_or_first_misfit (label_of m) (rows_of m) (lawful_rows m w) marks
