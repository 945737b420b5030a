use Rattle.reading.proofs.JudgeRight.{one_answer}
use Rattle.reading.proofs.laws.every_interchange_has_one_answer.Goals as goal

pub returns : goal.returns
returns c = one_answer
