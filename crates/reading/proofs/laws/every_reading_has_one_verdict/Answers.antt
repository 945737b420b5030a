use Rattle.reading.proofs.Verdicts.{one_verdict}
use Rattle.reading.proofs.laws.every_reading_has_one_verdict.Goals as goal

pub returns : goal.returns
returns c = one_verdict
