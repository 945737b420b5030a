use Rattle.reading.proofs.Verdicts.{no_two_verdicts}
use Rattle.reading.proofs.laws.no_reading_has_two_verdicts.Goals as goal

pub returns : goal.returns
returns c = no_two_verdicts
