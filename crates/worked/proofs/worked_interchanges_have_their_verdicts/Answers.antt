use Rattle.worked.proofs.Computed.{worked_cases}
use Rattle.worked.proofs.worked_interchanges_have_their_verdicts.Goals as goal

pub returns : goal.returns
returns c = worked_cases
