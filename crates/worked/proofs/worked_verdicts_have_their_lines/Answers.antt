use Rattle.worked.proofs.Computed.{told}
use Rattle.worked.proofs.worked_verdicts_have_their_lines.Goals as goal

pub returns : goal.returns
returns c = told
