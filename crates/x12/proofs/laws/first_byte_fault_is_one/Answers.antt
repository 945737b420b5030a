use Rattle.x12.proofs.Meets.{one_first}
use Rattle.x12.proofs.laws.first_byte_fault_is_one.Goals as goal

pub returns : goal.returns
returns c = one_first
