use Rattle.x12.proofs.Splitting.{one_split}
use Rattle.x12.proofs.laws.every_list_is_split_in_one_way.Goals as goal

pub returns : goal.returns
returns c = one_split
