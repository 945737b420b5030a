use Rattle.value.proofs.Meaning.{types_mean}
use Rattle.value.proofs.laws.types_mean_what_they_say.Goals as goal

pub returns : goal.returns
returns c = types_mean
