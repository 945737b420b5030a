use Rattle.std.proofs.Common.{[], refl}
use Rattle.grammar.proofs.LoopStates.{loop_stay}
use Rattle.placing.proofs.placer.Placer.start.Goals as goal

pub returns : goal.returns
returns c = λ m. ([], _, loop_stay, tt, refl)
