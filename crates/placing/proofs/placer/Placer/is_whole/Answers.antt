use Rattle.placing.proofs.Wholes.{whole, part}
use Rattle.placing.proofs.placer.Placer.is_whole.Goals as goal

pub returns-in-End : goal.returns-in-End
returns-in-End c = λ m w marks old. whole m w c.args.self.now marks old c.in-End.is

pub returns-in_default : goal.returns-in_default
returns-in_default c = λ m w marks old. part m w c.args.self.now marks old c.in_default.not-End
