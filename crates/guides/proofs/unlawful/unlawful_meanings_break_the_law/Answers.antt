use Rattle.guides.proofs.Breaks.{two_pid_breaks, whole_po102_breaks}
use Rattle.guides.proofs.unlawful.unlawful_meanings_break_the_law.Goals as goal

pub returns : goal.returns
returns c = (two_pid_breaks, whole_po102_breaks)
