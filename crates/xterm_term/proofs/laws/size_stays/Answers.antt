use Rattle.xterm_term.proofs.Stays.{size_stays}
use Rattle.xterm_term.proofs.laws.size_stays.Goals as goal

pub returns : goal.returns
returns c = size_stays
