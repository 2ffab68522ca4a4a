use Rattle.xterm_term.proofs.Agree.{seen_decides}
use Rattle.xterm_term.proofs.laws.seen_decides.Goals as goal

pub returns : goal.returns
returns c = seen_decides c.laws_below.ensures
