use Rattle.xterm_term.proofs.Bound.{sends_little}
use Rattle.xterm_term.proofs.laws.sends_little.Goals as goal

pub returns : goal.returns
returns c = sends_little c.laws_below.ensures
