use Rattle.vt_term.specs.Term.{play}
use Rattle.vt_term.proofs.playing.TerminalPlays.reset.Goals as goal

pub returns : goal.returns
unfolding play
returns c = c.reset_as.ensures
