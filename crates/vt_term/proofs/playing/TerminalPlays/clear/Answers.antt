use Rattle.vt_term.specs.Term.{play}
use Rattle.vt_term.proofs.playing.TerminalPlays.clear.Goals as goal

pub returns : goal.returns
unfolding play
returns c = λ _. c.reset_as.ensures
