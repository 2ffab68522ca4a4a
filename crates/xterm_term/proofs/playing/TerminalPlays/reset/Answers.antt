use Rattle.xterm_term.specs.Term.{play}
use Rattle.xterm_term.proofs.playing.TerminalPlays.reset.Goals as goal

pub returns : goal.returns
unfolding play
returns c = c.reset.ensures.shows
