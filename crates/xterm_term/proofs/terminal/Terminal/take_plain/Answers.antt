use Rattle.std.proofs.Common.{refl}
use Rattle.xterm_term.specs.Term.{play, sent}
use Rattle.xterm_term.proofs.terminal.Terminal.take_plain.Goals as goal

pub returns-else-is_idle-clause-shows : goal.returns-else-is_idle-clause-shows
unfolding play
returns-else-is_idle-clause-shows c x shows = shows

pub returns-else-is_idle-clause-silent : goal.returns-else-is_idle-clause-silent
unfolding sent
returns-else-is_idle-clause-silent c x shows = refl
