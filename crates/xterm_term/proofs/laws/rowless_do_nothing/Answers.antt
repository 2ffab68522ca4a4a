use Rattle.xterm_term.proofs.Rowless.{rowless_commands_do_nothing, rowless_modes_stay, rowless_ansi_modes_stay}
use Rattle.xterm_term.proofs.laws.rowless_do_nothing.Goals as goal

pub returns-clause-commands : goal.returns-clause-commands
returns-clause-commands c = rowless_commands_do_nothing

pub returns-clause-modes : goal.returns-clause-modes
returns-clause-modes c = rowless_modes_stay

pub returns-clause-ansi_modes : goal.returns-clause-ansi_modes
returns-clause-ansi_modes c = rowless_ansi_modes_stay
