use Rattle.vt_term.proofs.Rowless.{rowless_commands_do_nothing}
use Rattle.vt_term.proofs.laws.rowless_do_nothing.Goals as goal

pub returns-clause-commands : goal.returns-clause-commands
returns-clause-commands c = rowless_commands_do_nothing
