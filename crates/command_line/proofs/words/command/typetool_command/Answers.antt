use Rattle.std.proofs.Common.{◌∙◌, ap, arith}
use Rattle.clap.specs.Words.{AddsSubcommand, App, app_of}
use Rattle.command_line.proofs.CommandLemmas.{with_subcommands_more, with_all_subcommands}
use Rattle.command_line.proofs.words.command.typetool_command.Goals as goal

pub loop-subcommand-preserved : goal.loop-subcommand-preserved
loop-subcommand-preserved c =
    let at = c.loop-subcommand.subcommand-index in
    let added : AddsSubcommand c.loop-subcommand.command c.in_ok-added.added c.in_ok-command.command = c.in_ok-command.ensures in (
      added.shape c.in_ok-added.ensures.local
          ∙ with_subcommands_more (app_of c.loop-subcommand.command) _ _ at _ _ (omega arith)
          (ap (λ (a : App). a.top) c.in_ok-added.ensures.app) c.loop-subcommand.invariant.0,
      rw (c.loop-subcommand.invariant.1, c.in_ok-added.ensures.local) at added.globals,
    )

pub returns-clause-app : goal.returns-clause-app
returns-clause-app c =
    with_all_subcommands (app_of c.loop-subcommand.command) _ c.loop-subcommand.subcommand-index
    c.subcommands-all.ensures (omega arith) c.loop-subcommand.invariant.0
