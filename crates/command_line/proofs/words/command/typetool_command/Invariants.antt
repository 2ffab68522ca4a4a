use Rattle.std.proofs.Common.{◌≡◌, false, take}
use Rattle.clap.specs.Words.{app_of}
use Rattle.clap.specs.declared.Command.TheViews.{out-Command as fields_of}
use Rattle.command_line.specs.CommandLine.{top_app, with_subcommands}
use Rattle.command_line.proofs.words.command.typetool_command.Given as goal

-- the subcommands so far were added
abbrev pub invariant-loop-subcommand : goal.invariant-loop-subcommand
invariant-loop-subcommand l =
    (app_of l.command ≡ with_subcommands top_app (take l.subcommand-index l.subcommand-items))
    × ((fields_of l.command).has_globals ≡ false)
