use Rattle.std.proofs.Common.{◌≢◌, ℕ, ◌<◌, Some, get_or}
use Rattle.clap.specs.Words.{subcommand_name_of}
use Rattle.command_line.specs.CommandLine.{name_in}
use Rattle.command_line.specs.declared.words.table.Subcommand.TheVariants.{Due}
use Rattle.command_line.proofs.words.subcommand_of.Given as goal

-- the subcommands so far aren't the one that was given
abbrev pub invariant-loop-subcommand : goal.invariant-loop-subcommand
invariant-loop-subcommand l =
    (k : ℕ) → k < l.subcommand-index → subcommand_name_of l.matches ≢ Some (name_in (get_or l.subcommand-items k Due))
