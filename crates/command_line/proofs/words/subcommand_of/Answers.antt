use Rattle.std.proofs.Common.{arith}
use Rattle.command_line.proofs.CommandLemmas.{unnamed, unnamed_more}
use Rattle.command_line.proofs.words.subcommand_of.Goals as goal

pub loop-subcommand-preserved : goal.loop-subcommand-preserved
loop-subcommand-preserved c =
    unnamed_more _ _ c.loop-subcommand.subcommand-index _ (omega arith) c.loop-subcommand.invariant
    (c.values_under.ensures.other c.in_default.is)

pub unreachable-requires : goal.unreachable-requires
unreachable-requires c =
    unnamed _ _ c.loop-subcommand.subcommand-index c.subcommands-all.ensures (omega arith) c.loop-subcommand.invariant c.requires
