use Rattle.std.proofs.Common.{arith}
use Rattle.vt_parser.proofs.Table.{fit}
use Rattle.vt_parser.proofs.machine.act.Goals as goal

pub unreachable-requires : goal.unreachable-requires
unreachable-requires c = grind (arith, fit c.context_in.result c.args.byte)
