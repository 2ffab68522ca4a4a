use Rattle.std.proofs.Common.{arith}
use Rattle.sheet.proofs.Turns.{unknown_none, unknown_more}
use Rattle.sheet.proofs.sheet.forget_lines.Goals as goal

pub loop-line-init : goal.loop-line-init
loop-line-init c = unknown_none c.args.first c.args.origins.now

pub loop-line-preserved : goal.loop-line-preserved
loop-line-preserved c = unknown_more c.args.first c.loop-line.line c.args.origins.now c.loop-line.origins (omega arith) (omega arith) (omega arith) c.loop-line.invariant
