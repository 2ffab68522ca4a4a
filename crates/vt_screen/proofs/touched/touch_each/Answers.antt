use Rattle.std.proofs.Common.{arith}
use Rattle.vt_screen.proofs.Told.{touched_none, touched_more}
use Rattle.vt_screen.proofs.touched.touch_each.Goals as goal

pub loop-line-init : goal.loop-line-init
loop-line-init c = touched_none c.args.first c.args.touched.now c.told-touched

pub loop-line-preserved : goal.loop-line-preserved
loop-line-preserved c =
    touched_more c.args.first c.loop-line.line c.args.touched.now c.loop-line.touched (omega arith) (omega arith) (omega arith) c.loop-line.invariant
