use Rattle.std.proofs.Common.{sym, arith}
use Rattle.vt_screen.proofs.Packed.{used_next}
use Rattle.vt_screen.specs.Slots.{rows_of}
use Rattle.vt_screen.proofs.screen.packed.used_by_line.Goals as goal

pub loop-line-preserved : goal.loop-line-preserved
loop-line-preserved c =
    used_next (rows_of c.args.grid.now) c.loop-line.all c.loop-line.line c.used.result (omega arith) (omega arith)
    c.loop-line.invariant (rw (sym c.row.ensures.value) c.used.ensures)
