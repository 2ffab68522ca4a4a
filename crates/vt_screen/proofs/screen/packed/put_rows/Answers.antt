use Rattle.std.proofs.Common.{arith}
use Rattle.vt_screen.specs.Slots.{rows_of}
use Rattle.vt_screen.proofs.Packed.{put_next}
use Rattle.vt_screen.proofs.screen.packed.put_rows.Goals as goal

pub loop-line-preserved : goal.loop-line-preserved
loop-line-preserved c = λ k low before.
    put_next (rows_of c.loop-line.grid) (rows_of c.set_row.new.self) c.args.packed.now.rows c.loop-line.line k c.row.result
    c.set_row.ensures.rows (omega arith) c.row.ensures.value low before c.loop-line.invariant
