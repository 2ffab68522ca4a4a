use Rattle.std.proofs.Common.{◌∙◌, sym, arith}
use Rattle.vt_screen.specs.Slots.{rows_of}
use Rattle.vt_screen.proofs.Packed.{packed_next}
use Rattle.vt_screen.proofs.Tables.{nth_is}
use Rattle.vt_screen.proofs.screen.packed.pack_rows.Goals as goal

pub pack_row-requires-clause-used : goal.pack_row-requires-clause-used
pack_row-requires-clause-used c =
    let line = c.loop-line.line in
    rw (c.row.ensures.value, sym (nth_is 0 c.args.used.now line)) (c.requires.used.line line (omega arith) (omega arith))

pub loop-line-preserved : goal.loop-line-preserved
loop-line-preserved c =
    let put = c.in_ok-parts.ensures in
    packed_next (rows_of c.args.grid.now) c.loop-line.cells.items c.pack_row.new.cells.items c.loop-line.parts c.loop-line.line
    c.in_ok-parts.field-0 (omega arith) (omega arith) c.loop-line.invariant
    (record { part = λ p is. (put.others p is).0; row = λ p is. (put.others p is).1 }) put.part
    (put.row ∙ c.row.ensures.value) put.few
