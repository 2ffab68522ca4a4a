use Rattle.std.proofs.Common.{◌-◌, ◌∙◌, List, ap, set, arith}
use Rattle.sheet.specs.Cells.{Cell}
use Rattle.sheet.proofs.Rows.{filled_none, filled_more}
use Rattle.sheet.proofs.row.fill.Goals as goal

pub loop-i-init : goal.loop-i-init
loop-i-init c = filled_none c.args.cells.now c.args.from (c.args.from - 1) c.args.cell (omega arith)

pub loop-i-preserved : goal.loop-i-preserved
loop-i-preserved c =
    ap (λ (row : List Cell). set row c.loop-i.i c.args.cell) c.loop-i.invariant
    ∙ filled_more c.args.cells.now c.args.from c.loop-i.i c.args.cell (omega arith) (omega arith)
