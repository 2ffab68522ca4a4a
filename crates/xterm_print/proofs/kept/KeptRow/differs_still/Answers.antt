use Rattle.std.proofs.Common.{◌≡◌, ◌<◌, ◌∙◌, List, ap, arith, length, sym}
use Rattle.std.proofs.lemmas.Bool.{not-true}
use Rattle.sheet.specs.Cells.{Cell}
use Rattle.xterm_print.specs.ChangeLines.{same_row}
use Rattle.xterm_print.proofs.SameLemmas.{rows_differ}
use Rattle.xterm_print.proofs.kept.KeptRow.differs_still.Goals as goal

pub returns : goal.returns
returns c = λ is.
    let row = c.self.inside.cells.items in
    let other = c.args.cells.now in
    let long : length row ≡ length other = omega (arith, c.len.ensures, c.self.inside.cells.ok.0, c.if-len-cells.false) in
    let below : c.self.inside.apart < length row = omega (arith, long) in
    let differ = rows_differ row other c.self.inside.apart c.index.result.now c.index-cells-at.result long below c.index.ensures c.index-cells-at.is
    (sym c.same_cell.ensures.same ∙ not-true c.same_cell.result is) in
    ap (λ (r : List Cell). same_row r other) (sym c.self.view_is) ∙ differ
