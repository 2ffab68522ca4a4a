use Rattle.std.proofs.Common.{◌+◌, ◌∙◌, length, ap}
use Rattle.sheet.specs.Halves.{border_mended}
use Rattle.sheet.proofs.Shifts.{right_copied, right_inserted}
use Rattle.sheet.proofs.row.insert.Goals as goal

pub returns : goal.returns
returns c =
    let row = c.args.cells.now in
    let n = c.args.n in
    let from = c.args.from in
    let paper = c.args.paper in
    let by = c.copy_within.ensures.by_index in
    c.mend-3.ensures ∙ ap (border_mended (length row + 1) paper) (c.mend-2.ensures ∙ ap (border_mended (from + n) paper) (c.mend.ensures ∙ ap (border_mended from paper)
    (c.fill.ensures ∙ right_copied row n from paper c.requires.low c.requires.room _ c.blank.result c.copy_within.ensures.len c.blank.ensures by.0 by.1)))
    ∙ right_inserted row n from paper c.requires.low c.requires.room c.requires.whole
