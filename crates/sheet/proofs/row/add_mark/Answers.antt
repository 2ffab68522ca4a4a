use Rattle.std.proofs.Common.{◌∙◌, ap}
use Rattle.sheet.specs.Cells.{with_mark}
use Rattle.sheet.proofs.Marks.{mark_written}
use Rattle.sheet.proofs.Rows.{cell_read}
use Rattle.sheet.proofs.row.add_mark.Goals as goal

pub returns : goal.returns
returns c =
    let row = c.args.cells.now in
    let at = c.character_at-at.result in
    mark_written c.args.column c.args.mark row at c.with_mark.result c.character_at-at.ensures.value c.character_at-at.ensures.low c.character_at-at.ensures.high
    (c.with_mark.ensures ∙ ap (with_mark c.args.mark) (c.index-cells-at.is ∙ cell_read row _ at c.character_at-at.ensures.low c.character_at-at.ensures.high))
