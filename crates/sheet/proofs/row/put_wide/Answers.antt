use Rattle.std.proofs.Common.{◌+◌, ◌∙◌, ap₂}
use Rattle.sheet.specs.Halves.{border_mended}
use Rattle.sheet.proofs.Rows.{wide_put, wide_written}
use Rattle.sheet.proofs.row.put_wide.Goals as goal

pub returns : goal.returns
returns c =
    let column = c.args.column in
    c.mend-2.ensures ∙ ap₂ (border_mended (column + 2)) c.paper-paper.ensures (c.mend.ensures ∙ ap₂ (border_mended column) c.paper-paper.ensures
    (wide_written column c.args.character c.args.rendition c.args.cells.now c.requires.low _ _ c.lettered.ensures c.covering.ensures c.requires.high))
    ∙ wide_put column c.args.character c.args.rendition c.args.cells.now c.requires.low c.requires.whole c.requires.high
