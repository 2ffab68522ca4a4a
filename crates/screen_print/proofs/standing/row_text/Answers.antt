use Rattle.std.proofs.Common.{◌∙◌, ap, ap₂, map}
use Rattle.std.proofs.lemmas.List.{take_all}
use Rattle.screen_rows.specs.RowText.{row_text}
use Rattle.screen_rows.specs.Glyphs.{character}
use Rattle.screen_print.proofs.standing.row_text.Goals as goal

-- all cells were read
pub returns-clause-text : goal.returns-clause-text
returns-clause-text c =
    let cells = c.cells_to_margin-cell-items.result.now in
    c.loop-cell.invariant.text ∙ ap (map (λ cell. character cell.glyph)) (take_all c.loop-cell.cell-index cells c.loop-cell-test.false)
    ∙ c.cells_to_margin-cell-items.ensures.text ∙ ap₂ row_text c.is_wide.ensures c.row.ensures.value
