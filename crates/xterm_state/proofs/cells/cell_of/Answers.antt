use Rattle.std.proofs.Common.{ap, ap₂, ◌∙◌}
use Rattle.sheet.specs.Cells.{cell_at}
use Rattle.sheet.specs.Edits.{character_column}
use Rattle.xterm_state.proofs.cells.cell_of.Goals as goal

pub returns : goal.returns
returns c =
    c.cell_at.ensures
    ∙ ap₂ cell_at c.cursor_row-row.ensures (c.character_column.ensures ∙ ap (character_column c.args.column) c.cursor_row-row.ensures)
