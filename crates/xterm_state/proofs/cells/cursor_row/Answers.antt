use Rattle.std.proofs.Common.{ap, ◌∙◌}
use Rattle.sheet.specs.Grid.{row_at}
use Rattle.xterm_state.proofs.cells.cursor_row.Goals as goal

pub returns : goal.returns
returns c = c.row.ensures.value ∙ ap (row_at c.args.screen.now.picture.rows) c.cursor-line.ensures.line
