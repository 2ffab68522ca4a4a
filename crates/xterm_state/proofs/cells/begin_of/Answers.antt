use Rattle.std.proofs.Common.{ap, ◌∙◌}
use Rattle.sheet.specs.Edits.{character_column}
use Rattle.xterm_state.proofs.cells.begin_of.Goals as goal

pub returns : goal.returns
returns c = c.character_column.ensures ∙ ap (character_column c.args.column) c.cursor_row.ensures
