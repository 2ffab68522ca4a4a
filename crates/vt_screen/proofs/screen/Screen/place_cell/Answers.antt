use Rattle.std.proofs.Common.{◌∙◌, ap}
use Rattle.vt_screen.specs.declared.cell.Row.{Row}
use Rattle.vt_screen.specs.Cells.{cell_at}
use Rattle.vt_screen.specs.Slots.{ScreenState, row_in}
use Rattle.vt_screen.proofs.Answers.{cell_read}
use Rattle.vt_screen.proofs.screen.Screen.place_cell.Goals as goal

pub returns : goal.returns
returns c =
    cell_read c.row_in.result.now c.args.col c.index-row_in-col.result c.row_in.ensures.whole c.requires.low c.requires.high
    ∙ ap (λ (r : Row). cell_at r c.args.col) c.row_in.ensures.value
    ∙ ap (λ (s : ScreenState). cell_at (row_in s.slots c.args.slot) c.args.col) c.self.view_is
