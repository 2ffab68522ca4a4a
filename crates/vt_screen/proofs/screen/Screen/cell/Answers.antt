use Rattle.std.proofs.Common.{◌≤◌, ◌∙◌, ap, subst, sym}
use Rattle.vt_screen.specs.declared.cell.Cell.{Cell}
use Rattle.vt_screen.specs.declared.cell.Row.{Row}
use Rattle.vt_screen.specs.Cells.{cell_at}
use Rattle.vt_screen.specs.Picture.{cell}
use Rattle.vt_screen.specs.Slots.{ScreenState, slot_at, row_in}
use Rattle.vt_screen.proofs.Index.{row_there}
use Rattle.vt_screen.proofs.Answers.{cell_read}
use Rattle.vt_screen.proofs.screen.Screen.cell.Goals as goal

pub returns-clause-value : goal.returns-clause-value
returns-clause-value c =
    cell_read c.row.result.now c.args.col c.index-row-col.result c.row.ensures.whole c.requires.col_low c.requires.col_high
    ∙ ap (λ (r : Row). cell_at r c.args.col) c.row.ensures.value
    ∙ ap (λ (s : ScreenState). cell s.picture c.args.row c.args.col) c.self.view_is

pub returns-clause-glyph : goal.returns-clause-glyph
returns-clause-glyph c =
    subst (λ (e : Cell). e.glyph ≤ 126)
    (sym (cell_read c.row.result.now c.args.col c.index-row-col.result c.row.ensures.whole c.requires.col_low c.requires.col_high
    ∙ ap (λ (r : Row). cell_at r c.args.col) c.row.ensures.value))
    ((c.self.invariant.row c.args.row).glyphs c.args.col)

pub returns-clause-slot : goal.returns-clause-slot
returns-clause-slot c =
    cell_read c.row.result.now c.args.col c.index-row-col.result c.row.ensures.whole c.requires.col_low c.requires.col_high
    ∙ ap (λ (r : Row). cell_at r c.args.col) (c.row.ensures.value ∙ row_there c.self.inside.grid c.args.row c.requires.row_low c.requires.row_high)
    ∙ ap (λ (s : ScreenState). cell_at (row_in s.slots (slot_at s.order c.args.row)) c.args.col) c.self.view_is
