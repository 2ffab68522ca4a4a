use Rattle.std.proofs.Common.{◌≡◌, ℕ, ◌+◌, ◌-◌, List, min, length, ap, ap₂, subst, sym, ◌∙◌}
use Rattle.vt_screen.specs.declared.cell.Row.{Row}
use Rattle.vt_screen.specs.Cells.{row_at}
use Rattle.vt_screen.specs.CellEdits.{taken_out, cells_deleted}
use Rattle.vt_screen.specs.Picture.{Sound, with_rows, right_margin}
use Rattle.vt_screen.specs.Puts.{with_row}
use Rattle.vt_screen.specs.Slots.{ScreenState, rows_of}
use Rattle.vt_screen.specs.View.{picture_of, state_of}
use Rattle.vt_screen.proofs.Rows.{taken_few}
use Rattle.vt_screen.proofs.Soundness.{sound_cells_deleted}
use Rattle.vt_screen.proofs.Tables.{length-table}
use Rattle.vt_screen.proofs.Told.{row_told}
use Rattle.vt_screen.proofs.screen.Screen.delete_cells.Goals as goal

pub set_row-requires-clause-whole : goal.set_row-requires-clause-whole
set_row-requires-clause-whole c = ap (λ (r : Row). length r.cells) c.take_out.ensures ∙ length-table 132 _

are_deleted : (c : goal.After-set_row)
    → with_rows (rows_of c.set_row.new.self) (picture_of c.self.inside) ≡ cells_deleted c.args.n (picture_of c.self.inside)
are_deleted c =
    let p = picture_of c.self.inside in
    let count = c.min-count.result in
    let margin : c.margin-margin.result ≡ right_margin p p.line = c.margin-margin.ensures.value ∙ ap (λ (s : ScreenState). right_margin s.picture s.picture.line) (sym c.self.view_is) in
    let few : count ≡ min c.args.n (right_margin p p.line + 1 - p.column) = c.min-count.ensures ∙ ap (min c.args.n) (c.from.ensures ∙ ap (λ (m : ℕ). m + 1 - p.column) margin) in
    ap (λ (rows : List Row). with_rows rows p) (c.set_row.ensures.rows
    ∙ ap (λ (r : Row). with_row p.line r p.rows) (c.take_out.ensures ∙ ap₂ (λ (m : ℕ) (r : Row). taken_out count p.column m r) margin c.row.ensures.value
    ∙ taken_few (row_at p.rows p.line) c.args.n count p.column (right_margin p p.line) c.self.invariant.column_high few))

pub invariant_of-self : goal.invariant_of-self
invariant_of-self c = subst Sound (sym (are_deleted c)) (sound_cells_deleted (picture_of c.self.inside) c.self.invariant c.args.n)

pub returns : goal.returns
returns c = record {
  picture = are_deleted c ∙ ap (λ (s : ScreenState). cells_deleted c.args.n s.picture) c.self.view_is;
  told = row_told (state_of c.self.inside) c.args.self.now _ _ c.self.view_is c.self.inside.line _ c.touch_line.ensures c.set_row.ensures.rows;
}
