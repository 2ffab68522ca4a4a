use Rattle.std.proofs.Common.{◌≡◌, ℕ, List, length, ap, ap₂, subst, sym, ◌∙◌}
use Rattle.vt_screen.specs.declared.cell.Row.{Row}
use Rattle.vt_screen.specs.CellEdits.{moved_right, room_made}
use Rattle.vt_screen.specs.Picture.{Sound, with_rows, right_margin}
use Rattle.vt_screen.specs.Puts.{with_row}
use Rattle.vt_screen.specs.Slots.{ScreenState, rows_of}
use Rattle.vt_screen.specs.View.{picture_of, state_of}
use Rattle.vt_screen.proofs.Soundness.{sound_room_made}
use Rattle.vt_screen.proofs.Tables.{length-table}
use Rattle.vt_screen.proofs.Told.{row_told}
use Rattle.vt_screen.proofs.screen.Screen.make_room.Goals as goal

pub set_row-requires-clause-whole : goal.set_row-requires-clause-whole
set_row-requires-clause-whole c = ap (λ (r : Row). length r.cells) c.move_right.ensures ∙ length-table 132 _

has_room : (c : goal.After-set_row) → with_rows (rows_of c.set_row.new.self) (picture_of c.self.inside) ≡ room_made (picture_of c.self.inside)
has_room c =
    let p = picture_of c.self.inside in
    let margin = c.margin-margin.ensures.value ∙ ap (λ (s : ScreenState). right_margin s.picture s.picture.line) (sym c.self.view_is) in
    ap (λ (rows : List Row). with_rows rows p) (c.set_row.ensures.rows
    ∙ ap (λ (r : Row). with_row p.line r p.rows) (c.move_right.ensures ∙ ap₂ (λ (m : ℕ) (r : Row). moved_right p.column m r) margin c.row.ensures.value))

pub invariant_of-self : goal.invariant_of-self
invariant_of-self c = subst Sound (sym (has_room c)) (sound_room_made (picture_of c.self.inside) c.self.invariant)

pub returns-clause-picture : goal.returns-clause-picture
returns-clause-picture c = has_room c ∙ ap (λ (s : ScreenState). room_made s.picture) c.self.view_is

pub returns-clause-told : goal.returns-clause-told
returns-clause-told c = row_told (state_of c.self.inside) c.args.self.now _ _ c.self.view_is c.self.inside.line _ c.touch_line.ensures c.set_row.ensures.rows
