use Rattle.std.proofs.Common.{◌≡◌, ℕ, List, false, min, length, sym, ap, ap₂, subst, ◌∙◌}
use Rattle.vt_screen.specs.declared.cell.Row.{Row}
use Rattle.vt_screen.specs.Lines.{resized, size_set}
use Rattle.vt_screen.specs.Picture.{Picture, Sound}
use Rattle.vt_screen.specs.Puts.{with_row}
use Rattle.vt_screen.specs.Slots.{ScreenState, rows_of}
use Rattle.vt_screen.specs.View.{picture_of, state_of}
use Rattle.vt_screen.proofs.Soundness.{sound_size_set}
use Rattle.vt_screen.proofs.Tables.{length-table}
use Rattle.vt_screen.proofs.Told.{row_told}
use Rattle.vt_screen.proofs.screen.Screen.set_size.Goals as goal

pub set_row-requires-clause-whole : goal.set_row-requires-clause-whole
set_row-requires-clause-whole c = ap (λ (r : Row). length r.cells) c.resize.ensures ∙ length-table 132 _

is_sized : (c : goal.After-self-2-1)
    → record (picture_of c.self.inside) { rows = rows_of c.set_row.new.self; column = c.min-self-inside.result; wrap = false }
    ≡ size_set c.args.size (picture_of c.self.inside)
is_sized c =
    let p = picture_of c.self.inside in
    ap₂ (λ (rows : List Row) (k : ℕ). let q : Picture = record p { rows = rows; column = k; wrap = false } in q)
    (c.set_row.ensures.rows ∙ ap (λ (r : Row). with_row p.line r p.rows) (c.resize.ensures ∙ ap (resized p.wide c.args.size) c.row.ensures.value))
    (c.min-self-inside.ensures ∙ ap (min p.column) c.margin_of.ensures.value)

pub invariant_of-self : goal.invariant_of-self
invariant_of-self c = subst Sound (sym (is_sized c)) (sound_size_set (picture_of c.self.inside) c.self.invariant c.args.size)

pub returns : goal.returns
returns c = record {
  picture = is_sized c ∙ ap (λ (s : ScreenState). size_set c.args.size s.picture) c.self.view_is;
  told = row_told (state_of c.self.inside) c.args.self.now _ _ c.self.view_is c.self.inside.line _ c.touch_line.ensures c.set_row.ensures.rows;
}
