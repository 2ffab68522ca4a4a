use Rattle.std.proofs.Common.{◌≡◌, false, ap, subst, sym, ◌∙◌, List}
use Rattle.vt_screen.specs.declared.cell.Row.{Row}
use Rattle.vt_screen.specs.Attributes.{Attributes}
use Rattle.vt_screen.specs.declared.cell.Cell.{Cell}
use Rattle.vt_screen.specs.Lines.{aligned, filled_to, pattern}
use Rattle.vt_screen.specs.Picture.{Picture, Sound, columns}
use Rattle.vt_screen.specs.Slots.{ScreenState, rows_of}
use Rattle.vt_screen.specs.View.{picture_of}
use Rattle.vt_screen.proofs.Scrolled.{all_filled, filled_with}
use Rattle.vt_screen.proofs.Soundness.{sound_aligned}
use Rattle.vt_screen.proofs.Told.{nothing_told, touched_all}
use Rattle.vt_screen.proofs.screen.Screen.align.Goals as goal

is_aligned : (c : goal.After-self-1)
    → record (picture_of c.self.inside) { rows = rows_of c.fill_lines.new.self; wrap = false } ≡ aligned (picture_of c.self.inside)
is_aligned c =
    let p = picture_of c.self.inside in
    ap (λ (rows : List Row). let q : Picture = record p { rows = rows; wrap = false } in q)
    (filled_with _ _ 1 25 _ pattern _ (columns p.wide) (ap (λ (a : Attributes). let e : Cell = record { glyph = 69; rendition = a } in e) c.plain.ensures) c.columns_of.ensures c.fill_lines.ensures.rows
    ∙ all_filled (filled_to pattern (columns p.wide)) (rows_of c.self.inside.grid))

pub invariant_of-self : goal.invariant_of-self
invariant_of-self c = subst Sound (sym (is_aligned c)) (sound_aligned (picture_of c.self.inside) c.self.invariant)

pub returns : goal.returns
returns c = record {
  picture = is_aligned c ∙ ap (λ (s : ScreenState). aligned s.picture) c.self.view_is;
  told = λ before told. nothing_told _ before _ (c.touch_lines.ensures ∙ sym (touched_all c.self.inside.touched));
}
