use Rattle.std.proofs.Common.{◌≡◌, Bool, true, false, refl, ap, subst, sym, ◌∙◌, List}
use Rattle.vt_screen.specs.declared.cell.Row.{Row}
use Rattle.vt_screen.specs.Cells.{blank}
use Rattle.vt_screen.specs.Lines.{columns_set}
use Rattle.vt_screen.specs.Picture.{Picture, Sound}
use Rattle.vt_screen.specs.Slots.{ScreenState, rows_of}
use Rattle.vt_screen.specs.View.{picture_of}
use Rattle.vt_screen.proofs.Scrolled.{all_cleared, filled_with}
use Rattle.vt_screen.proofs.Soundness.{sound_columns_set}
use Rattle.vt_screen.proofs.Told.{nothing_told, touched_all}
use Rattle.vt_screen.proofs.screen.Screen.set_columns.Goals as goal

is_wide : (c : goal.After-self-6-1) (origin : Bool)
    → record (picture_of c.self.inside) { wide = c.args.wide; rows = rows_of c.fill_lines.new.self; line = 1; column = 1; wrap = false; top = 1; bottom = 24 }
    ≡ columns_set c.args.wide origin (picture_of c.self.inside)
is_wide c origin =
    ap (λ (rows : List Row). let q : Picture = record (picture_of c.self.inside) { wide = c.args.wide; rows = rows; line = 1; column = 1; wrap = false; top = 1; bottom = 24 } in q)
    (filled_with _ _ 1 25 c.blank.result blank 132 132 c.blank.ensures refl c.fill_lines.ensures.rows ∙ all_cleared (rows_of c.self.inside.grid))
    ∙ home origin
  where
    home : (o : Bool) → columns_set c.args.wide false (picture_of c.self.inside) ≡ columns_set c.args.wide o (picture_of c.self.inside)
    home true = refl
    home false = refl

pub invariant_of-self : goal.invariant_of-self
invariant_of-self c = subst Sound (sym (is_wide c false)) (sound_columns_set (picture_of c.self.inside) c.self.invariant c.args.wide false)

pub returns : goal.returns
returns c = record {
  picture = is_wide c c.args.origin ∙ ap (λ (s : ScreenState). columns_set c.args.wide c.args.origin s.picture) c.self.view_is;
  told = λ before told. nothing_told _ before _ (c.touch_lines.ensures ∙ sym (touched_all c.self.inside.touched));
}
