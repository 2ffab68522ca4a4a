use Rattle.std.proofs.Common.{List, ◌∙◌, ap, subst, sym, arith}
use Rattle.vt_screen.specs.declared.cell.Row.{Row}
use Rattle.vt_screen.specs.Picture.{Sound}
use Rattle.vt_screen.specs.Slots.{ScreenState}
use Rattle.vt_screen.specs.View.{picture_of}
use Rattle.vt_screen.proofs.Packed.{packed_all}
use Rattle.vt_screen.proofs.screen.Screen.pack.Goals as goal

pub invariant_of-result : goal.invariant_of-result
invariant_of-result c =
    let packed = c.in_ok-parts.ensures in
    let rows = packed_all c.self.inside.grid c.pack_rows.new.cells.items c.in_ok-parts.parts packed in
    record {
      sound = subst Sound (sym (ap (λ (r : List Row). record (picture_of c.self.inside) { rows = r }) rows)) c.self.invariant;
      parts = packed.all;
      part = λ line low high. packed.part line low (omega arith);
    }

pub returns : goal.returns
returns c =
    let packed = c.in_ok-parts.ensures in
    let rows = packed_all c.self.inside.grid c.pack_rows.new.cells.items c.in_ok-parts.parts packed in
    ap (λ (r : List Row). record (picture_of c.self.inside) { rows = r }) rows ∙ ap (λ (s : ScreenState). s.picture) c.self.view_is
