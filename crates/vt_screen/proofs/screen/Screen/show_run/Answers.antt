use Rattle.std.proofs.Common.{◌≡◌, ◌+◌, List, length, sym, ap, subst, ◌∙◌, arith}
use Rattle.vt_screen.specs.declared.cell.Row.{Row}
use Rattle.vt_screen.specs.Picture.{Picture, Sound, right_margin}
use Rattle.vt_screen.specs.Puts.{run_shown}
use Rattle.vt_screen.specs.Slots.{ScreenState, rows_of, order_run_shown}
use Rattle.vt_screen.specs.View.{picture_of, state_of}
use Rattle.vt_screen.proofs.Runs.{run_within, order_within}
use Rattle.vt_screen.proofs.Soundness.{sound_run_shown}
use Rattle.vt_screen.proofs.Told.{row_told}
use Rattle.vt_screen.proofs.screen.Screen.show_run.Goals as goal

-- all of them stand left of the right margin
fits : (c : goal.After-self-1)
    → record (picture_of c.self.inside) { rows = rows_of c.write_run.new.self; column = c.self.inside.column + length c.args.glyphs.now }
    ≡ run_shown c.args.glyphs.now c.args.rendition c.args.autowrap (picture_of c.self.inside)
fits c =
    let p = picture_of c.self.inside in
    let margin : c.margin.result ≡ right_margin p p.line = c.margin.ensures.value ∙ ap (λ (s : ScreenState). right_margin s.picture s.picture.line) (sym c.self.view_is) in
    ap (λ (rows : List Row). let q : Picture = record p { rows = rows; column = p.column + length c.args.glyphs.now } in q) c.write_run.ensures.rows
    ∙ sym (run_within c.args.rendition c.args.autowrap c.args.glyphs.now p c.self.invariant.rows c.if-not-self.true c.self.invariant.line_low c.self.invariant.line_high (omega (arith, c.self.invariant.column_high)))

pub invariant_of-self : goal.invariant_of-self
invariant_of-self c =
    subst Sound (sym (fits c)) (sound_run_shown c.args.glyphs.now c.args.rendition c.args.autowrap (picture_of c.self.inside) c.requires c.self.invariant)

-- no wrap is taken among them
names_stay : (c : goal.After-self-1)
    → c.write_run.new.self.order
    ≡ order_run_shown c.args.glyphs.now c.args.rendition c.args.autowrap (picture_of c.self.inside) c.self.inside.grid.order
names_stay c =
    let p = picture_of c.self.inside in
    let margin : c.margin.result ≡ right_margin p p.line = c.margin.ensures.value ∙ ap (λ (s : ScreenState). right_margin s.picture s.picture.line) (sym c.self.view_is) in
    c.write_run.ensures.order
    ∙ sym (order_within c.args.rendition c.args.autowrap c.args.glyphs.now p c.self.inside.grid.order c.if-not-self.true c.self.invariant.line_low c.self.invariant.line_high (omega (arith, c.self.invariant.column_high)))

pub returns-then-glyphs-room : goal.returns-then-glyphs-room
returns-then-glyphs-room c = record {
  picture = fits c ∙ ap (λ (s : ScreenState). run_shown c.args.glyphs.now c.args.rendition c.args.autowrap s.picture) c.self.view_is;
  order = names_stay c ∙ ap (λ (s : ScreenState). order_run_shown c.args.glyphs.now c.args.rendition c.args.autowrap s.picture s.order) c.self.view_is;
  told = row_told (state_of c.self.inside) c.args.self.now _ _ c.self.view_is c.self.inside.line _ c.touch_line.ensures c.write_run.ensures.rows;
}
