use Rattle.std.proofs.Common.{◌≡◌, ℕ, ◌+◌, ◌≤◌, List, take, false, sym, ap, ap₂, subst, ◌∙◌, arith}
use Rattle.std.proofs.lemmas.List.{length-take-le}
use Rattle.std.proofs.lemmas.List.Elements.{All-take}
use Rattle.vt_screen.specs.declared.cell.Row.{Row}
use Rattle.vt_screen.specs.Picture.{Sound, right_margin}
use Rattle.vt_screen.specs.Slots.{ScreenState, rows_of, order_run_shown}
use Rattle.vt_screen.specs.Puts.{run_shown}
use Rattle.vt_screen.specs.View.{picture_of, state_of}
use Rattle.vt_screen.proofs.Runs.{run_within, run_to_margin, names_stay}
use Rattle.vt_screen.proofs.Soundness.{sound_run_shown}
use Rattle.vt_screen.proofs.Told.{row_told}
use Rattle.vt_screen.proofs.screen.Screen.show_part.Goals as goal

-- the picture where the glyphs end at the right margin, and where they end left of it
to_margin : (c : goal.After-self-then-taken-room-1)
    → record (picture_of c.self.inside) { rows = rows_of c.write_run.new.self; column = c.margin-margin.result; wrap = c.args.autowrap }
    ≡ run_shown (take c.min-taken.result c.args.glyphs.now) c.args.rendition c.args.autowrap (picture_of c.self.inside)
to_margin c =
    let p = picture_of c.self.inside in
    let glyphs = take c.min-taken.result c.args.glyphs.now in
    let margin : c.margin-margin.result ≡ right_margin p p.line = c.margin-margin.ensures.value ∙ ap (λ (s : ScreenState). right_margin s.picture s.picture.line) (sym c.self.view_is) in
    let unwrapped : p.wrap ≡ false = ap (λ (s : ScreenState). s.picture.wrap) c.self.view_is ∙ c.requires.wrap in
    let len = length-take-le c.min-taken.result c.args.glyphs.now (omega arith) in
    ap₂ (λ (rows : List Row) (k : ℕ). record p { rows = rows; column = k; wrap = c.args.autowrap }) c.write_run.ensures.rows margin
    ∙ sym (run_to_margin c.args.rendition c.args.autowrap glyphs p unwrapped c.self.invariant.line_low c.self.invariant.line_high (omega arith) (omega (arith, c.self.invariant.column_high)))

within : (c : goal.After-self-else-taken-room-1)
    → record (picture_of c.self.inside) { rows = rows_of c.write_run.new.self; column = c.self.inside.column + c.min-taken.result }
    ≡ run_shown (take c.min-taken.result c.args.glyphs.now) c.args.rendition c.args.autowrap (picture_of c.self.inside)
within c =
    let p = picture_of c.self.inside in
    let glyphs = take c.min-taken.result c.args.glyphs.now in
    let margin : c.margin-margin.result ≡ right_margin p p.line = c.margin-margin.ensures.value ∙ ap (λ (s : ScreenState). right_margin s.picture s.picture.line) (sym c.self.view_is) in
    let unwrapped : p.wrap ≡ false = ap (λ (s : ScreenState). s.picture.wrap) c.self.view_is ∙ c.requires.wrap in
    let len = length-take-le c.min-taken.result c.args.glyphs.now (omega arith) in
    ap₂ (λ (rows : List Row) (k : ℕ). record p { rows = rows; column = k }) c.write_run.ensures.rows (ap (λ (n : ℕ). c.self.inside.column + n) (sym len))
    ∙ sym (run_within c.args.rendition c.args.autowrap glyphs p c.self.invariant.rows unwrapped c.self.invariant.line_low c.self.invariant.line_high (omega (arith, c.self.invariant.column_high)))

pub invariant_of-self : goal.invariant_of-self
invariant_of-self c =
    subst Sound (sym (to_margin c)) (sound_run_shown (take c.min-taken.result c.args.glyphs.now) c.args.rendition c.args.autowrap (picture_of c.self.inside) (All-take (λ glyph. glyph ≤ 126) c.min-taken.result c.args.glyphs.now c.requires.glyphs) c.self.invariant)

pub invariant_of-self-else-taken-room : goal.invariant_of-self-else-taken-room
invariant_of-self-else-taken-room c =
    subst Sound (sym (within c)) (sound_run_shown (take c.min-taken.result c.args.glyphs.now) c.args.rendition c.args.autowrap (picture_of c.self.inside) (All-take (λ glyph. glyph ≤ 126) c.min-taken.result c.args.glyphs.now c.requires.glyphs) c.self.invariant)

pub returns-then-taken-room-clause-picture : goal.returns-then-taken-room-clause-picture
returns-then-taken-room-clause-picture c =
    to_margin c ∙ ap (λ (s : ScreenState). run_shown (take c.min-taken.result c.args.glyphs.now) c.args.rendition c.args.autowrap s.picture) c.self.view_is

pub returns-else-taken-room-clause-picture : goal.returns-else-taken-room-clause-picture
returns-else-taken-room-clause-picture c =
    within c ∙ ap (λ (s : ScreenState). run_shown (take c.min-taken.result c.args.glyphs.now) c.args.rendition c.args.autowrap s.picture) c.self.view_is

-- no wrap is taken among them
pub returns-then-taken-room-clause-order : goal.returns-then-taken-room-clause-order
returns-then-taken-room-clause-order c =
    names_stay c.args.rendition c.args.autowrap c.min-taken.result c.args.glyphs.now (picture_of c.self.inside) c.args.self.now
    c.margin-margin.result c.self.inside.grid.order c.write_run.new.self.order (ap (λ (s : ScreenState). s.picture) c.self.view_is)
    c.self.invariant c.requires.wrap c.margin-margin.ensures.value (omega arith) (omega arith) c.write_run.ensures.order
    ∙ ap (λ (s : ScreenState). order_run_shown (take c.min-taken.result c.args.glyphs.now) c.args.rendition c.args.autowrap s.picture s.order) c.self.view_is

pub returns-else-taken-room-clause-order : goal.returns-else-taken-room-clause-order
returns-else-taken-room-clause-order c =
    names_stay c.args.rendition c.args.autowrap c.min-taken.result c.args.glyphs.now (picture_of c.self.inside) c.args.self.now
    c.margin-margin.result c.self.inside.grid.order c.write_run.new.self.order (ap (λ (s : ScreenState). s.picture) c.self.view_is)
    c.self.invariant c.requires.wrap c.margin-margin.ensures.value (omega arith) (omega arith) c.write_run.ensures.order
    ∙ ap (λ (s : ScreenState). order_run_shown (take c.min-taken.result c.args.glyphs.now) c.args.rendition c.args.autowrap s.picture s.order) c.self.view_is

pub returns-then-taken-room-clause-told : goal.returns-then-taken-room-clause-told
returns-then-taken-room-clause-told c = row_told (state_of c.self.inside) c.args.self.now _ _ c.self.view_is c.self.inside.line _ c.touch_line.ensures c.write_run.ensures.rows

pub returns-else-taken-room-clause-told : goal.returns-else-taken-room-clause-told
returns-else-taken-room-clause-told c = row_told (state_of c.self.inside) c.args.self.now _ _ c.self.view_is c.self.inside.line _ c.touch_line.ensures c.write_run.ensures.rows
