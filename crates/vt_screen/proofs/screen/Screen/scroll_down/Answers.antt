use Rattle.std.proofs.Common.{◌≡◌, ◌+◌, ℕ, List, set, refl, ap, ap₂, subst, sym, ◌∙◌, arith}
use Rattle.std.proofs.lemmas.Bool.Decides.{nat_tests}
use Rattle.vt_screen.specs.declared.cell.Cell.{Cell}
use Rattle.vt_screen.specs.declared.cell.Row.{Row}
use Rattle.vt_screen.specs.Cells.{blank, blank_row, row_at}
use Rattle.vt_screen.specs.Lines.{filled_to}
use Rattle.vt_screen.specs.Picture.{Sound, columns, with_rows}
use Rattle.vt_screen.specs.Scrolls.{scrolled_down}
use Rattle.vt_screen.specs.Slots.{ScreenState, rows_of, slot_at, line_above}
use Rattle.vt_screen.specs.View.{picture_of, state_of}
use Rattle.vt_screen.proofs.Answers.{sound_rolled_down}
use Rattle.vt_screen.proofs.Rows.{changed_one}
use Rattle.vt_screen.proofs.Scrolled.{scrolled, slot_cleared, filled_with, down_by}
use Rattle.vt_screen.proofs.Told.{down_told}
use Rattle.vt_screen.proofs.screen.Screen.scroll_down.Goals as goal

is_scrolled : (c : goal.After-fill_line)
    → rows_of c.fill_line.new.self ≡ scrolled_down 1 c.self.inside.top c.self.inside.bottom (rows_of c.self.inside.grid)
is_scrolled c =
    let p = picture_of c.self.inside in
    let apart = c.self.invariant.apart in
    scrolled p c.self.invariant (line_above 1 p.top p.bottom) (rows_of c.turn_down.new.self) c.turn_down.ensures.rows _ p.top (p.top + 1) _
    (filled_with _ _ p.top (p.top + 1) c.blank.result blank c.columns_of.result (columns p.wide) c.blank.ensures c.columns_of.ensures
    (c.fill_line.ensures.rows ∙ changed_one (filled_to c.blank.result c.columns_of.result) p.top (rows_of c.turn_down.new.self)))
    (down_by p.rows 1 1 p.top p.bottom (omega arith) (omega arith) (p.top + 1) refl)

pub invariant_of-self : goal.invariant_of-self
invariant_of-self c =
    let p = picture_of c.self.inside in
    let edge : p.line ≡ p.top = ap (λ (s : ScreenState). s.picture.line) c.self.view_is ∙ c.requires ∙ ap (λ (s : ScreenState). s.picture.top) (sym c.self.view_is) in
    subst Sound (sym (ap (λ (rows : List Row). with_rows rows p) (is_scrolled c))) (sound_rolled_down p c.self.invariant edge)

pub returns-clause-picture : goal.returns-clause-picture
returns-clause-picture c =
    ap (λ (rows : List Row). with_rows rows (picture_of c.self.inside)) (is_scrolled c)
    ∙ ap (λ (s : ScreenState). with_rows (scrolled_down 1 s.picture.top s.picture.bottom s.picture.rows) s.picture) c.self.view_is

pub returns-clause-slots : goal.returns-clause-slots
returns-clause-slots c =
    let p = picture_of c.self.inside in
    let apart = c.self.invariant.apart in
    let was = rows_of c.turn_down.new.self in
    slot_cleared p c.self.invariant (line_above 1 p.top p.bottom) was c.turn_down.ensures.rows p.top p.bottom c.self.inside.grid.order c.turn_down.new.self.order c.self.inside.grid.slots c.turn_down.new.self.slots _ _
    c.self.invariant.top_low (omega (arith, c.self.invariant.bottom_high, c.self.invariant.apart)) (grind (arith, nat_tests)) c.turn_down.ensures.order c.turn_down.ensures.slots
    (ap₂ (λ (e : Cell) (k : ℕ). filled_to e k (row_at was p.top)) c.blank.ensures c.columns_of.ensures) c.fill_line.ensures.slots
    ∙ ap (λ (s : ScreenState). set s.slots (slot_at s.order s.picture.bottom) blank_row) c.self.view_is

pub returns-clause-told : goal.returns-clause-told
returns-clause-told c =
    down_told (state_of c.self.inside) c.args.self.now _ _ c.self.view_is 1 c.self.inside.top c.self.inside.bottom c.turn_down.ensures.touched (is_scrolled c)
