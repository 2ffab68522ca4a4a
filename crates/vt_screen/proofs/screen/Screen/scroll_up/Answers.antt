use Rattle.std.proofs.Common.{◌≡◌, ◌+◌, ℕ, List, set, refl, ap, ap₂, subst, sym, ◌∙◌, arith}
use Rattle.std.proofs.lemmas.Bool.Decides.{nat_tests}
use Rattle.vt_screen.specs.declared.cell.Cell.{Cell}
use Rattle.vt_screen.specs.declared.cell.Row.{Row}
use Rattle.vt_screen.specs.Cells.{blank, blank_row, row_at}
use Rattle.vt_screen.specs.Lines.{filled_to}
use Rattle.vt_screen.specs.Picture.{Sound, columns, with_rows}
use Rattle.vt_screen.specs.Scrolls.{scrolled_up}
use Rattle.vt_screen.specs.Slots.{ScreenState, rows_of, slot_at, line_below}
use Rattle.vt_screen.specs.View.{picture_of, state_of}
use Rattle.vt_screen.proofs.Answers.{sound_rolled_up}
use Rattle.vt_screen.proofs.Rows.{changed_one}
use Rattle.vt_screen.proofs.Scrolled.{scrolled, slot_cleared, filled_with, up_by}
use Rattle.vt_screen.proofs.Told.{up_told}
use Rattle.vt_screen.proofs.screen.Screen.scroll_up.Goals as goal

is_scrolled : (c : goal.After-fill_line)
    → rows_of c.fill_line.new.self ≡ scrolled_up 1 c.self.inside.top c.self.inside.bottom (rows_of c.self.inside.grid)
is_scrolled c =
    let p = picture_of c.self.inside in
    let apart = c.self.invariant.apart in
    scrolled p c.self.invariant (line_below 1 p.top p.bottom) (rows_of c.turn_up.new.self) c.turn_up.ensures.rows _ p.bottom (p.bottom + 1) _
    (filled_with _ _ p.bottom (p.bottom + 1) c.blank.result blank c.columns_of.result (columns p.wide) c.blank.ensures c.columns_of.ensures
    (c.fill_line.ensures.rows ∙ changed_one (filled_to c.blank.result c.columns_of.result) p.bottom (rows_of c.turn_up.new.self)))
    (up_by p.rows 1 1 p.top p.bottom (omega arith) (omega arith) p.bottom refl)

pub invariant_of-self : goal.invariant_of-self
invariant_of-self c =
    let p = picture_of c.self.inside in
    let edge : p.line ≡ p.bottom = ap (λ (s : ScreenState). s.picture.line) c.self.view_is ∙ c.requires ∙ ap (λ (s : ScreenState). s.picture.bottom) (sym c.self.view_is) in
    subst Sound (sym (ap (λ (rows : List Row). with_rows rows p) (is_scrolled c))) (sound_rolled_up p c.self.invariant edge)

pub returns-clause-picture : goal.returns-clause-picture
returns-clause-picture c =
    ap (λ (rows : List Row). with_rows rows (picture_of c.self.inside)) (is_scrolled c)
    ∙ ap (λ (s : ScreenState). with_rows (scrolled_up 1 s.picture.top s.picture.bottom s.picture.rows) s.picture) c.self.view_is

pub returns-clause-slots : goal.returns-clause-slots
returns-clause-slots c =
    let p = picture_of c.self.inside in
    let apart = c.self.invariant.apart in
    let was = rows_of c.turn_up.new.self in
    slot_cleared p c.self.invariant (line_below 1 p.top p.bottom) was c.turn_up.ensures.rows p.bottom p.top c.self.inside.grid.order c.turn_up.new.self.order c.self.inside.grid.slots c.turn_up.new.self.slots _ _
    (omega (arith, c.self.invariant.top_low, c.self.invariant.apart)) c.self.invariant.bottom_high (grind (arith, nat_tests)) c.turn_up.ensures.order c.turn_up.ensures.slots
    (ap₂ (λ (e : Cell) (k : ℕ). filled_to e k (row_at was p.bottom)) c.blank.ensures c.columns_of.ensures) c.fill_line.ensures.slots
    ∙ ap (λ (s : ScreenState). set s.slots (slot_at s.order s.picture.top) blank_row) c.self.view_is

pub returns-clause-told : goal.returns-clause-told
returns-clause-told c =
    up_told (state_of c.self.inside) c.args.self.now _ _ c.self.view_is 1 c.self.inside.top c.self.inside.bottom c.turn_up.ensures.touched (is_scrolled c)
