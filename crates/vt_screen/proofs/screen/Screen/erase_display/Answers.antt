use Rattle.std.proofs.Common.{◌≡◌, ℕ, ◌≤◌, Bool, true, false, sym, ap, ap₂, subst, inl, inr, ◌∙◌, arith, refl, List}
use Rattle.std.specs.Prelude.{◌&&◌}
use Rattle.std.proofs.lemmas.Bool.{cases_eq}
use Rattle.vt_screen.specs.declared.cell.Cell.{Cell}
use Rattle.vt_screen.specs.Cells.{blank, row_at, is_single}
use Rattle.vt_screen.specs.Erasures.{erased_whole, display_erased}
use Rattle.vt_screen.specs.Lines.{filled_to}
use Rattle.vt_screen.specs.Picture.{Sound, columns, with_rows}
use Rattle.vt_screen.specs.Puts.{with_row}
use Rattle.vt_screen.specs.Slots.{ScreenState, rows_of}
use Rattle.vt_screen.specs.View.{picture_of, state_of}
use Rattle.vt_screen.proofs.Erased.{erased_all, erased_in_part, whole_all}
use Rattle.vt_screen.proofs.Scrolled.{filled_with}
use Rattle.vt_screen.proofs.Soundness.{sound_display_erased}
use Rattle.vt_screen.proofs.Told.{lines_told, row_told}
use Rattle.vt_screen.specs.declared.cell.Row.{Row}
use Rattle.vt_screen.specs.declared.screen.Screen.TheInside.{Inside as Fields}
use Rattle.vt_screen.proofs.screen.Screen.erase_display.Goals as goal
use Rattle.vt_screen.proofs.screen.Screen.erase_display.Goals.{then-self, else-self}

-- the screen with other rows, and other lines touched
abbrev mid : Fields → List Row → List Bool → ScreenState
mid s rows touched = record (state_of s) { picture = with_rows rows (picture_of s); touched = touched }

-- the picture where the cursor's line is erased whole, and where it is not
with_line : (c : goal.After-self-1)
    → record (picture_of c.self.inside) { rows = rows_of c.fill_line.new.self; wrap = c.if-self.self }
    ≡ display_erased c.args.part (picture_of c.self.inside)
with_line c =
    let p = picture_of c.self.inside in
    let was = rows_of c.fill_lines.new.self in
    let whole : erased_whole c.args.part p p.line ≡ true =
    ap (λ (s : ScreenState). erased_whole c.args.part s.picture s.picture.line) c.self.view_is ∙ sym c.erases_line-whole.ensures ∙ c.if-whole.true in
    let single : c.is_single-was_single.result ≡ is_single (row_at p.rows p.line).size =
    c.is_single-was_single.ensures ∙ ap is_single (c.size.ensures ∙ ap (λ (s : ScreenState). (row_at s.picture.rows p.line).size) (sym c.self.view_is)) in
    let wrap : c.if-self.self ≡ p.wrap && is_single (row_at p.rows p.line).size =
    elim c.if-self.branch [
      | then-self w ↦ w.self-is ∙ single ∙ ap (λ (b : Bool). b && is_single (row_at p.rows p.line).size) (sym w.if-self.true)
      | else-self w ↦ w.self-is ∙ w.if-self.false ∙ ap (λ (b : Bool). b && is_single (row_at p.rows p.line).size) (sym w.if-self.false)
    ] in
    erased_all c.args.part p c.self.invariant was (rows_of c.fill_line.new.self) _ _ c.other_lines-first.ensures.told
    (filled_with _ _ _ _ _ blank _ (columns p.wide) c.blank.ensures c.columns_of-columns.ensures c.fill_lines.ensures.rows)
    c.if-self.self whole
    (c.fill_line.ensures.rows ∙ ap₂ (λ (e : Cell) (k : ℕ). with_row p.line (filled_to e k (row_at was p.line)) was) c.blank-then-whole.ensures c.columns_of-columns.ensures) wrap

in_part : (c : goal.After-erase_part)
    → record (picture_of c.self.inside) { rows = rows_of c.erase_part.new.self } ≡ display_erased c.args.part (picture_of c.self.inside)
in_part c =
    let p = picture_of c.self.inside in
    let part : erased_whole c.args.part p p.line ≡ false =
    ap (λ (s : ScreenState). erased_whole c.args.part s.picture s.picture.line) c.self.view_is ∙ sym c.erases_line-whole.ensures ∙ c.if-whole.false in
    let small : c.args.part ≤ 1 = elim (cases_eq c.args.part 2) [
      | inl all ↦ absurd (let e : true ≡ false = whole_all c.args.part p c.self.invariant all ∙ part in cc)
      | inr ne ↦ omega arith
    ] in
    erased_in_part c.args.part p c.self.invariant (rows_of c.fill_lines.new.self) (rows_of c.erase_part.new.self) _ _ c.other_lines-first.ensures.told
    (filled_with _ _ _ _ _ blank _ (columns p.wide) c.blank.ensures c.columns_of-columns.ensures c.fill_lines.ensures.rows)
    small part c.erase_part.ensures

pub invariant_of-self : goal.invariant_of-self
invariant_of-self c = subst Sound (sym (with_line c)) (sound_display_erased (picture_of c.self.inside) c.self.invariant c.args.part)

pub invariant_of-self-else-whole : goal.invariant_of-self-else-whole
invariant_of-self-else-whole c = subst Sound (sym (in_part c)) (sound_display_erased (picture_of c.self.inside) c.self.invariant c.args.part)

pub returns-after-self : goal.returns-after-self
returns-after-self c = record {
  picture = with_line c ∙ ap (λ (s : ScreenState). display_erased c.args.part s.picture) c.self.view_is;
  told = λ before told.
      row_told (mid c.self.inside (rows_of c.fill_lines.new.self) c.touch_lines.new.touched) (mid c.self.inside (rows_of c.fill_lines.new.self) c.touch_lines.new.touched) _ _ refl c.self.inside.line _ c.touch_line.ensures c.fill_line.ensures.rows before
      (lines_told (state_of c.self.inside) c.args.self.now (rows_of c.fill_lines.new.self) c.touch_lines.new.touched c.self.view_is
      (filled_to c.blank.result c.columns_of-columns.result) _ _ c.touch_lines.ensures c.fill_lines.ensures.rows before told);
}

pub returns-else-whole : goal.returns-else-whole
returns-else-whole c = record {
  picture = in_part c ∙ ap (λ (s : ScreenState). display_erased c.args.part s.picture) c.self.view_is;
  told = λ before told.
      row_told (mid c.self.inside (rows_of c.fill_lines.new.self) c.touch_lines.new.touched) (mid c.self.inside (rows_of c.fill_lines.new.self) c.touch_lines.new.touched) _ _ refl c.self.inside.line _ c.touch_line.ensures c.erase_part.ensures before
      (lines_told (state_of c.self.inside) c.args.self.now (rows_of c.fill_lines.new.self) c.touch_lines.new.touched c.self.view_is
      (filled_to c.blank.result c.columns_of-columns.result) _ _ c.touch_lines.ensures c.fill_lines.ensures.rows before told);
}
