-- The fields of a screen that an operation leaves.
use Rattle.std.proofs.Common.{◌≡◌, ℕ, ◌-◌, ◌≤◌, Bool, false, true, List, length, set, sym, ap, ap₂, subst, ◌∙◌, arith}
use Rattle.std.specs.Prelude.{if◌then◌else◌, ◌==◌}
use Rattle.std.proofs.lemmas.List.{length-set}
use Rattle.sheet.specs.Cells.{Cell}
use Rattle.sheet.specs.declared.rendition.Colour.{Colour}
use Rattle.sheet.specs.declared.rendition.Colour.TheVariants.{Default}
use Rattle.sheet.specs.Grid.{Grid, aligned as rows_aligned, blank_rows, row_at, with_row}
use Rattle.xterm_screen.specs.declared.screen.Screen.TheInside.{Inside as Fields}
use Rattle.sheet.specs.Table.{table, nth}
use Rattle.xterm_screen.specs.Picture.{Picture, Sound, first_tabs, reset}
use Rattle.xterm_screen.specs.Tabs.{tab_made}
use Rattle.xterm_screen.specs.View.{IsScreen, picture_of}
use Rattle.xterm_screen.proofs.Tables.{is_table, length-table, nth-set, nth_same}
use Rattle.xterm_screen.proofs.Soundness.{sound_all, sound_margins, sound_reset, sound_sheets}

-- the sheet that is shown has other rows, and the cursor is elsewhere
pub rows_left : (s : Fields) → IsScreen s → (shown : Grid) (line column : ℕ) (wrap : Bool) → length shown.rows ≡ length s.shown.rows
    → shown.columns ≡ s.shown.columns → shown.lines ≡ s.shown.lines → 1 ≤ line → line ≤ s.lines → 1 ≤ column → column ≤ s.columns
    → IsScreen (record s { shown = shown; line = line; column = column; wrap = wrap })
rows_left s is shown line column wrap count columns lines line_low line_high column_low column_high = record {
  sound = sound_all (picture_of s) is.sound shown.rows line column wrap (count ∙ is.sound.rows) line_low line_high column_low column_high;
  shown_columns = columns ∙ is.shown_columns;
  shown_lines = lines ∙ is.shown_lines;
  other_columns = is.other_columns;
  other_lines = is.other_lines;
}

-- one row of it is another
pub row_left : (s : Fields) → IsScreen s → (shown : Grid) (row : List Cell) (wrap : Bool) → shown.rows ≡ with_row s.line row s.shown.rows
    → shown.columns ≡ s.shown.columns → shown.lines ≡ s.shown.lines → IsScreen (record s { shown = shown; wrap = wrap })
row_left s is shown row wrap rows columns lines =
    rows_left s is shown s.line s.column wrap (ap length rows ∙ length-table (length s.shown.rows) _) columns lines
    is.sound.line_low is.sound.line_high is.sound.column_low is.sound.column_high

-- its rows from one line to another are others
pub lines_left : (s : Fields) → IsScreen s → (shown : Grid) (f : ℕ → List Cell) (column : ℕ) (wrap : Bool) → shown.rows ≡ table (length s.shown.rows) f
    → shown.columns ≡ s.shown.columns → shown.lines ≡ s.shown.lines → 1 ≤ column → column ≤ s.columns
    → IsScreen (record s { shown = shown; column = column; wrap = wrap })
lines_left s is shown f column wrap rows columns lines low high =
    rows_left s is shown s.line column wrap (ap length rows ∙ length-table (length s.shown.rows) f) columns lines
    is.sound.line_low is.sound.line_high low high

-- a tab stop that is written, or taken away
pub tab_written : (p : Picture) (stops : Bool) → Sound p → record p { tabs = set p.tabs (p.column - 1) stops } ≡ tab_made stops p
tab_written p stops sound =
    ap (λ (tabs : List Bool). record p { tabs = tabs })
    (is_table false p.columns (set p.tabs (p.column - 1) stops) _ (length-set p.tabs (p.column - 1) stops ∙ sound.tabs) (λ k low high.
    nth-set false p.tabs (p.column - 1) stops k (omega (arith, sound.column_low, sound.column_high, sound.tabs)) low
    ∙ ap (λ (j : ℕ). if k == j then stops else nth false p.tabs k) (omega (arith, sound.column_low))))

-- both sheets blank, and the rest as at first
reset_is : (columns lines : ℕ) (rows other : List (List Cell)) (tabs : List Bool) → rows ≡ blank_rows columns lines Default
    → other ≡ blank_rows columns lines Default → tabs ≡ first_tabs columns
    → record (reset columns lines) { rows = rows; other = other; tabs = tabs } ≡ reset columns lines
reset_is columns lines rows other tabs blank_shown blank_other first =
    ap₂ (λ (r o : List (List Cell)). record (reset columns lines) { rows = r; other = o; tabs = tabs }) blank_shown blank_other
    ∙ ap (λ (t : List Bool). record (reset columns lines) { tabs = t }) first

pub sound_reset_is : (columns lines : ℕ) (rows other : List (List Cell)) (tabs : List Bool) → 2 ≤ columns → columns ≤ 1000 → 1 ≤ lines → lines ≤ 500
    → rows ≡ blank_rows columns lines Default → other ≡ blank_rows columns lines Default → tabs ≡ first_tabs columns
    → Sound (record (reset columns lines) { rows = rows; other = other; tabs = tabs })
sound_reset_is columns lines rows other tabs columns_low columns_high lines_low lines_high blank_shown blank_other first =
    subst Sound (sym (reset_is columns lines rows other tabs blank_shown blank_other first)) (sound_reset columns lines columns_low columns_high lines_low lines_high)

-- the sheets change places
pub sheets_left : (s : Fields) → IsScreen s → (shown other : Grid) (alternate : Bool) → length shown.rows ≡ s.lines → length other.rows ≡ s.lines
    → shown.columns ≡ s.columns → shown.lines ≡ s.lines → other.columns ≡ s.columns → other.lines ≡ s.lines
    → IsScreen (record s { shown = shown; other = other; alternate = alternate })
sheets_left s is shown other alternate count other_count shown_columns shown_lines other_columns other_lines = record {
  sound = sound_sheets (picture_of s) is.sound shown.rows other.rows alternate count other_count;
  shown_columns = shown_columns;
  shown_lines = shown_lines;
  other_columns = other_columns;
  other_lines = other_lines;
}

-- the alignment pattern
pub aligned_left : (s : Fields) → IsScreen s → (shown : Grid) → shown.rows ≡ rows_aligned s.columns s.lines → shown.columns ≡ s.columns → shown.lines ≡ s.lines
    → IsScreen (record s { shown = shown; line = 1; column = 1; top = 1; bottom = s.lines; wrap = false })
aligned_left s is shown rows columns lines = record {
  sound = sound_margins (picture_of s) is.sound shown.rows 1 1 1 s.lines false (ap length rows ∙ length-table s.lines _) (omega arith) is.sound.lines_low (omega arith)
      (omega (arith, is.sound.columns_low)) (omega arith) is.sound.lines_low (omega arith);
  shown_columns = columns;
  shown_lines = lines;
  other_columns = is.other_columns;
  other_lines = is.other_lines;
}

-- the alternate sheet is shown, blank
pub alternate_left : (s : Fields) → IsScreen s → (x y shown : Grid) (paper : Colour) → x ≡ s.other → y ≡ s.shown
    → shown.rows ≡ blank_rows x.columns x.lines paper → shown.columns ≡ x.columns → shown.lines ≡ x.lines
    → IsScreen (record s { shown = shown; other = y; alternate = true })
alternate_left s is x y shown paper is_x is_y rows columns lines =
    let x_columns = ap (λ (g : Grid). g.columns) is_x ∙ is.other_columns in
    let x_lines = ap (λ (g : Grid). g.lines) is_x ∙ is.other_lines in
    sheets_left s is shown y true (ap length rows ∙ length-table x.lines _ ∙ x_lines) (ap (λ (g : Grid). length g.rows) is_y ∙ is.sound.rows)
    (columns ∙ x_columns) (lines ∙ x_lines) (ap (λ (g : Grid). g.columns) is_y ∙ is.shown_columns) (ap (λ (g : Grid). g.lines) is_y ∙ is.shown_lines)

-- the main one is shown, as it was left
pub main_left : (s : Fields) → IsScreen s → (x y shown : Grid) → x ≡ s.other → y ≡ s.shown
    → shown.rows ≡ x.rows → shown.columns ≡ x.columns → shown.lines ≡ x.lines
    → IsScreen (record s { shown = shown; other = y; alternate = false })
main_left s is x y shown is_x is_y rows columns lines =
    sheets_left s is shown y false (ap length rows ∙ ap (λ (g : Grid). length g.rows) is_x ∙ is.sound.other) (ap (λ (g : Grid). length g.rows) is_y ∙ is.sound.rows)
    (columns ∙ ap (λ (g : Grid). g.columns) is_x ∙ is.other_columns) (lines ∙ ap (λ (g : Grid). g.lines) is_x ∙ is.other_lines)
    (ap (λ (g : Grid). g.columns) is_y ∙ is.shown_columns) (ap (λ (g : Grid). g.lines) is_y ∙ is.shown_lines)
