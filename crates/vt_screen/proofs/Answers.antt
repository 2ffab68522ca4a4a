-- From the fields that a body leaves to the picture that a contract names.
use Rattle.std.proofs.Common.{◌≡◌, ◌≢◌, ℕ, ◌+◌, ◌-◌, ◌<◌, ◌≤◌, Bool, true, false, List, length, get_or, set, sym, ap, ap₂, ◌∙◌, arith}
use Rattle.std.specs.Prelude.{if◌then◌else◌, ◌==◌}
use Rattle.std.proofs.lemmas.Bool.Decides.{nat_tests}
use Rattle.std.proofs.lemmas.List.{get_or_default}
use Rattle.vt_screen.specs.declared.cell.Cell.{Cell}
use Rattle.vt_screen.specs.declared.cell.Row.{Row}
use Rattle.vt_screen.specs.Cells.{blank, blank_row, cell_at, row_at, rows_by}
use Rattle.vt_screen.specs.Picture.{Picture, Sound, SoundRow, with_rows, margin_of, right_margin}
use Rattle.vt_screen.specs.Puts.{with_row, with_cell, put}
use Rattle.vt_screen.specs.Scrolls.{scrolled_up, scrolled_down}
use Rattle.vt_screen.specs.Tabs.{stop_at, tab_made}
use Rattle.vt_screen.proofs.Tables.{length-table, nth-table, nth_is, set_is, table_ext}
use Rattle.vt_screen.proofs.SoundRows.{margin_high, columns_high}
use Rattle.vt_screen.proofs.Soundness.{sound_all, sound_scrolled_up, sound_scrolled_down}

-- the rows are these
pub rows_are : (p : Picture) (rows : List Row) → p.rows ≡ rows → p ≡ with_rows rows p
rows_are p rows same = ap (λ (rs : List Row). record p { rows = rs }) same

pub rows_and_column_are : (p : Picture) (rows : List Row) (column : ℕ) → p.rows ≡ rows → p.column ≡ column
    → p ≡ record p { rows = rows; column = column }
rows_and_column_are p rows column same same' = ap₂ (λ (rs : List Row) (k : ℕ). record p { rows = rs; column = k }) same same'

-- a cell that the code read, by column
pub cell_read : (row : Row) (column : ℕ) (d : Cell) → length row.cells ≡ 132 → 1 ≤ column → column ≤ 132
    → get_or row.cells (column - 1) d ≡ cell_at row column
cell_read row column d whole low high = get_or_default row.cells (column - 1) d blank (omega arith) ∙ sym (nth_is blank row.cells column)

column_below : (p : Picture) → Sound p → p.column - 1 < 132
column_below p sound =
    let size = (row_at p.rows p.line).size in
    omega (arith, sound.column_low, sound.column_high, margin_high p.wide size, columns_high p.wide)

-- a tab stop that is written
pub tab_written : (p : Picture) (stops : Bool) → Sound p → record p { tabs = set p.tabs (p.column - 1) stops } ≡ tab_made stops p
tab_written p stops sound =
    ap (λ (tabs : List Bool). record p { tabs = tabs })
    (set_is false 132 p.tabs (p.column - 1) stops sound.tabs (column_below p sound)
    ∙ table_ext 132 _ _ (λ k low high. ap (λ (j : ℕ). if k == j then stops else stop_at p.tabs k) (omega (arith, sound.column_low))))

-- the region scrolled while the cursor is at its edge: a blank line there
module _ (p : Picture) (sound : Sound p) where
  sound_edge : (f : ℕ → Row) → ((k : ℕ) → SoundRow p.wide (row_at (rows_by f) k)) → f p.line ≡ blank_row → Sound (record p { rows = rows_by f })
  sound_edge f rows entered =
      let margin = ap (λ (r : Row). margin_of p.wide r.size) (nth-table blank_row 24 f p.line sound.line_low sound.line_high ∙ entered) in
      sound_all p sound (rows_by f) p.line p.column p.wrap (length-table 24 f) rows sound.line_low sound.line_high sound.column_low
      (omega (arith, margin, margin_high p.wide (row_at p.rows p.line).size, sound.column_high))

  pub sound_rolled_up : p.line ≡ p.bottom → Sound (with_rows (scrolled_up 1 p.top p.bottom p.rows) p)
  sound_rolled_up edge = sound_edge _ (sound_scrolled_up p sound 1 p.top p.bottom) (grind (arith, nat_tests, sound.apart))

  pub sound_rolled_down : p.line ≡ p.top → Sound (with_rows (scrolled_down 1 p.top p.bottom p.rows) p)
  sound_rolled_down edge = sound_edge _ (sound_scrolled_down p sound 1 p.top p.bottom) (grind (arith, nat_tests, sound.apart))

-- the two ends of a put
chosen_picture : (x y : Picture) (b c : Bool) → b ≡ c → (if c then x else y) ≡ (if b then x else y)
chosen_picture x y b c same = ap (λ (d : Bool). if d then x else y) (sym same)

pub put_there : (p : Picture) (cell : Cell) (autowrap : Bool) → p.column ≡ right_margin p p.line
    → record p { rows = with_row p.line (with_cell p.column cell (row_at p.rows p.line)) p.rows; wrap = autowrap } ≡ put cell autowrap p
put_there p cell autowrap e =
    let rows = with_row p.line (with_cell p.column cell (row_at p.rows p.line)) p.rows in
    let test : (p.column == right_margin p p.line) ≡ true = grind (arith, nat_tests) in
    chosen_picture (record p { rows = rows; wrap = autowrap }) (record p { rows = rows; column = p.column + 1 }) (p.column == right_margin p p.line) true test

pub put_on : (p : Picture) (cell : Cell) (autowrap : Bool) → p.column ≢ right_margin p p.line
    → record p { rows = with_row p.line (with_cell p.column cell (row_at p.rows p.line)) p.rows; column = p.column + 1 } ≡ put cell autowrap p
put_on p cell autowrap e =
    let rows = with_row p.line (with_cell p.column cell (row_at p.rows p.line)) p.rows in
    let test : (p.column == right_margin p p.line) ≡ false = grind (arith, nat_tests) in
    chosen_picture (record p { rows = rows; wrap = autowrap }) (record p { rows = rows; column = p.column + 1 }) (p.column == right_margin p p.line) false test
