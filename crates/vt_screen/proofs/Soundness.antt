-- Each operation keeps a picture sound.
use Rattle.std.proofs.Common.{◌≡◌, ℕ, ◌+◌, ◌-◌, ◌<◌, ◌≤◌, Bool, true, false, List, [], ◌∷◌, length, min, max, refl, ap, ◌∙◌, arith}
use Rattle.std.specs.Prelude.{if◌then◌else◌, ◌==◌, ◌&&◌, nat_le, All}
use Rattle.std.specs.List.{AllByRecursion}
use Rattle.std.proofs.lemmas.Bool.Decides.{nat_tests}
use Rattle.std.proofs.lemmas.List.Elements.{recursion_from_All}
use Rattle.vt_screen.specs.declared.cell.Cell.{Cell}
use Rattle.vt_screen.specs.declared.cell.Size.{Size}
use Rattle.vt_screen.specs.declared.cell.Size.TheVariants.{Single}
use Rattle.vt_screen.specs.declared.cell.Row.{Row}
use Rattle.vt_screen.specs.Attributes.{Attributes}
use Rattle.vt_screen.specs.CellEdits.{taken_out, cells_deleted, moved_right, room_made, shown_inserting}
use Rattle.vt_screen.specs.Cells.{blank, blank_row, cell_at, row_at, row_by, rows_by}
use Rattle.vt_screen.specs.Picture.{Picture, Sound, SoundRow, columns, margin_of, right_margin, reset}
use Rattle.vt_screen.specs.Moves.{on_line, stepped_up, stepped_down, stepped_right, stepped_left, moved_to_left, moved_to, placed, moved_home, wrap_cleared, put_back}
use Rattle.vt_screen.specs.Scrolls.{scrolled_up, scrolled_down, indexed, reverse_indexed, is_in_region, lines_deleted, lines_inserted}
use Rattle.vt_screen.specs.Puts.{with_row, with_cell, wrap_taken, put, shown, run_shown}
use Rattle.vt_screen.specs.Erasures.{in_part, part_erased, erased_whole, display_erased, line_erased}
use Rattle.vt_screen.specs.Lines.{resized, size_set, columns_set, pattern, filled_to, aligned, are_margins, margins_set}
use Rattle.vt_screen.specs.Tabs.{stop_after, tabbed, tab_made, tabs_cleared}
use Rattle.vt_screen.proofs.Tables.{length-table, nth-table}
use Rattle.vt_screen.proofs.Stops.{stop_low, stop_high}
use Rattle.vt_screen.proofs.SoundRows.{margin_low, margin_high, sound_by, sound_blank, sound_with_cell, sound_erased, sound_filled, sound_taken_out, sound_moved_right, sound_resized, sound_rows_by, sound_with_row, either_row}

pub either_picture : (P : Picture → Type 0) (b : Bool) (x y : Picture) → P x → P y → P (if b then x else y)
either_picture P true x y px py = px
either_picture P false x y px py = py

-- the row that was put at a line
pub row_put : (at : ℕ) (row : Row) (rows : List Row) → 1 ≤ at → at ≤ 24 → row_at (with_row at row rows) at ≡ row
row_put at row rows low high = nth-table blank_row 24 (λ line. if line == at then row else row_at rows line) at low high ∙ itself at row (row_at rows at)
  where
    itself : (k : ℕ) (x y : Row) → (if k == k then x else y) ≡ x
    itself k x y = grind (arith, nat_tests)

-- the same, where each side may use the test
pub by_test : (P : Picture → Type 0) (b : Bool) (x y : Picture) → (b ≡ true → P x) → (b ≡ false → P y) → P (if b then x else y)
by_test P true x y px py = px refl
by_test P false x y px py = py refl

module _ (p : Picture) (sound : Sound p) where
  -- other rows, and the cursor elsewhere
  pub sound_all : (rows : List Row) (line column : ℕ) (wrap : Bool) → length rows ≡ 24
      → ((k : ℕ) → SoundRow p.wide (row_at rows k)) → 1 ≤ line → line ≤ 24 → 1 ≤ column
      → column ≤ margin_of p.wide (row_at rows line).size
      → Sound (record p { rows = rows; line = line; column = column; wrap = wrap })
  sound_all rows line column wrap len row line_low line_high column_low column_high = record {
    rows = len;
    row = row;
    line_low = line_low;
    line_high = line_high;
    column_low = column_low;
    column_high = column_high;
    top_low = sound.top_low;
    apart = sound.apart;
    bottom_high = sound.bottom_high;
    tabs = sound.tabs;
  }

  pub sound_cursor : (line column : ℕ) (wrap : Bool) → 1 ≤ line → line ≤ 24 → 1 ≤ column
      → column ≤ right_margin p line → Sound (record p { line = line; column = column; wrap = wrap })
  sound_cursor line column wrap = sound_all p.rows line column wrap sound.rows sound.row

  -- other rows, to a line of which the column is cut
  pub sound_rows_on_line : (rows : List Row) (line : ℕ) → length rows ≡ 24
      → ((k : ℕ) → SoundRow p.wide (row_at rows k)) → 1 ≤ line → line ≤ 24
      → Sound (on_line line (record p { rows = rows }))
  sound_rows_on_line rows line len row low high =
      let margin = margin_low p.wide (row_at rows line).size in
      sound_all rows line (min p.column (margin_of p.wide (row_at rows line).size)) false len row low high (omega (arith, sound.column_low)) (omega arith)

  pub sound_on_line : (line : ℕ) → 1 ≤ line → line ≤ 24 → Sound (on_line line p)
  sound_on_line line low high =
      let margin = margin_low p.wide (row_at p.rows line).size in
      sound_cursor line (min p.column (right_margin p line)) false low high (omega (arith, sound.column_low)) (omega arith)

  pub sound_stepped_up : (n : ℕ) → Sound (stepped_up n p)
  sound_stepped_up n = sound_on_line _ (grind (arith, nat_tests, sound.top_low)) (grind (arith, nat_tests, sound.line_high, sound.line_low))

  pub sound_stepped_down : (n : ℕ) → Sound (stepped_down n p)
  sound_stepped_down n = sound_on_line _ (grind (arith, nat_tests, sound.top_low, sound.apart, sound.line_low)) (grind (arith, nat_tests, sound.bottom_high))

  pub sound_stepped_right : (n : ℕ) → Sound (stepped_right n p)
  sound_stepped_right n =
      let margin = margin_low p.wide (row_at p.rows p.line).size in
      sound_cursor p.line (min (p.column + n) (right_margin p p.line)) false sound.line_low sound.line_high (omega (arith, sound.column_low)) (omega arith)

  pub sound_stepped_left : (n : ℕ) → Sound (stepped_left n p)
  sound_stepped_left n = sound_cursor p.line (max 1 (p.column - n)) false sound.line_low sound.line_high (omega arith) (omega (arith, sound.column_high, sound.column_low))

  pub sound_moved_to_left : Sound (moved_to_left p)
  sound_moved_to_left = sound_cursor p.line 1 false sound.line_low sound.line_high (omega arith) (omega (arith, margin_low p.wide (row_at p.rows p.line).size))

  pub sound_moved_to : (line column : ℕ) → 1 ≤ line → line ≤ 24 → 1 ≤ column → Sound (moved_to line column p)
  sound_moved_to line column low high column_low =
      let margin = margin_low p.wide (row_at p.rows line).size in
      sound_cursor line (min column (right_margin p line)) false low high (omega arith) (omega arith)

  pub sound_placed : (line column : ℕ) (origin : Bool) → 1 ≤ line → 1 ≤ column → Sound (placed line column origin p)
  sound_placed line column true low column_low = sound_moved_to _ column (omega (arith, sound.top_low, sound.apart)) (omega (arith, sound.bottom_high)) column_low
  sound_placed line column false low column_low = sound_moved_to _ column (omega arith) (omega arith) column_low

  pub sound_moved_home : (origin : Bool) → Sound (moved_home origin p)
  sound_moved_home true = sound_cursor p.top 1 false sound.top_low (omega (arith, sound.apart, sound.bottom_high)) (omega arith) (omega (arith, margin_low p.wide (row_at p.rows p.top).size))
  sound_moved_home false = sound_cursor 1 1 false (omega arith) (omega arith) (omega arith) (omega (arith, margin_low p.wide (row_at p.rows 1).size))

  pub sound_wrap : (wrap : Bool) → Sound (record p { wrap = wrap })
  sound_wrap wrap = sound_cursor p.line p.column wrap sound.line_low sound.line_high sound.column_low sound.column_high

  pub sound_wrap_cleared : Sound (wrap_cleared p)
  sound_wrap_cleared = sound_wrap false

  pub sound_put_back : (line column : ℕ) (wrap origin autowrap : Bool) → 1 ≤ line → line ≤ 24 → 1 ≤ column
      → Sound (put_back line column wrap origin autowrap p)
  sound_put_back line column wrap true autowrap low high column_low =
      let to = max p.top (min line p.bottom) in
      let margin = margin_low p.wide (row_at p.rows to).size in
      sound_cursor to (min column (right_margin p to)) _ (omega (arith, sound.top_low)) (omega (arith, sound.top_low, sound.apart, sound.bottom_high)) (omega arith) (omega arith)
  sound_put_back line column wrap false autowrap low high column_low =
      let margin = margin_low p.wide (row_at p.rows line).size in
      sound_cursor line (min column (right_margin p line)) _ low high (omega arith) (omega arith)

  pub sound_scrolled_up : (n top bottom line : ℕ) → SoundRow p.wide (row_at (scrolled_up n top bottom p.rows) line)
  sound_scrolled_up n top bottom = sound_rows_by p.wide _ (λ line low high.
      either_row (SoundRow p.wide) (nat_le top line && nat_le line bottom) (if nat_le (line + n) bottom then row_at p.rows (line + n) else blank_row) (row_at p.rows line)
      (either_row (SoundRow p.wide) (nat_le (line + n) bottom) (row_at p.rows (line + n)) blank_row (sound.row (line + n)) (sound_blank p.wide))
      (sound.row line))

  pub sound_scrolled_down : (n top bottom line : ℕ) → SoundRow p.wide (row_at (scrolled_down n top bottom p.rows) line)
  sound_scrolled_down n top bottom = sound_rows_by p.wide _ (λ line low high.
      either_row (SoundRow p.wide) (nat_le top line && nat_le line bottom) (if nat_le (top + n) line then row_at p.rows (line - n) else blank_row) (row_at p.rows line)
      (either_row (SoundRow p.wide) (nat_le (top + n) line) (row_at p.rows (line - n)) blank_row (sound.row (line - n)) (sound_blank p.wide))
      (sound.row line))

  pub sound_indexed : Sound (indexed p)
  sound_indexed =
      either_picture Sound (p.line == p.bottom) (on_line p.line (record p { rows = scrolled_up 1 p.top p.bottom p.rows })) (if p.line == 24 then on_line 24 p else on_line (p.line + 1) p)
      (sound_rows_on_line (scrolled_up 1 p.top p.bottom p.rows) p.line (length-table 24 _) (sound_scrolled_up 1 p.top p.bottom) sound.line_low sound.line_high)
      (by_test Sound (p.line == 24) (on_line 24 p) (on_line (p.line + 1) p)
      (λ e. sound_on_line 24 (omega arith) (omega arith))
      (λ e. sound_on_line (p.line + 1) (omega arith) (grind (arith, nat_tests, sound.line_high))))

  pub sound_reverse_indexed : Sound (reverse_indexed p)
  sound_reverse_indexed =
      either_picture Sound (p.line == p.top) (on_line p.line (record p { rows = scrolled_down 1 p.top p.bottom p.rows })) (if p.line == 1 then on_line 1 p else on_line (p.line - 1) p)
      (sound_rows_on_line (scrolled_down 1 p.top p.bottom p.rows) p.line (length-table 24 _) (sound_scrolled_down 1 p.top p.bottom) sound.line_low sound.line_high)
      (by_test Sound (p.line == 1) (on_line 1 p) (on_line (p.line - 1) p)
      (λ e. sound_on_line 1 (omega arith) (omega arith))
      (λ e. sound_on_line (p.line - 1) (grind (arith, nat_tests, sound.line_low)) (omega (arith, sound.line_high))))

  -- other rows, and the cursor at column 1
  sound_rows_at_left : (rows : List Row) → length rows ≡ 24 → ((k : ℕ) → SoundRow p.wide (row_at rows k))
      → Sound (moved_to_left (record p { rows = rows }))
  sound_rows_at_left rows len row =
      sound_all rows p.line 1 false len row sound.line_low sound.line_high (omega arith) (omega (arith, margin_low p.wide (row_at rows p.line).size))

  pub sound_lines_deleted : (n : ℕ) → Sound (lines_deleted n p)
  sound_lines_deleted n =
      either_picture Sound (is_in_region p) (moved_to_left (record p { rows = scrolled_up n p.line p.bottom p.rows })) p
      (sound_rows_at_left (scrolled_up n p.line p.bottom p.rows) (length-table 24 _) (sound_scrolled_up n p.line p.bottom)) sound

  pub sound_lines_inserted : (n : ℕ) → Sound (lines_inserted n p)
  sound_lines_inserted n =
      either_picture Sound (is_in_region p) (moved_to_left (record p { rows = scrolled_down n p.line p.bottom p.rows })) p
      (sound_rows_at_left (scrolled_down n p.line p.bottom p.rows) (length-table 24 _) (sound_scrolled_down n p.line p.bottom)) sound

  -- the right margin of the cursor's line, once it has another row
  margin_there : (row : Row) → margin_of p.wide (row_at (with_row p.line row p.rows) p.line).size ≡ margin_of p.wide row.size
  margin_there row = ap (λ (r : Row). margin_of p.wide r.size) (row_put p.line row p.rows sound.line_low sound.line_high)

  -- the cursor's line has another row
  pub sound_row_there : (row : Row) (column : ℕ) (wrap : Bool) → SoundRow p.wide row → 1 ≤ column
      → column ≤ margin_of p.wide row.size
      → Sound (record p { rows = with_row p.line row p.rows; column = column; wrap = wrap })
  sound_row_there row column wrap sound_row low high =
      sound_all (with_row p.line row p.rows) p.line column wrap (length-table 24 _) (sound_with_row p.wide p.line row p.rows sound_row sound.row)
      sound.line_low sound.line_high low (omega (arith, margin_there row))

  pub sound_put : (cell : Cell) (autowrap : Bool) → cell.glyph ≤ 126 → Sound (put cell autowrap p)
  sound_put cell autowrap glyph =
      let row = with_cell p.column cell (row_at p.rows p.line) in
      let sound_row = sound_with_cell p.wide (row_at p.rows p.line) (sound.row p.line) p.column cell sound.column_high glyph in
      let rows = with_row p.line row p.rows in
      by_test Sound (p.column == right_margin p p.line) (record p { rows = rows; wrap = autowrap }) (record p { rows = rows; column = p.column + 1 })
      (λ e. sound_row_there row p.column autowrap sound_row sound.column_low sound.column_high)
      (λ e. sound_row_there row (p.column + 1) p.wrap sound_row (omega arith) (grind (arith, nat_tests, sound.column_high)))

  pub sound_cells_deleted : (n : ℕ) → Sound (cells_deleted n p)
  sound_cells_deleted n =
      sound_row_there (taken_out n p.column (right_margin p p.line) (row_at p.rows p.line)) p.column p.wrap (sound_taken_out p.wide (row_at p.rows p.line) (sound.row p.line) n p.column) sound.column_low sound.column_high

  pub sound_room_made : Sound (room_made p)
  sound_room_made =
      sound_row_there (moved_right p.column (right_margin p p.line) (row_at p.rows p.line)) p.column p.wrap (sound_moved_right p.wide (row_at p.rows p.line) (sound.row p.line) p.column) sound.column_low sound.column_high

  pub sound_line_erased : (part : ℕ) → Sound (line_erased part p)
  sound_line_erased part =
      sound_row_there (part_erased part p.column (row_at p.rows p.line)) p.column p.wrap (sound_erased p.wide (row_at p.rows p.line) (sound.row p.line) part p.column) sound.column_low sound.column_high

  pub sound_size_set : (size : Size) → Sound (size_set size p)
  sound_size_set size =
      let margin = margin_low p.wide size in
      sound_row_there (resized p.wide size (row_at p.rows p.line)) (min p.column (margin_of p.wide size)) false (sound_resized p.wide (row_at p.rows p.line) (sound.row p.line) size) (omega (arith, sound.column_low)) (omega arith)

  -- a line is single or keeps its size where the display is erased
  wider : (line : ℕ) (whole : Bool)
      → margin_of p.wide (row_at p.rows line).size ≤ margin_of p.wide (if whole then Single else (row_at p.rows line).size)
  wider line true = margin_high p.wide (row_at p.rows line).size
  wider line false = omega arith

  either_cell : (P : Cell → Type 0) (b : Bool) (x y : Cell) → P x → P y → P (if b then x else y)
  either_cell P true x y px py = px
  either_cell P false x y px py = py

  pub sound_display_erased : (part : ℕ) → Sound (display_erased part p)
  sound_display_erased part =
      let f : ℕ → Row = λ line. row_by (if erased_whole part p line then Single else (row_at p.rows line).size) (λ column. if in_part part p line column then blank else cell_at (row_at p.rows line) column) in
      let here = ap (λ (r : Row). margin_of p.wide r.size) (nth-table blank_row 24 f p.line sound.line_low sound.line_high) in
      sound_all (rows_by f) p.line p.column _ (length-table 24 f)
      (sound_rows_by p.wide f (λ line low high.
      sound_by p.wide _ _
      (λ k above. either_cell (λ e. e ≡ blank) (in_part part p line k) blank (cell_at (row_at p.rows line) k) refl
      ((sound.row line).blank_right k (omega (arith, wider line (erased_whole part p line)))))
      (λ k. either_cell (λ e. e.glyph ≤ 126) (in_part part p line k) blank (cell_at (row_at p.rows line) k) (omega arith) ((sound.row line).glyphs k))))
      sound.line_low sound.line_high sound.column_low
      (omega (arith, here, wider p.line (erased_whole part p p.line), sound.column_high))

  pub sound_columns_set : (wide origin : Bool) → Sound (columns_set wide origin p)
  sound_columns_set wide origin =
      home origin
    where
      blanked : Sound (record p { wide = wide; rows = rows_by (λ _. blank_row); line = 1; column = 1; wrap = false; top = 1; bottom = 24 })
      blanked = record {
        rows = length-table 24 (λ _. blank_row);
        row = sound_rows_by wide (λ _. blank_row) (λ line low high. sound_blank wide);
        line_low = omega arith;
        line_high = omega arith;
        column_low = omega arith;
        column_high = omega (arith, margin_low wide (row_at (rows_by (λ _. blank_row)) 1).size);
        top_low = omega arith;
        apart = omega arith;
        bottom_high = omega arith;
        tabs = sound.tabs;
      }

      home : (o : Bool) → Sound (columns_set wide o p)
      home true = blanked
      home false = blanked

  pub sound_aligned : Sound (aligned p)
  sound_aligned =
      let f : ℕ → Row = λ line. filled_to pattern (columns p.wide) (row_at p.rows line) in
      let here = ap (λ (r : Row). margin_of p.wide r.size) (nth-table blank_row 24 f p.line sound.line_low sound.line_high) in
      sound_all (rows_by f) p.line p.column false (length-table 24 f)
      (sound_rows_by p.wide f (λ line low high. sound_filled p.wide (row_at p.rows line) (sound.row line) pattern (omega arith)))
      sound.line_low sound.line_high sound.column_low
      (omega (arith, here, margin_high p.wide (row_at p.rows p.line).size, sound.column_high))

  pub sound_margins : (top bottom : ℕ) → 1 ≤ top → top < bottom → bottom ≤ 24 → Sound (record p { top = top; bottom = bottom })
  sound_margins top bottom low apart high = record {
    rows = sound.rows;
    row = sound.row;
    line_low = sound.line_low;
    line_high = sound.line_high;
    column_low = sound.column_low;
    column_high = sound.column_high;
    top_low = low;
    apart = apart;
    bottom_high = high;
    tabs = sound.tabs;
  }

  pub sound_tabbed : Sound (tabbed p)
  sound_tabbed =
      let margin = right_margin p p.line in
      sound_cursor p.line (stop_after p.tabs p.column margin) false sound.line_low sound.line_high
      (omega (arith, stop_low p.tabs p.column margin sound.column_high, sound.column_low))
      (stop_high p.tabs p.column margin sound.column_high)

  -- other tab stops
  pub sound_tabs : (tabs : List Bool) → length tabs ≡ 132 → Sound (record p { tabs = tabs })
  sound_tabs tabs len = record {
    rows = sound.rows;
    row = sound.row;
    line_low = sound.line_low;
    line_high = sound.line_high;
    column_low = sound.column_low;
    column_high = sound.column_high;
    top_low = sound.top_low;
    apart = sound.apart;
    bottom_high = sound.bottom_high;
    tabs = len;
  }

  pub sound_tab_made : (stops : Bool) → Sound (tab_made stops p)
  sound_tab_made stops = sound_tabs _ (length-table 132 _)

  pub sound_tabs_cleared : Sound (tabs_cleared p)
  sound_tabs_cleared = sound_tabs _ (length-table 132 _)

pub sound_margins_set : (top bottom : ℕ) (origin : Bool) (p : Picture) → Sound p → Sound (margins_set top bottom origin p)
sound_margins_set top bottom origin p sound =
    by_test Sound (are_margins top bottom) (moved_home origin (record p { top = top; bottom = bottom })) p
    (λ e. sound_moved_home (record p { top = top; bottom = bottom }) (sound_margins p sound top bottom (grind (arith, nat_tests)) (grind (arith, nat_tests)) (grind (arith, nat_tests))) origin)
    (λ _. sound)

pub sound_wrap_taken : (p : Picture) → Sound p → Sound (wrap_taken p)
sound_wrap_taken p sound = either_picture Sound p.wrap (indexed (moved_to_left p)) p (sound_indexed (moved_to_left p) (sound_moved_to_left p sound)) sound

pub sound_shown : (glyph : ℕ) (rendition : Attributes) (autowrap : Bool) (p : Picture) → glyph ≤ 126 → Sound p
    → Sound (shown glyph rendition autowrap p)
sound_shown glyph rendition autowrap p low sound = sound_put (wrap_taken p) (sound_wrap_taken p sound) (record { glyph = glyph; rendition = rendition }) autowrap low

pub sound_shown_inserting : (glyph : ℕ) (rendition : Attributes) (autowrap : Bool) (p : Picture) → glyph ≤ 126
    → Sound p → Sound (shown_inserting glyph rendition autowrap p)
sound_shown_inserting glyph rendition autowrap p low sound =
    sound_put (room_made (wrap_taken p)) (sound_room_made (wrap_taken p) (sound_wrap_taken p sound)) (record { glyph = glyph; rendition = rendition }) autowrap low

pub sound_run : (glyphs : List ℕ) (rendition : Attributes) (autowrap : Bool) (p : Picture)
    → AllByRecursion (λ glyph. glyph ≤ 126) glyphs → Sound p → Sound (run_shown glyphs rendition autowrap p)
sound_run [] rendition autowrap p all sound = sound
sound_run (glyph ∷ glyphs) rendition autowrap p all sound = sound_run glyphs rendition autowrap (shown glyph rendition autowrap p) all.1 (sound_shown glyph rendition autowrap p all.0 sound)

pub sound_run_shown : (glyphs : List ℕ) (rendition : Attributes) (autowrap : Bool) (p : Picture)
    → All (λ glyph. glyph ≤ 126) glyphs → Sound p → Sound (run_shown glyphs rendition autowrap p)
sound_run_shown glyphs rendition autowrap p all sound = sound_run glyphs rendition autowrap p (recursion_from_All (λ glyph. glyph ≤ 126) glyphs all) sound

pub sound_reset : Sound reset
sound_reset = record {
  rows = length-table 24 (λ _. blank_row);
  row = sound_rows_by false (λ _. blank_row) (λ line low high. sound_blank false);
  line_low = omega arith;
  line_high = omega arith;
  column_low = omega arith;
  column_high = omega (arith, margin_low false (row_at (rows_by (λ _. blank_row)) 1).size);
  top_low = omega arith;
  apart = omega arith;
  bottom_high = omega arith;
  tabs = length-table 132 _;
}
