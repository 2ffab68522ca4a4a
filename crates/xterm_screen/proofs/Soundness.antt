-- Each operation keeps a picture sound.
use Rattle.std.proofs.Common.{◌≡◌, ℕ, ◌+◌, ◌-◌, ◌≤◌, Bool, true, false, List, [], ◌∷◌, length, min, max, refl, ◌∙◌, arith}
use Rattle.std.specs.Prelude.{if◌then◌else◌, ◌==◌, ◌&&◌, nat_lt}
use Rattle.std.proofs.lemmas.Bool.Decides.{nat_tests}
use Rattle.sheet.specs.Cells.{Cell}
use Rattle.sheet.specs.declared.rendition.Colour.{Colour}
use Rattle.sheet.specs.declared.rendition.Rendition.{Rendition}
use Rattle.sheet.specs.Edits.{mark_added}
use Rattle.sheet.specs.Grid.{blank_rows, row_at, with_row}
use Rattle.xterm_screen.specs.Picture.{Picture, Sound, reset}
use Rattle.xterm_screen.specs.Moves.{on_line, on_column, stepped_up, stepped_down, lowered, stepped_right, stepped_left, moved_to_left, line_placed, placed_on_line, placed, moved_home, put_back}
use Rattle.xterm_screen.specs.Scrolls.{lines_raised, lines_lowered, indexed, reverse_indexed, is_in_region, lines_deleted, lines_inserted}
use Rattle.xterm_screen.specs.Puts.{next_line, wrap_taken, width, overhangs, made_ready, room_made, character_written, advanced, character_put, shown, run_shown, mark_column, mark_joined}
use Rattle.xterm_screen.specs.Erasures.{columns_erased, display_erased}
use Rattle.xterm_screen.specs.CellEdits.{cells_inserted, cells_deleted}
use Rattle.xterm_screen.specs.Margins.{are_margins, margins_set, aligned}
use Rattle.xterm_screen.specs.Sheets.{alternate_shown, main_shown}
use Rattle.xterm_screen.specs.Tabs.{tabbed, tabbed_on, tabbed_back, tab_made, tabs_cleared}
use Rattle.xterm_screen.proofs.Tables.{length-table}
use Rattle.xterm_screen.proofs.Stops.{stop_low, stop_high, on_low, on_high, back_low, back_high}

pub either_picture : (P : Picture → Type 0) (b : Bool) (x y : Picture) → P x → P y → P (if b then x else y)
either_picture P true x y px py = px
either_picture P false x y px py = py

-- the same, where each side may use the test
pub by_test : (P : Picture → Type 0) (b : Bool) (x y : Picture) → (b ≡ true → P x) → (b ≡ false → P y) → P (if b then x else y)
by_test P true x y px py = px refl
by_test P false x y px py = py refl

pub sound_reset : (columns lines : ℕ) → 2 ≤ columns → columns ≤ 1000 → 1 ≤ lines → lines ≤ 500 → Sound (reset columns lines)
sound_reset columns lines clow chigh llow lhigh = record {
  columns_low = clow;
  columns_high = chigh;
  lines_low = llow;
  lines_high = lhigh;
  rows = length-table lines _;
  other = length-table lines _;
  line_low = omega arith;
  line_high = llow;
  column_low = omega arith;
  column_high = omega arith;
  top_low = omega arith;
  apart = llow;
  bottom_high = omega arith;
  tabs = length-table columns _;
}

module _ (p : Picture) (sound : Sound p) where
  -- other rows, and the cursor elsewhere
  pub sound_all : (rows : List (List Cell)) (line column : ℕ) (wrap : Bool) → length rows ≡ p.lines → 1 ≤ line → line ≤ p.lines
      → 1 ≤ column → column ≤ p.columns → Sound (record p { rows = rows; line = line; column = column; wrap = wrap })
  sound_all rows line column wrap len line_low line_high column_low column_high = record {
    columns_low = sound.columns_low;
    columns_high = sound.columns_high;
    lines_low = sound.lines_low;
    lines_high = sound.lines_high;
    rows = len;
    other = sound.other;
    line_low = line_low;
    line_high = line_high;
    column_low = column_low;
    column_high = column_high;
    top_low = sound.top_low;
    apart = sound.apart;
    bottom_high = sound.bottom_high;
    tabs = sound.tabs;
  }

  -- other rows and margins, with the cursor at its home or elsewhere
  pub sound_margins : (rows : List (List Cell)) (line column top bottom : ℕ) (wrap : Bool) → length rows ≡ p.lines → 1 ≤ line → line ≤ p.lines
      → 1 ≤ column → column ≤ p.columns → 1 ≤ top → top ≤ bottom → bottom ≤ p.lines
      → Sound (record p { rows = rows; line = line; column = column; wrap = wrap; top = top; bottom = bottom })
  sound_margins rows line column top bottom wrap len line_low line_high column_low column_high top_low apart bottom_high = record {
    columns_low = sound.columns_low;
    columns_high = sound.columns_high;
    lines_low = sound.lines_low;
    lines_high = sound.lines_high;
    rows = len;
    other = sound.other;
    line_low = line_low;
    line_high = line_high;
    column_low = column_low;
    column_high = column_high;
    top_low = top_low;
    apart = apart;
    bottom_high = bottom_high;
    tabs = sound.tabs;
  }

  -- other sheets, of which one is shown
  pub sound_sheets : (rows other : List (List Cell)) (alternate : Bool) → length rows ≡ p.lines → length other ≡ p.lines
      → Sound (record p { rows = rows; other = other; alternate = alternate })
  sound_sheets rows other alternate len other_len = record {
    columns_low = sound.columns_low;
    columns_high = sound.columns_high;
    lines_low = sound.lines_low;
    lines_high = sound.lines_high;
    rows = len;
    other = other_len;
    line_low = sound.line_low;
    line_high = sound.line_high;
    column_low = sound.column_low;
    column_high = sound.column_high;
    top_low = sound.top_low;
    apart = sound.apart;
    bottom_high = sound.bottom_high;
    tabs = sound.tabs;
  }

  -- other tab stops
  pub sound_tabs : (tabs : List Bool) → length tabs ≡ p.columns → Sound (record p { tabs = tabs })
  sound_tabs tabs len = record {
    columns_low = sound.columns_low;
    columns_high = sound.columns_high;
    lines_low = sound.lines_low;
    lines_high = sound.lines_high;
    rows = sound.rows;
    other = sound.other;
    line_low = sound.line_low;
    line_high = sound.line_high;
    column_low = sound.column_low;
    column_high = sound.column_high;
    top_low = sound.top_low;
    apart = sound.apart;
    bottom_high = sound.bottom_high;
    tabs = len;
  }

  pub sound_cursor : (line column : ℕ) (wrap : Bool) → 1 ≤ line → line ≤ p.lines → 1 ≤ column → column ≤ p.columns
      → Sound (record p { line = line; column = column; wrap = wrap })
  sound_cursor line column wrap = sound_all p.rows line column wrap sound.rows

  -- other rows, with the cursor where it is
  pub sound_rows : (rows : List (List Cell)) (wrap : Bool) → length rows ≡ p.lines → Sound (record p { rows = rows; wrap = wrap })
  sound_rows rows wrap len = sound_all rows p.line p.column wrap len sound.line_low sound.line_high sound.column_low sound.column_high

  pub sound_on_line : (line : ℕ) → 1 ≤ line → line ≤ p.lines → Sound (on_line line p)
  sound_on_line line low high = sound_cursor line p.column false low high sound.column_low sound.column_high

  pub sound_stepped_up : (n : ℕ) → Sound (stepped_up n p)
  sound_stepped_up n = sound_on_line _ (grind (arith, nat_tests, sound.top_low)) (grind (arith, nat_tests, sound.line_high, sound.line_low))

  pub sound_stepped_down : (n : ℕ) → Sound (stepped_down n p)
  sound_stepped_down n =
      sound_on_line _ (grind (arith, nat_tests, sound.top_low, sound.apart, sound.line_low, sound.lines_low)) (grind (arith, nat_tests, sound.bottom_high))

  pub sound_lowered : (n : ℕ) (origin : Bool) → Sound (lowered n origin p)
  sound_lowered n true = sound_on_line _ (omega (arith, sound.top_low, sound.apart, sound.line_low)) (omega (arith, sound.bottom_high))
  sound_lowered n false = sound_on_line _ (omega (arith, sound.line_low, sound.lines_low)) (omega arith)

  -- to a column of the same line
  pub sound_to : (column : ℕ) (wrap : Bool) → 1 ≤ column → column ≤ p.columns → Sound (record p { column = column; wrap = wrap })
  sound_to column wrap low high = sound_cursor p.line column wrap sound.line_low sound.line_high low high

  pub sound_on_column : (column : ℕ) → 1 ≤ column → Sound (on_column column p)
  sound_on_column column low = sound_to (min column p.columns) false (omega (arith, sound.columns_low)) (omega arith)

  pub sound_stepped_right : (n : ℕ) → Sound (stepped_right n p)
  sound_stepped_right n = sound_to (min (p.column + n) p.columns) false (omega (arith, sound.column_low, sound.columns_low)) (omega arith)

  pub sound_stepped_left : (n : ℕ) → Sound (stepped_left n p)
  sound_stepped_left n = sound_to (max 1 (p.column - n)) false (omega arith) (omega (arith, sound.column_high, sound.columns_low))

  pub sound_moved_to_left : Sound (moved_to_left p)
  sound_moved_to_left = sound_to 1 false (omega arith) (omega (arith, sound.columns_low))

  pub placed_low : (line : ℕ) (origin : Bool) → 1 ≤ line → 1 ≤ line_placed line origin p
  placed_low line true low = omega (arith, sound.top_low, sound.apart)
  placed_low line false low = omega (arith, sound.lines_low)

  pub placed_high : (line : ℕ) (origin : Bool) → line_placed line origin p ≤ p.lines
  placed_high line true = omega (arith, sound.bottom_high)
  placed_high line false = omega arith

  pub sound_placed_on_line : (line : ℕ) (origin : Bool) → 1 ≤ line → Sound (placed_on_line line origin p)
  sound_placed_on_line line origin low = sound_on_line (line_placed line origin p) (placed_low line origin low) (placed_high line origin)

  pub sound_placed : (line column : ℕ) (origin : Bool) → 1 ≤ line → 1 ≤ column → Sound (placed line column origin p)
  sound_placed line column origin low column_low =
      sound_cursor (line_placed line origin p) (min column p.columns) false (placed_low line origin low) (placed_high line origin)
      (omega (arith, sound.columns_low)) (omega arith)

  pub sound_moved_home : (origin : Bool) → Sound (moved_home origin p)
  sound_moved_home true = sound_cursor p.top 1 false sound.top_low (omega (arith, sound.apart, sound.bottom_high)) (omega arith) (omega (arith, sound.columns_low))
  sound_moved_home false = sound_cursor 1 1 false (omega arith) sound.lines_low (omega arith) (omega (arith, sound.columns_low))

  pub sound_wrap : (wrap : Bool) → Sound (record p { wrap = wrap })
  sound_wrap wrap = sound_to p.column wrap sound.column_low sound.column_high

  pub sound_put_back : (line column : ℕ) (wrap origin autowrap : Bool) → 1 ≤ line → line ≤ p.lines → 1 ≤ column
      → Sound (put_back line column wrap origin autowrap p)
  sound_put_back line column wrap true autowrap low high column_low =
      sound_cursor (max p.top (min line p.bottom)) (min column p.columns) _ (omega (arith, sound.top_low)) (omega (arith, sound.top_low, sound.apart, sound.bottom_high))
      (omega (arith, sound.columns_low)) (omega arith)
  sound_put_back line column wrap false autowrap low high column_low =
      sound_cursor line (min column p.columns) _ low high (omega (arith, sound.columns_low)) (omega arith)

  pub sound_raised : (n top bottom : ℕ) (paper : Colour) → Sound (lines_raised n top bottom paper p)
  sound_raised n top bottom paper = sound_rows _ p.wrap (length-table (length p.rows) _ ∙ sound.rows)

  pub sound_lowered_lines : (n top bottom : ℕ) (paper : Colour) → Sound (lines_lowered n top bottom paper p)
  sound_lowered_lines n top bottom paper = sound_rows _ p.wrap (length-table (length p.rows) _ ∙ sound.rows)

  -- another row at the cursor's line
  pub sound_row : (row : List Cell) (wrap : Bool) → Sound (record p { rows = with_row p.line row p.rows; wrap = wrap })
  sound_row row wrap = sound_rows _ wrap (length-table (length p.rows) _ ∙ sound.rows)

  pub sound_columns_erased : (from to : ℕ) (paper : Colour) → Sound (columns_erased from to paper p)
  sound_columns_erased from to paper = sound_row _ false

  pub sound_display_erased : (part : ℕ) (paper : Colour) → Sound (display_erased part paper p)
  sound_display_erased part paper = sound_rows _ false (length-table _ _ ∙ length-table (length p.rows) _ ∙ sound.rows)

  pub sound_cells_inserted : (n : ℕ) (paper : Colour) → Sound (cells_inserted n paper p)
  sound_cells_inserted n paper = sound_row _ false

  pub sound_cells_deleted : (n : ℕ) (paper : Colour) → Sound (cells_deleted n paper p)
  sound_cells_deleted n paper = sound_row _ false

  pub sound_aligned : Sound (aligned p)
  sound_aligned =
      sound_margins _ 1 1 1 p.lines false (length-table p.lines _) (omega arith) sound.lines_low (omega arith) (omega (arith, sound.columns_low))
      (omega arith) sound.lines_low (omega arith)

  pub sound_home_in : (top bottom : ℕ) (origin : Bool) → 1 ≤ top → top ≤ bottom → bottom ≤ p.lines
      → Sound (moved_home origin (record p { top = top; bottom = bottom }))
  sound_home_in top bottom true low apart high =
      sound_margins p.rows top 1 top bottom false sound.rows low (omega arith) (omega arith) (omega (arith, sound.columns_low)) low apart high
  sound_home_in top bottom false low apart high =
      sound_margins p.rows 1 1 top bottom false sound.rows (omega arith) sound.lines_low (omega arith) (omega (arith, sound.columns_low)) low apart high

  pub sound_margins_set : (top bottom : ℕ) (origin : Bool) → Sound (margins_set top bottom origin p)
  sound_margins_set top bottom origin =
      by_test Sound (are_margins top bottom p.lines) (moved_home origin (record p { top = top; bottom = min bottom p.lines })) p
      (λ e. sound_home_in top (min bottom p.lines) origin (grind (arith, nat_tests)) (grind (arith, nat_tests)) (omega arith)) (λ e. sound)

  pub sound_alternate_shown : (paper : Colour) → Sound (alternate_shown paper p)
  sound_alternate_shown paper =
      either_picture Sound p.alternate p (record p { rows = blank_rows p.columns p.lines paper; other = p.rows; alternate = true }) sound
      (sound_sheets (blank_rows p.columns p.lines paper) p.rows true (length-table p.lines _) sound.rows)

  pub sound_main_shown : Sound (main_shown p)
  sound_main_shown =
      either_picture Sound p.alternate (record p { rows = p.other; other = p.rows; alternate = false }) p
      (sound_sheets p.other p.rows false sound.other sound.rows) sound

  pub sound_tabbed : Sound (tabbed p)
  sound_tabbed =
      sound_to _ p.wrap (omega (arith, sound.column_low, stop_low p.tabs p.columns p.column sound.column_high))
      (stop_high p.tabs p.columns p.column sound.column_high)

  pub sound_tabbed_on : (n : ℕ) → Sound (tabbed_on n p)
  sound_tabbed_on n =
      sound_to _ p.wrap (on_low n p.tabs p.columns p.column sound.column_low sound.column_high) (on_high n p.tabs p.columns p.column sound.column_high)

  pub sound_tabbed_back : (n : ℕ) → Sound (tabbed_back n p)
  sound_tabbed_back n =
      sound_to _ false (back_low n p.tabs p.column sound.column_low) (omega (arith, back_high n p.tabs p.column sound.column_low, sound.column_high))

  pub sound_tab_made : (stops : Bool) → Sound (tab_made stops p)
  sound_tab_made stops = sound_tabs _ (length-table p.columns _)

  pub sound_tabs_cleared : Sound (tabs_cleared p)
  sound_tabs_cleared = sound_tabs _ (length-table p.columns _)

  pub sound_advanced : (by : ℕ) (autowrap : Bool) → Sound (advanced by autowrap p)
  sound_advanced by autowrap =
      by_test Sound (nat_lt p.columns (p.column + by)) (record p { column = p.columns; wrap = autowrap }) (record p { column = p.column + by })
      (λ e. sound_to p.columns autowrap (omega (arith, sound.columns_low)) (omega arith))
      (λ e. sound_to (p.column + by) p.wrap (omega (arith, sound.column_low)) (grind (arith, nat_tests)))

  pub sound_mark_joined : (mark : ℕ) → Sound (mark_joined mark p)
  sound_mark_joined mark =
      either_picture Sound (mark_column p == 0) p (record p { rows = with_row p.line (mark_added (mark_column p) mark (row_at p.rows p.line)) p.rows }) sound
      (sound_row _ p.wrap)

-- index, and what stands on it
pub sound_indexed : (paper : Colour) (p : Picture) → Sound p → Sound (indexed paper p)
sound_indexed paper p sound =
    either_picture Sound (p.line == p.bottom) (on_line p.line (lines_raised 1 p.top p.bottom paper p)) (on_line (min (p.line + 1) p.lines) p)
    (sound_on_line (lines_raised 1 p.top p.bottom paper p) (sound_raised p sound 1 p.top p.bottom paper) p.line sound.line_low sound.line_high)
    (sound_on_line p sound (min (p.line + 1) p.lines) (omega (arith, sound.lines_low)) (omega arith))

pub sound_reverse_indexed : (paper : Colour) (p : Picture) → Sound p → Sound (reverse_indexed paper p)
sound_reverse_indexed paper p sound =
    either_picture Sound (p.line == p.top) (on_line p.line (lines_lowered 1 p.top p.bottom paper p)) (on_line (max 1 (p.line - 1)) p)
    (sound_on_line (lines_lowered 1 p.top p.bottom paper p) (sound_lowered_lines p sound 1 p.top p.bottom paper) p.line sound.line_low sound.line_high)
    (sound_on_line p sound (max 1 (p.line - 1)) (omega arith) (omega (arith, sound.line_high, sound.lines_low)))

pub sound_lines_deleted : (n : ℕ) (paper : Colour) (p : Picture) → Sound p → Sound (lines_deleted n paper p)
sound_lines_deleted n paper p sound =
    either_picture Sound (is_in_region p) (moved_to_left (lines_raised n p.line p.bottom paper p)) p
    (sound_moved_to_left (lines_raised n p.line p.bottom paper p) (sound_raised p sound n p.line p.bottom paper)) sound

pub sound_lines_inserted : (n : ℕ) (paper : Colour) (p : Picture) → Sound p → Sound (lines_inserted n paper p)
sound_lines_inserted n paper p sound =
    either_picture Sound (is_in_region p) (moved_to_left (lines_lowered n p.line p.bottom paper p)) p
    (sound_moved_to_left (lines_lowered n p.line p.bottom paper p) (sound_lowered_lines p sound n p.line p.bottom paper)) sound

pub sound_next_line : (paper : Colour) (p : Picture) → Sound p → Sound (next_line paper p)
sound_next_line paper p sound = sound_indexed paper (moved_to_left p) (sound_moved_to_left p sound)

pub sound_wrap_taken : (paper : Colour) (p : Picture) → Sound p → Sound (wrap_taken paper p)
sound_wrap_taken paper p sound = either_picture Sound p.wrap (next_line paper p) p (sound_next_line paper p sound) sound

pub sound_made_ready : (wide autowrap : Bool) (paper : Colour) (p : Picture) → Sound p → Sound (made_ready wide autowrap paper p)
sound_made_ready wide autowrap paper p sound =
    let q = wrap_taken paper p in
    let sound_q = sound_wrap_taken paper p sound in
    either_picture Sound (autowrap && overhangs wide q) (next_line paper q) q (sound_next_line paper q sound_q) sound_q

-- characters
module _ (wide : Bool) (rendition : Rendition) (autowrap inserting : Bool) where
  pub sound_room_made : (p : Picture) → Sound p → Sound (room_made inserting wide rendition.paper p)
  sound_room_made p sound = either_picture Sound inserting _ p (sound_row p sound _ p.wrap) sound

  pub sound_character_put : (character : ℕ) (p : Picture) → Sound p → Sound (character_put character wide rendition autowrap inserting p)
  sound_character_put character p sound =
      let q = room_made inserting wide rendition.paper p in
      sound_advanced (character_written character wide rendition q) (sound_row q (sound_room_made p sound) _ q.wrap) (width wide) autowrap

  pub sound_shown : (character : ℕ) (p : Picture) → Sound p → Sound (shown character wide rendition autowrap inserting p)
  sound_shown character p sound =
      let q = made_ready wide autowrap rendition.paper p in
      let sound_q = sound_made_ready wide autowrap rendition.paper p sound in
      either_picture Sound (overhangs wide q) q (character_put character wide rendition autowrap inserting q) sound_q (sound_character_put character q sound_q)

pub sound_run_shown : (rendition : Rendition) (autowrap inserting : Bool) (characters : List ℕ) (p : Picture) → Sound p
    → Sound (run_shown characters rendition autowrap inserting p)
sound_run_shown rendition autowrap inserting [] p sound = sound
sound_run_shown rendition autowrap inserting (character ∷ characters) p sound =
    sound_run_shown rendition autowrap inserting characters _ (sound_shown false rendition autowrap inserting character p sound)
