-- What the rows of a screen are, which every operation on a screen keeps.
use Rattle.std.proofs.Common.{◌≡◌, ℕ, ◌+◌, ◌-◌, ◌≤◌, Bool, true, false, List, [], length, min, refl, sym, ap, subst, inl, inr, ◌∙◌, arith}
use Rattle.std.specs.Prelude.{if◌then◌else◌, ◌==◌, ◌&&◌, nat_le, nat_lt}
use Rattle.std.proofs.lemmas.Bool.{cases_lt}
use Rattle.std.proofs.lemmas.Bool.Decides.{nat_tests}
use Rattle.characters.specs.Law.{AsciiIsNarrow}
use Rattle.sheet.specs.declared.rendition.Colour.{Colour}
use Rattle.sheet.specs.declared.rendition.Colour.TheVariants.{Default}
use Rattle.sheet.specs.declared.rendition.Rendition.{Rendition}
use Rattle.sheet.specs.Cells.{Cell, alignment, blank}
use Rattle.sheet.specs.Edits.{deleted, erased, inserted, mark_added, moved_right, put, taken_out, filled, written}
use Rattle.sheet.specs.Grid.{blank_row, blank_rows, lines_erased, row_at, row_of, scrolled_down, scrolled_up, with_row}
use Rattle.sheet.specs.Halves.{mended, parted as halves_parted}
use Rattle.sheet.specs.Table.{table}
use Rattle.xterm_screen.specs.CellEdits.{cells_deleted, cells_inserted, cells_left}
use Rattle.xterm_screen.specs.Erasures.{columns_erased, display_erased, first_column, first_line, last_column, last_line, line_erased}
use Rattle.xterm_screen.specs.Margins.{aligned, are_margins, margins_set}
use Rattle.xterm_screen.specs.Moves.{moved_home, moved_to_left}
use Rattle.xterm_screen.specs.Picture.{Picture, reset}
use Rattle.xterm_screen.specs.Puts.{advanced, character_put, character_written, made_ready, mark_column, mark_joined, next_line, overhangs, room_made, shown, width as columns_of, wrap_taken}
use Rattle.xterm_screen.specs.Scrolls.{indexed, is_in_region, lines_deleted, lines_inserted, lines_lowered, lines_raised, reverse_indexed}
use Rattle.xterm_screen.specs.Sheets.{alternate_shown, main_shown}
use Rattle.xterm_escaped.proofs.Cells.{IsByteRendition}
use Rattle.xterm_escaped.proofs.Colours.{IsByteColour}
use Rattle.xterm_escaped.proofs.Fitting.{Fits, IsShown, fits_aligned_row, fits_blank_row, fits_deleted, fits_erased, fits_inserted, fits_marked, fits_none, fits_put}
use Rattle.xterm_escaped.proofs.Redrawing.{IsMark}
use Rattle.xterm_escaped.proofs.Tables.{length-table, nth-table, nth_none, nth_past}

-- rows of so many columns
pub record RowsFit (columns : ℕ) (rows : List (List Cell)) : Type 0 where
  pub fit : (line : ℕ) → Fits (row_at rows line)
  pub full : (line : ℕ) → 1 ≤ line → line ≤ length rows → length (row_at rows line) ≡ columns

pub record PictureFits (p : Picture) : Type 0 where
  pub rows : RowsFit p.columns p.rows
  pub other : RowsFit p.columns p.other
  pub rows_long : length p.rows ≡ p.lines
  pub other_long : length p.other ≡ p.lines
  pub top_low : 1 ≤ p.top
  pub bottom_high : p.bottom ≤ p.lines

pub either_fits : (b : Bool) (p q : Picture) → PictureFits p → PictureFits q → PictureFits (if b then p else q)
either_fits true p q one two = one
either_fits false p q one two = two

by_test : (b : Bool) (p q : Picture) → (b ≡ true → PictureFits p) → PictureFits q → PictureFits (if b then p else q)
by_test true p q one two = one refl
by_test false p q one two = two

either_row : (b : Bool) (x y : List Cell) → Fits x → Fits y → Fits (if b then x else y)
either_row true x y one two = one
either_row false x y one two = two

either_long : (b : Bool) (x y : List Cell) (n : ℕ) → (b ≡ true → length x ≡ n) → length y ≡ n → length (if b then x else y) ≡ n
either_long true x y n one two = one refl
either_long false x y n one two = two

-- ---- lengths of edited rows

long_mended : (paper : Colour) (row : List Cell) (n : ℕ) → length row ≡ n → length (mended paper row) ≡ n
long_mended paper row n e = length-table (length row) _ ∙ e

long_erased : (from to : ℕ) (paper : Colour) (row : List Cell) → length (erased from to paper row) ≡ length row
long_erased from to paper row = long_mended paper (filled from to (blank paper) row) (length row) (length-table (length row) _)

pub long_put : (at character : ℕ) (wide : Bool) (rendition : Rendition) (row : List Cell) → length (put at character wide rendition row) ≡ length row
long_put at character wide rendition row = long_mended rendition.paper (written at character wide rendition row) (length row) (length-table (length row) _)

pub long_inserted : (n from : ℕ) (paper : Colour) (row : List Cell) → length (inserted n from paper row) ≡ length row
long_inserted n from paper row = long_mended paper (moved_right n from paper row) (length row) (length-table (length row) _)

long_deleted : (n from : ℕ) (paper : Colour) (row : List Cell) → length (deleted n from paper row) ≡ length row
long_deleted n from paper row =
    let one = halves_parted from paper row in
    let two = halves_parted (from + n) paper one in
    long_mended paper (taken_out n from paper two) (length row) (length-table (length two) _ ∙ length-table (length one) _ ∙ length-table (length row) _)

-- ---- moves

-- the cursor elsewhere
pub fits_cursor : (line column : ℕ) (wrap : Bool) (p : Picture) → PictureFits p → PictureFits (record p { line = line; column = column; wrap = wrap })
fits_cursor line column wrap p fits = record {
  rows = fits.rows;
  other = fits.other;
  rows_long = fits.rows_long;
  other_long = fits.other_long;
  top_low = fits.top_low;
  bottom_high = fits.bottom_high;
}

-- other tab stops
pub fits_tabs : (tabs : List Bool) (p : Picture) → PictureFits p → PictureFits (record p { tabs = tabs })
fits_tabs tabs p fits = record {
  rows = fits.rows;
  other = fits.other;
  rows_long = fits.rows_long;
  other_long = fits.other_long;
  top_low = fits.top_low;
  bottom_high = fits.bottom_high;
}

-- ---- rows

module _ (ascii : AsciiIsNarrow) where
  row_in : (n : ℕ) (f : ℕ → List Cell) → ((line : ℕ) → Fits (f line)) → (line : ℕ) → Fits (row_at (table n f) line)
  row_in n f fits line =
      let long = length-table n f in
      elim (cases_lt n line) [
        | inl past ↦ subst Fits (sym (nth_past [] (table n f) line (omega arith))) (fits_none ascii)
        | inr inside ↦ elim (cases_lt 0 line) [
          | inl low ↦ subst Fits (sym (nth-table [] n f line low inside)) (fits line)
          | inr never ↦ (let none : line ≡ 0 = omega arith in
              subst Fits (sym (ap (row_at (table n f)) none ∙ nth_none [] (table n f))) (fits_none ascii))
        ]
      ]

  rows_table : (columns n : ℕ) (f : ℕ → List Cell) → ((line : ℕ) → Fits (f line)) → ((line : ℕ) → 1 ≤ line → line ≤ n → length (f line) ≡ columns)
      → RowsFit columns (table n f)
  rows_table columns n f fits full = record {
    fit = row_in n f fits;
    full = λ line low high.
        let long = length-table n f in
        let inside : line ≤ n = omega arith in
        ap length (nth-table [] n f line low inside) ∙ full line low inside;
  }

  -- one row is another
  rows_with : (columns at : ℕ) (row : List Cell) (rows : List (List Cell)) → RowsFit columns rows → Fits row → length row ≡ length (row_at rows at)
      → RowsFit columns (with_row at row rows)
  rows_with columns at row rows all fits long =
      rows_table columns (length rows) (λ line. if line == at then row else row_at rows line)
      (λ line. either_row (line == at) row (row_at rows line) fits (all.fit line))
      (λ line low high. either_long (line == at) row (row_at rows line) columns
      (λ same. let e : line ≡ at = grind (arith, nat_tests) in long ∙ ap (λ l. length (row_at rows l)) (sym e) ∙ all.full line low high) (all.full line low high))

  rows_blank : (columns lines : ℕ) (paper : Colour) → IsByteColour paper → RowsFit columns (blank_rows columns lines paper)
  rows_blank columns lines paper is =
      rows_table columns lines (λ _. blank_row columns paper) (λ line. fits_blank_row ascii columns paper is) (λ line low high. length-table columns _)

  rows_erased : (from to columns : ℕ) (paper : Colour) (rows : List (List Cell)) → IsByteColour paper → RowsFit columns rows
      → RowsFit columns (lines_erased from to columns paper rows)
  rows_erased from to columns paper rows is all =
      rows_table columns (length rows) (λ line. if nat_le from line && nat_le line to then blank_row columns paper else row_at rows line)
      (λ line. either_row (nat_le from line && nat_le line to) _ _ (fits_blank_row ascii columns paper is) (all.fit line))
      (λ line low high. either_long (nat_le from line && nat_le line to) _ _ columns (λ in_. length-table columns _) (all.full line low high))

  rows_raised : (columns n top bottom : ℕ) (paper : Colour) (rows : List (List Cell)) → IsByteColour paper → bottom ≤ length rows → RowsFit columns rows
      → RowsFit columns (scrolled_up n top bottom (blank_row columns paper) rows)
  rows_raised columns n top bottom paper rows is high all =
      let empty = blank_row columns paper in
      let fits_empty = fits_blank_row ascii columns paper is in
      rows_table columns (length rows)
      (λ line. if nat_le top line && nat_le line bottom then (if nat_le (line + n) bottom then row_at rows (line + n) else empty) else row_at rows line)
      (λ line. either_row (nat_le top line && nat_le line bottom) _ _ (either_row (nat_le (line + n) bottom) _ _ (all.fit (line + n)) fits_empty) (all.fit line))
      (λ line low within. either_long (nat_le top line && nat_le line bottom) _ _ columns
      (λ in_. either_long (nat_le (line + n) bottom) _ _ columns
      (λ there. let some : line + n ≤ bottom = grind (arith, nat_tests) in all.full (line + n) (omega arith) (omega arith)) (length-table columns _))
      (all.full line low within))

  rows_lowered : (columns n top bottom : ℕ) (paper : Colour) (rows : List (List Cell)) → IsByteColour paper → 1 ≤ top → RowsFit columns rows
      → RowsFit columns (scrolled_down n top bottom (blank_row columns paper) rows)
  rows_lowered columns n top bottom paper rows is low_top all =
      let empty = blank_row columns paper in
      let fits_empty = fits_blank_row ascii columns paper is in
      rows_table columns (length rows)
      (λ line. if nat_le top line && nat_le line bottom then (if nat_le (top + n) line then row_at rows (line - n) else empty) else row_at rows line)
      (λ line. either_row (nat_le top line && nat_le line bottom) _ _ (either_row (nat_le (top + n) line) _ _ (all.fit (line - n)) fits_empty) (all.fit line))
      (λ line low within. either_long (nat_le top line && nat_le line bottom) _ _ columns
      (λ in_. either_long (nat_le (top + n) line) _ _ columns
      (λ there. let some : top + n ≤ line = grind (arith, nat_tests) in all.full (line - n) (omega arith) (omega arith)) (length-table columns _))
      (all.full line low within))

  -- ---- pictures

  pub fits_reset : (columns lines : ℕ) → PictureFits (reset columns lines)
  fits_reset columns lines = record {
    rows = rows_blank columns lines Default tt;
    other = rows_blank columns lines Default tt;
    rows_long = length-table lines _;
    other_long = length-table lines _;
    top_low = omega arith;
    bottom_high = omega arith;
  }

  -- other rows
  fits_rows : (rows : List (List Cell)) (wrap : Bool) (p : Picture) → RowsFit p.columns rows → length rows ≡ length p.rows → PictureFits p
      → PictureFits (record p { rows = rows; wrap = wrap })
  fits_rows rows wrap p all long fits = record {
    rows = all;
    other = fits.other;
    rows_long = long ∙ fits.rows_long;
    other_long = fits.other_long;
    top_low = fits.top_low;
    bottom_high = fits.bottom_high;
  }

  -- another row at the cursor's line
  fits_row : (row : List Cell) (wrap : Bool) (p : Picture) → Fits row → length row ≡ length (row_at p.rows p.line) → PictureFits p
      → PictureFits (record p { rows = with_row p.line row p.rows; wrap = wrap })
  fits_row row wrap p is long fits =
      fits_rows (with_row p.line row p.rows) wrap p (rows_with p.columns p.line row p.rows fits.rows is long) (length-table (length p.rows) _) fits

  -- ---- rows that move

  pub fits_raised : (n top bottom : ℕ) (paper : Colour) (p : Picture) → IsByteColour paper → bottom ≤ p.lines → PictureFits p
      → PictureFits (lines_raised n top bottom paper p)
  fits_raised n top bottom paper p is high fits =
      let long = fits.rows_long in
      fits_rows _ p.wrap p (rows_raised p.columns n top bottom paper p.rows is (omega arith) fits.rows) (length-table (length p.rows) _) fits

  pub fits_lowered : (n top bottom : ℕ) (paper : Colour) (p : Picture) → IsByteColour paper → 1 ≤ top → PictureFits p
      → PictureFits (lines_lowered n top bottom paper p)
  fits_lowered n top bottom paper p is low fits =
      fits_rows _ p.wrap p (rows_lowered p.columns n top bottom paper p.rows is low fits.rows) (length-table (length p.rows) _) fits

  pub fits_indexed : (paper : Colour) (p : Picture) → IsByteColour paper → PictureFits p → PictureFits (indexed paper p)
  fits_indexed paper p is fits =
      either_fits (p.line == p.bottom) _ _
      (fits_cursor p.line p.column false _ (fits_raised 1 p.top p.bottom paper p is fits.bottom_high fits))
      (fits_cursor _ p.column false p fits)

  pub fits_reverse_indexed : (paper : Colour) (p : Picture) → IsByteColour paper → PictureFits p → PictureFits (reverse_indexed paper p)
  fits_reverse_indexed paper p is fits =
      either_fits (p.line == p.top) _ _
      (fits_cursor p.line p.column false _ (fits_lowered 1 p.top p.bottom paper p is fits.top_low fits))
      (fits_cursor _ p.column false p fits)

  pub fits_lines_deleted : (n : ℕ) (paper : Colour) (p : Picture) → IsByteColour paper → PictureFits p → PictureFits (lines_deleted n paper p)
  fits_lines_deleted n paper p is fits =
      either_fits (is_in_region p) _ p (fits_cursor p.line 1 false _ (fits_raised n p.line p.bottom paper p is fits.bottom_high fits)) fits

  pub fits_lines_inserted : (n : ℕ) (paper : Colour) (p : Picture) → IsByteColour paper → PictureFits p → PictureFits (lines_inserted n paper p)
  fits_lines_inserted n paper p is fits =
      by_test (is_in_region p) _ p
      (λ inside. let low = fits.top_low in let line_low : 1 ≤ p.line = grind (arith, nat_tests) in
      fits_cursor p.line 1 false _ (fits_lowered n p.line p.bottom paper p is line_low fits)) fits

  -- ---- cells

  pub fits_columns_erased : (from to : ℕ) (paper : Colour) (p : Picture) → IsByteColour paper → PictureFits p → PictureFits (columns_erased from to paper p)
  fits_columns_erased from to paper p is fits =
      fits_row (erased from to paper (row_at p.rows p.line)) false p (fits_erased ascii from to paper _ is (fits.rows.fit p.line)) (long_erased from to paper _) fits

  pub fits_line_erased : (part : ℕ) (paper : Colour) (p : Picture) → IsByteColour paper → PictureFits p → PictureFits (line_erased part paper p)
  fits_line_erased part paper p is fits = fits_columns_erased (first_column part p.column) (last_column part p.column p.columns) paper p is fits

  pub fits_display_erased : (part : ℕ) (paper : Colour) (p : Picture) → IsByteColour paper → PictureFits p → PictureFits (display_erased part paper p)
  fits_display_erased part paper p is fits =
      let q = line_erased part paper p in
      let fits_q = fits_line_erased part paper p is fits in
      fits_rows (lines_erased (first_line part p.line) (last_line part p.line p.lines) p.columns paper q.rows) false q
      (rows_erased (first_line part p.line) (last_line part p.line p.lines) p.columns paper q.rows is fits_q.rows) (length-table (length q.rows) _) fits_q

  pub fits_cells_inserted : (n : ℕ) (paper : Colour) (p : Picture) → IsByteColour paper → PictureFits p → PictureFits (cells_inserted n paper p)
  fits_cells_inserted n paper p is fits =
      let row = row_at p.rows p.line in
      fits_row (inserted (cells_left n p) p.column paper row) false p
      (fits_inserted ascii (cells_left n p) p.column paper row is (fits.rows.fit p.line).loose) (long_inserted (cells_left n p) p.column paper row) fits

  pub fits_cells_deleted : (n : ℕ) (paper : Colour) (p : Picture) → IsByteColour paper → PictureFits p → PictureFits (cells_deleted n paper p)
  fits_cells_deleted n paper p is fits =
      let row = row_at p.rows p.line in
      fits_row (deleted (cells_left n p) p.column paper row) false p
      (fits_deleted ascii (cells_left n p) p.column paper row is (fits.rows.fit p.line)) (long_deleted (cells_left n p) p.column paper row) fits

  -- ---- margins and sheets

  pub fits_aligned : (p : Picture) → PictureFits p → PictureFits (aligned p)
  fits_aligned p fits = record {
    rows = rows_table p.columns p.lines (λ _. row_of p.columns alignment) (λ line. fits_aligned_row ascii p.columns) (λ line low high. length-table p.columns _);
    other = fits.other;
    rows_long = length-table p.lines _;
    other_long = fits.other_long;
    top_low = omega arith;
    bottom_high = omega arith;
  }

  fits_margins : (top bottom : ℕ) (origin : Bool) (p : Picture) → 1 ≤ top → bottom ≤ p.lines → PictureFits p
      → PictureFits (moved_home origin (record p { top = top; bottom = bottom }))
  fits_margins top bottom origin p low high fits = record {
    rows = fits.rows;
    other = fits.other;
    rows_long = fits.rows_long;
    other_long = fits.other_long;
    top_low = low;
    bottom_high = high;
  }

  pub fits_margins_set : (top bottom : ℕ) (origin : Bool) (p : Picture) → PictureFits p → PictureFits (margins_set top bottom origin p)
  fits_margins_set top bottom origin p fits =
      by_test (are_margins top bottom p.lines) _ p
      (λ are. let low : 1 ≤ top = grind (arith, nat_tests) in fits_margins top (min bottom p.lines) origin p low (omega arith) fits) fits

  pub fits_alternate_shown : (paper : Colour) (p : Picture) → IsByteColour paper → PictureFits p → PictureFits (alternate_shown paper p)
  fits_alternate_shown paper p is fits =
      either_fits p.alternate p (record p { rows = blank_rows p.columns p.lines paper; other = p.rows; alternate = true }) fits
      (record {
        rows = rows_blank p.columns p.lines paper is;
        other = fits.rows;
        rows_long = length-table p.lines _;
        other_long = fits.rows_long;
        top_low = fits.top_low;
        bottom_high = fits.bottom_high;
      })

  pub fits_main_shown : (p : Picture) → PictureFits p → PictureFits (main_shown p)
  fits_main_shown p fits =
      either_fits p.alternate (record p { rows = p.other; other = p.rows; alternate = false }) p
      (record {
        rows = fits.other;
        other = fits.rows;
        rows_long = fits.other_long;
        other_long = fits.rows_long;
        top_low = fits.top_low;
        bottom_high = fits.bottom_high;
      }) fits

  -- ---- characters

  pub fits_next_line : (paper : Colour) (p : Picture) → IsByteColour paper → PictureFits p → PictureFits (next_line paper p)
  fits_next_line paper p is fits = fits_indexed paper (moved_to_left p) is (fits_cursor p.line 1 false p fits)

  pub fits_ready : (wide autowrap : Bool) (paper : Colour) (p : Picture) → IsByteColour paper → PictureFits p → PictureFits (made_ready wide autowrap paper p)
  fits_ready wide autowrap paper p is fits =
      let q = wrap_taken paper p in
      let fits_q = either_fits p.wrap (next_line paper p) p (fits_next_line paper p is fits) fits in
      either_fits (autowrap && overhangs wide q) (next_line paper q) q (fits_next_line paper q is fits_q) fits_q

  module _ (character : ℕ) (wide : Bool) (rendition : Rendition) (autowrap inserting : Bool) (can : IsShown character wide) (colours : IsByteRendition rendition) where
    fits_room : (p : Picture) → PictureFits p → PictureFits (room_made inserting wide rendition.paper p)
    fits_room p fits =
        let row = row_at p.rows p.line in
        either_fits inserting _ p
        (fits_row (inserted (columns_of wide) p.column rendition.paper row) p.wrap p
        (fits_inserted ascii (columns_of wide) p.column rendition.paper row colours.paper (fits.rows.fit p.line).loose)
        (long_inserted (columns_of wide) p.column rendition.paper row) fits) fits

    fits_written : (p : Picture) → PictureFits p → PictureFits (character_written character wide rendition p)
    fits_written p fits =
        let row = row_at p.rows p.line in
        fits_row (put p.column character wide rendition row) p.wrap p
        (fits_put ascii p.column character wide rendition row can colours (fits.rows.fit p.line)) (long_put p.column character wide rendition row) fits

    fits_advanced : (by : ℕ) (p : Picture) → PictureFits p → PictureFits (advanced by autowrap p)
    fits_advanced by p fits =
        either_fits (nat_lt p.columns (p.column + by)) _ _ (fits_cursor p.line p.columns autowrap p fits) (fits_cursor p.line (p.column + by) p.wrap p fits)

    pub fits_shown : (p : Picture) → PictureFits p → PictureFits (shown character wide rendition autowrap inserting p)
    fits_shown p fits =
        let q = made_ready wide autowrap rendition.paper p in
        let fits_q = fits_ready wide autowrap rendition.paper p colours.paper fits in
        either_fits (overhangs wide q) q (character_put character wide rendition autowrap inserting q) fits_q
        (fits_advanced (columns_of wide) _ (fits_written _ (fits_room q fits_q)))

  pub fits_joined : (mark : ℕ) (p : Picture) → IsMark mark → PictureFits p → PictureFits (mark_joined mark p)
  fits_joined mark p is fits = by_none (mark_column p == 0) refl
    where
      by_none : (b : Bool) → (mark_column p == 0) ≡ b
          → PictureFits (if b then p else record p { rows = with_row p.line (mark_added (mark_column p) mark (row_at p.rows p.line)) p.rows })
      by_none true none = fits
      by_none false some =
          let low : 1 ≤ mark_column p = grind (arith, nat_tests) in
          fits_row (mark_added (mark_column p) mark (row_at p.rows p.line)) p.wrap p
          (fits_marked ascii (mark_column p) mark (row_at p.rows p.line) low is (fits.rows.fit p.line)) (length-table (length (row_at p.rows p.line)) _) fits
