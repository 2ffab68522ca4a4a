-- Erasing in the display and in a line (EK-VT100-UG chapter 3, ED and EL). The cursor stays.
use Rattle.std.specs.Prelude.{ℕ, zero, suc, Bool, true, not, nat_lt, nat_le, ◌==◌, ◌&&◌, ◌||◌, if◌then◌else◌}
use Rattle.std.specs.List.{list_all, range_with_len}
use Rattle.vt_screen.specs.declared.cell.Size.TheVariants.{Single}
use Rattle.vt_screen.specs.declared.cell.Row.{Row}
use Rattle.vt_screen.specs.Cells.{blank, cell_at, row_at, is_single, rows_by, row_by}
use Rattle.vt_screen.specs.Picture.{Picture, right_margin}
use Rattle.vt_screen.specs.Puts.{with_row}

-- the columns of the cursor's line: part 0 from the cursor to the end, part 1 from the start to the
-- cursor, part 2 all, each with the cursor's cell (EK-VT100-UG chapter 3, EL)
abbrev pub in_line_part : ℕ → ℕ → ℕ → Bool
in_line_part zero cursor column = nat_le cursor column
in_line_part (suc zero) cursor column = nat_le column cursor
in_line_part (suc (suc part)) cursor column = true

-- the other lines: part 0 those below, part 1 those above, part 2 all (EK-VT100-UG chapter 3, ED)
abbrev pub in_other_lines : ℕ → ℕ → ℕ → Bool
in_other_lines zero cursor line = nat_lt cursor line
in_other_lines (suc zero) cursor line = nat_lt line cursor
in_other_lines (suc (suc part)) cursor line = true

-- the cells of a part of the display, in reading order (EK-VT100-UG chapter 3, ED)
abbrev pub in_part : ℕ → Picture → ℕ → ℕ → Bool
in_part part p line column =
    if line == p.line then in_line_part part p.column column else in_other_lines part p.line line

-- a line is erased completely where the part has all its columns from 1 to its right margin (ours)
abbrev pub erased_whole : ℕ → Picture → ℕ → Bool
erased_whole part p line = list_all (in_part part p line) (range_with_len 1 (right_margin p line))

-- ED: the cells of the part are blank, a line that is erased completely becomes single width, and the
-- wrap is cleared where the cursor's line was of a double size and becomes single (the last: ours)
abbrev pub display_erased : ℕ → Picture → Picture
display_erased part p = record p {
  rows = rows_by (λ line.
      let row = row_at p.rows line in
      row_by
      (if erased_whole part p line then Single else row.size)
      (λ column. if in_part part p line column then blank else cell_at row column));
  wrap = p.wrap && (is_single (row_at p.rows p.line).size || not (erased_whole part p p.line));
}

-- a row whose cells of a part are blank (EK-VT100-UG chapter 3, EL)
abbrev pub part_erased : ℕ → ℕ → Row → Row
part_erased part cursor row =
    row_by row.size (λ column. if in_line_part part cursor column then blank else cell_at row column)

-- EL: the cells of the part on the cursor's line are blank, and sizes stay (EK-VT100-UG chapter 3, EL)
abbrev pub line_erased : ℕ → Picture → Picture
line_erased part p = record p {
  rows = with_row p.line (part_erased part p.column (row_at p.rows p.line)) p.rows;
}
