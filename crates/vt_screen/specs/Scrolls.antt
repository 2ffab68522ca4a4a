-- Lines that move: index and reverse index, and lines that are inserted and deleted.
use Rattle.std.specs.Prelude.{ℕ, ◌+◌, ◌-◌, Bool, List, nat_le, ◌==◌, ◌&&◌, if◌then◌else◌}
use Rattle.vt_screen.specs.declared.cell.Row.{Row}
use Rattle.vt_screen.specs.Cells.{blank_row, row_at, rows_by}
use Rattle.vt_screen.specs.Picture.{Picture}
use Rattle.vt_screen.specs.Moves.{on_line, moved_to_left}
use Rattle.vt_screen.specs.Limits.{line_count}

-- each line from the top to the bottom becomes the one n below it, with its size; where there is none
-- up to the bottom it is blank and single, and lines outside stay (EK-VT100-UG chapter 3, IND)
abbrev pub scrolled_up : ℕ → ℕ → ℕ → List Row → List Row
scrolled_up n top bottom rows = rows_by (λ line.
    if nat_le top line && nat_le line bottom
    then (if nat_le (line + n) bottom then row_at rows (line + n) else blank_row)
    else row_at rows line)

-- the mirror image (EK-VT100-UG chapter 3, RI)
abbrev pub scrolled_down : ℕ → ℕ → ℕ → List Row → List Row
scrolled_down n top bottom rows = rows_by (λ line.
    if nat_le top line && nat_le line bottom
    then (if nat_le (top + n) line then row_at rows (line - n) else blank_row)
    else row_at rows line)

-- IND: at the bottom margin the region scrolls up, at line 24 outside it nothing moves, else one line
-- down (EK-VT100-UG chapter 3, IND)
abbrev pub indexed : Picture → Picture
indexed p =
    if p.line == p.bottom
    then on_line p.line (record p { rows = scrolled_up 1 p.top p.bottom p.rows })
    else (if p.line == line_count then on_line line_count p else on_line (p.line + 1) p)

-- RI: at the top margin the region scrolls down, at line 1 outside it nothing moves, else one line up
-- (EK-VT100-UG chapter 3, RI)
abbrev pub reverse_indexed : Picture → Picture
reverse_indexed p =
    if p.line == p.top
    then on_line p.line (record p { rows = scrolled_down 1 p.top p.bottom p.rows })
    else (if p.line == 1 then on_line 1 p else on_line (p.line - 1) p)

-- the cursor's line is one from the top margin to the bottom margin
abbrev pub is_in_region : Picture → Bool
is_in_region p = nat_le p.top p.line && nat_le p.line p.bottom

-- DL: from the cursor's line to the bottom margin lines move up by n, and the cursor goes to column 1;
-- outside the margins nothing (VT102 User Guide, DL; the column: ours)
abbrev pub lines_deleted : ℕ → Picture → Picture
lines_deleted n p =
    if is_in_region p then moved_to_left (record p { rows = scrolled_up n p.line p.bottom p.rows }) else p

-- IL: the same downwards (VT102 User Guide, IL; the column: ours)
abbrev pub lines_inserted : ℕ → Picture → Picture
lines_inserted n p =
    if is_in_region p then moved_to_left (record p { rows = scrolled_down n p.line p.bottom p.rows }) else p
