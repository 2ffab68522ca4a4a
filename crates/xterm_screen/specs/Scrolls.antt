-- Lines that move: index and reverse index, lines that are inserted and deleted, and the region that scrolls.
-- A row that enters is blank in the paper of the current rendition (erased in colour: xterm).
use Rattle.std.specs.Prelude.{ℕ, ◌+◌, ◌-◌, Bool, nat_le, ◌==◌, ◌&&◌, min, max, if◌then◌else◌}
use Rattle.sheet.specs.declared.rendition.Colour.{Colour}
use Rattle.sheet.specs.Grid.{blank_row, scrolled_up, scrolled_down}
use Rattle.xterm_screen.specs.Picture.{Picture}
use Rattle.xterm_screen.specs.Moves.{on_line, moved_to_left}

-- the rows from one line to another move up by n
abbrev pub lines_raised : ℕ → ℕ → ℕ → Colour → Picture → Picture
lines_raised n top bottom paper p =
    record p { rows = scrolled_up n top bottom (blank_row p.columns paper) p.rows }

-- the mirror image
abbrev pub lines_lowered : ℕ → ℕ → ℕ → Colour → Picture → Picture
lines_lowered n top bottom paper p =
    record p { rows = scrolled_down n top bottom (blank_row p.columns paper) p.rows }

-- IND: at the bottom margin the region moves up, else one line down, at most to the last line
-- (EK-VT100-UG chapter 3, IND)
abbrev pub indexed : Colour → Picture → Picture
indexed paper p =
    if p.line == p.bottom
    then on_line p.line (lines_raised 1 p.top p.bottom paper p)
    else on_line (min (p.line + 1) p.lines) p

-- RI: at the top margin the region moves down, else one line up, at most to line 1 (EK-VT100-UG chapter 3, RI)
abbrev pub reverse_indexed : Colour → Picture → Picture
reverse_indexed paper p =
    if p.line == p.top
    then on_line p.line (lines_lowered 1 p.top p.bottom paper p)
    else on_line (max 1 (p.line - 1)) p

-- SU: the rows inside the margins move up by n; the cursor and the wrap stay (ECMA-48 8.3.147; inside the
-- margins, and what stays: xterm)
abbrev pub region_raised : ℕ → Colour → Picture → Picture
region_raised n paper p = lines_raised n p.top p.bottom paper p

-- SD: the same downwards (ECMA-48 8.3.113)
abbrev pub region_lowered : ℕ → Colour → Picture → Picture
region_lowered n paper p = lines_lowered n p.top p.bottom paper p

-- the cursor's line is one from the top margin to the bottom margin
abbrev pub is_in_region : Picture → Bool
is_in_region p = nat_le p.top p.line && nat_le p.line p.bottom

-- DL: from the cursor's line to the bottom margin rows move up by n, and the cursor goes to column 1; outside
-- the margins nothing (VT102 User Guide, DL; the column: xterm)
abbrev pub lines_deleted : ℕ → Colour → Picture → Picture
lines_deleted n paper p =
    if is_in_region p then moved_to_left (lines_raised n p.line p.bottom paper p) else p

-- IL: the same downwards (VT102 User Guide, IL)
abbrev pub lines_inserted : ℕ → Colour → Picture → Picture
lines_inserted n paper p =
    if is_in_region p then moved_to_left (lines_lowered n p.line p.bottom paper p) else p
