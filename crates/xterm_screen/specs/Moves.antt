-- Moves of the cursor. Each takes the pending wrap away (xterm).
use Rattle.std.specs.Prelude.{ℕ, ◌+◌, ◌-◌, Bool, false, nat_le, ◌==◌, ◌&&◌, min, max, if◌then◌else◌}
use Rattle.xterm_screen.specs.Picture.{Picture}

-- to a line, in the same column
abbrev pub on_line : ℕ → Picture → Picture
on_line line p = record p { line = line; wrap = false }

-- to a column of the same line, at most the last one (ECMA-48 8.3.9, CHA; 8.3.57, HPA)
abbrev pub on_column : ℕ → Picture → Picture
on_column column p = record p { column = min column p.columns; wrap = false }

-- CUU: from the top margin or below it at most to the top margin, from above it to line 1
-- (ECMA-48 8.3.22; the margins: EK-VT100-UG chapter 3)
abbrev pub stepped_up : ℕ → Picture → Picture
stepped_up n p = on_line (max (if nat_le p.top p.line then p.top else 1) (p.line - n)) p

-- CUD: from the bottom margin or above it at most to the bottom margin, from below it to the last line
-- (ECMA-48 8.3.19; the margins: EK-VT100-UG chapter 3)
abbrev pub stepped_down : ℕ → Picture → Picture
stepped_down n p = on_line (min (if nat_le p.line p.bottom then p.bottom else p.lines) (p.line + n)) p

-- VPR: down, at most to the last line, or to the bottom margin where the origin is in the region; else
-- margins don't stop it (ECMA-48 8.3.160; where it stops: xterm)
abbrev pub lowered : ℕ → Bool → Picture → Picture
lowered n origin p = on_line (min (if origin then p.bottom else p.lines) (p.line + n)) p

-- CUF and HPR: at most to the last column (ECMA-48 8.3.20, 8.3.59)
abbrev pub stepped_right : ℕ → Picture → Picture
stepped_right n p = record p { column = min (p.column + n) p.columns; wrap = false }

-- CUB and BS: at least column 1 (ECMA-48 8.3.18, 8.3.5)
abbrev pub stepped_left : ℕ → Picture → Picture
stepped_left n p = record p { column = max 1 (p.column - n); wrap = false }

-- CR: column 1 (ECMA-48 8.3.15)
abbrev pub moved_to_left : Picture → Picture
moved_to_left p = record p { column = 1; wrap = false }

-- the line of this number: counted from the top margin and at most the bottom one where the origin is
-- there, else from line 1 and at most the last (EK-VT100-UG chapter 3, CUP and DECOM)
abbrev pub line_placed : ℕ → Bool → Picture → ℕ
line_placed line origin p = if origin then min (p.top + (line - 1)) p.bottom else min line p.lines

-- VPA: that line, in the same column (ECMA-48 8.3.158; as CUP counts: xterm)
abbrev pub placed_on_line : ℕ → Bool → Picture → Picture
placed_on_line line origin p = on_line (line_placed line origin p) p

-- CUP: that line, and a column, at most the last one (ECMA-48 8.3.21)
abbrev pub placed : ℕ → ℕ → Bool → Picture → Picture
placed line column origin p =
    record p { line = line_placed line origin p; column = min column p.columns; wrap = false }

-- column 1 of line 1, or of the top margin where the origin is there (EK-VT100-UG chapter 3, DECOM)
abbrev pub moved_home : Bool → Picture → Picture
moved_home origin p = record p { line = (if origin then p.top else 1); column = 1; wrap = false }

-- the wrap alone is cleared (xterm)
abbrev pub wrap_cleared : Picture → Picture
wrap_cleared p = record p { wrap = false }

-- DECRC's part on the screen (EK-VT100-UG chapter 3): the line, moved into the margins where the origin is
-- there; the column, at most the last one; the wrap where autowrap is set and the column is the last one (ours)
abbrev pub put_back : ℕ → ℕ → Bool → Bool → Bool → Picture → Picture
put_back line column wrap origin autowrap p = record p {
  line = (if origin then max p.top (min line p.bottom) else line);
  column = min column p.columns;
  wrap = wrap && autowrap && (min column p.columns == p.columns);
}
