-- The margins, and the alignment pattern.
use Rattle.std.specs.Prelude.{ℕ, Bool, false, nat_lt, nat_le, ◌&&◌, min, if◌then◌else◌}
use Rattle.sheet.specs.Grid.{aligned as rows_aligned}
use Rattle.xterm_screen.specs.Picture.{Picture}
use Rattle.xterm_screen.specs.Moves.{moved_home}

-- a region has at least two lines and begins on the sheet; a bottom past the last line counts as that one
-- (EK-VT100-UG chapter 3, DECSTBM; what is past the last line: xterm)
abbrev pub are_margins : ℕ → ℕ → ℕ → Bool
are_margins top bottom lines = nat_le 1 top && nat_lt top (min bottom lines)

-- DECSTBM: these margins and home, or nothing where they are none (EK-VT100-UG chapter 3, DECSTBM)
abbrev pub margins_set : ℕ → ℕ → Bool → Picture → Picture
margins_set top bottom origin p =
    if are_margins top bottom p.lines
    then moved_home origin (record p { top = top; bottom = min bottom p.lines })
    else p

-- DECALN: every cell is the letter E without rendition, the margins are the first and the last line, and the cursor
-- goes to line 1 column 1 (EK-VT100-UG chapter 3, DECALN; margins and cursor: xterm)
abbrev pub aligned : Picture → Picture
aligned p = record p {
  rows = rows_aligned p.columns p.lines;
  line = 1;
  column = 1;
  wrap = false;
  top = 1;
  bottom = p.lines;
}
