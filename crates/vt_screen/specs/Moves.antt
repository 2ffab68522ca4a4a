-- Moves of the cursor. Each takes the pending wrap away (ours).
use Rattle.std.specs.Prelude.{ℕ, ◌+◌, ◌-◌, Bool, false, nat_le, ◌==◌, ◌&&◌, min, max, if◌then◌else◌}
use Rattle.vt_screen.specs.Picture.{Picture, right_margin}
use Rattle.vt_screen.specs.Limits.{line_count}

-- to a line, with the column cut to that line's right margin (EK-VT100-UG chapter 3; the cut: ours)
abbrev pub on_line : ℕ → Picture → Picture
on_line line p = record p { line = line; column = min p.column (right_margin p line); wrap = false }

-- CUU: from the top margin or below it at most to the top margin, from above it to line 1
-- (EK-VT100-UG chapter 3, CUU)
abbrev pub stepped_up : ℕ → Picture → Picture
stepped_up n p = on_line (max (if nat_le p.top p.line then p.top else 1) (p.line - n)) p

-- CUD: from the bottom margin or above it at most to the bottom margin, from below it to line 24
-- (EK-VT100-UG chapter 3, CUD)
abbrev pub stepped_down : ℕ → Picture → Picture
stepped_down n p = on_line (min (if nat_le p.line p.bottom then p.bottom else line_count) (p.line + n)) p

-- CUF: at most to the right margin (EK-VT100-UG chapter 3, CUF)
abbrev pub stepped_right : ℕ → Picture → Picture
stepped_right n p = record p { column = min (p.column + n) (right_margin p p.line); wrap = false }

-- CUB and BS: at least column 1 (EK-VT100-UG chapter 3, CUB)
abbrev pub stepped_left : ℕ → Picture → Picture
stepped_left n p = record p { column = max 1 (p.column - n); wrap = false }

-- CR: column 1 (EK-VT100-UG chapter 3, control characters)
abbrev pub moved_to_left : Picture → Picture
moved_to_left p = record p { column = 1; wrap = false }

-- to a line and at most to a column of it (the cut: ours)
abbrev pub moved_to : ℕ → ℕ → Picture → Picture
moved_to line column p = record p { line = line; column = min column (right_margin p line); wrap = false }

-- CUP: lines are counted from the top margin and end at the bottom one where the origin is there
-- (EK-VT100-UG chapter 3, CUP and DECOM)
abbrev pub placed : ℕ → ℕ → Bool → Picture → Picture
placed line column origin p =
    moved_to (if origin then min (p.top + (line - 1)) p.bottom else min line line_count) column p

-- column 1 of line 1, or of the top margin where the origin is there (EK-VT100-UG chapter 3, DECOM)
abbrev pub moved_home : Bool → Picture → Picture
moved_home origin p = record p { line = (if origin then p.top else 1); column = 1; wrap = false }

-- the wrap alone is cleared (ours)
abbrev pub wrap_cleared : Picture → Picture
wrap_cleared p = record p { wrap = false }

-- DECRC's part on the screen (ours): the line, moved into the margins where the origin is there;
-- the column, cut to that line's right margin; the wrap where autowrap is set and the column is that margin
abbrev pub put_back : ℕ → ℕ → Bool → Bool → Bool → Picture → Picture
put_back line column wrap origin autowrap p =
    let to = (if origin then max p.top (min line p.bottom) else line) in
    let margin = right_margin p to in
    record p { line = to; column = min column margin; wrap = wrap && autowrap && (min column margin == margin) }
