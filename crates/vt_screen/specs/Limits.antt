-- The measures of a screen.
use Rattle.std.specs.Prelude.{ℕ}

-- lines of a screen (EK-VT100-UG chapter 3)
abbrev pub line_count : ℕ
line_count = 24

-- columns of a wide screen, and cells of every row (EK-VT100-UG chapter 3, DECCOLM)
abbrev pub wide_columns : ℕ
wide_columns = 132

-- columns of a screen that isn't wide (EK-VT100-UG chapter 3, DECCOLM)
abbrev pub narrow_columns : ℕ
narrow_columns = 80

-- the greatest number of a glyph (ours)
abbrev pub last_glyph : ℕ
last_glyph = 126
