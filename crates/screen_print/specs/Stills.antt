-- What stands on a screen at a moment.
use Rattle.std.specs.Prelude.{◌≡◌, ℕ, Bool, List, length}
use Rattle.vt_screen.specs.declared.cell.Row.{Row}
use Rattle.vt_screen.specs.Cells.{row_at}
use Rattle.vt_screen.specs.Limits.{line_count}
use Rattle.vt_screen.specs.Picture.{SoundRow}
use Rattle.vt_term.specs.Console.{Console}

pub record Still : Type 0 where
  -- 132 columns, and 80 otherwise
  pub wide : Bool
  -- 24 rows, line 1 first
  pub rows : List Row
  -- whether the screen is reversed
  pub reversed : Bool
  -- the cursor's line and column
  pub line : ℕ
  pub column : ℕ

-- what stands on the screen of a terminal
abbrev pub still_of : Console → Still
still_of s = record {
  wide = s.picture.wide;
  rows = s.picture.rows;
  reversed = s.modes.reverse_screen;
  line = s.picture.line;
  column = s.picture.column;
}

-- what every still keeps: 24 rows of 132 cells, blank right of the right margin
pub record IsStill (still : Still) : Type 0 where
  pub whole : length still.rows ≡ line_count
  pub row : (line : ℕ) → SoundRow still.wide (row_at still.rows line)
