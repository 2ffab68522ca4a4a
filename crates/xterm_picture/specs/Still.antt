-- What stands on the screen of a terminal of today at a moment.
use Rattle.std.specs.Prelude.{ℕ, Bool, List}
use Rattle.sheet.specs.Cells.{Cell}
use Rattle.xterm_term.specs.Console.{Console}

pub record Still : Type 0 where
  -- how many columns each row has
  pub columns : ℕ
  -- the rows of the sheet that is shown, line 1 first
  pub rows : List (List Cell)
  -- whether the screen is reversed
  pub reversed : Bool
  -- the cursor's line and column, and whether it is shown
  pub line : ℕ
  pub column : ℕ
  pub shown : Bool

-- what stands on the screen of a terminal
abbrev pub still_of : Console → Still
still_of s = record {
  columns = s.picture.columns;
  rows = s.picture.rows;
  reversed = s.modes.reverse_screen;
  line = s.picture.line;
  column = s.picture.column;
  shown = s.modes.cursor_shown;
}
