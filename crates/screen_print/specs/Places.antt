-- Private: the places that a still has.
use Rattle.std.specs.Prelude.{◌≤◌, length}
use Rattle.vt_screen.specs.Cells.{row_at}
use Rattle.vt_screen.specs.Limits.{line_count}
use Rattle.screen_print.specs.declared.standing.Place.{Place}
use Rattle.screen_rows.specs.RowText.{row_text}
use Rattle.screen_print.specs.Stills.{Still}

-- a line and a column of a still
pub record IsPlace (still : Still) (place : Place) : Type 0 where
  pub line_low : 1 ≤ place.line
  pub line_high : place.line ≤ line_count
  pub column_low : 1 ≤ place.column
  pub column_high : place.column ≤ length (row_text still.wide (row_at still.rows place.line))
