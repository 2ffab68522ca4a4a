-- Private: what the fields of a screen stand for.
use Rattle.std.specs.Prelude.{◌≡◌}
use Rattle.xterm_screen.specs.declared.screen.Screen.TheInside.{Inside as Fields}
use Rattle.xterm_screen.specs.Picture.{Picture, ScreenState, Sound}

abbrev pub picture_of : Fields → Picture
picture_of s = record {
  columns = s.columns;
  lines = s.lines;
  rows = s.shown.rows;
  other = s.other.rows;
  alternate = s.alternate;
  line = s.line;
  column = s.column;
  wrap = s.wrap;
  top = s.top;
  bottom = s.bottom;
  tabs = s.tabs.items;
}

abbrev pub state_of : Fields → ScreenState
state_of s = record { picture = picture_of s; origins = s.shown.origins }

-- the picture is sound, and both sheets have the size of the screen
pub record IsScreen (s : Fields) : Type 0 where
  pub sound : Sound (picture_of s)
  pub shown_columns : s.shown.columns ≡ s.columns
  pub shown_lines : s.shown.lines ≡ s.lines
  pub other_columns : s.other.columns ≡ s.columns
  pub other_lines : s.other.lines ≡ s.lines
