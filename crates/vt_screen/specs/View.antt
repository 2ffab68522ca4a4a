-- Private: what the fields of a screen stand for.
use Rattle.vt_screen.specs.declared.screen.Screen.TheInside.{Inside as Fields}
use Rattle.vt_screen.specs.Picture.{Picture}
use Rattle.vt_screen.specs.Slots.{ScreenState, rows_of}

abbrev pub picture_of : Fields → Picture
picture_of s = record {
  wide = s.wide;
  rows = rows_of s.grid;
  line = s.line;
  column = s.column;
  wrap = s.wrap;
  top = s.top;
  bottom = s.bottom;
  tabs = s.tabs;
}

abbrev pub state_of : Fields → ScreenState
state_of s = record { picture = picture_of s; order = s.grid.order; slots = s.grid.slots; touched = s.touched }
