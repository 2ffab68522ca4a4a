-- Private: what the fields of a packed screen stand for (ours).
use Rattle.std.specs.Prelude.{◌≡◌}
use Rattle.xterm_screen.specs.declared.screen.packed.PackedScreen.TheInside.{Inside as Fields}
use Rattle.sheet.specs.Grid.{no_origins}
use Rattle.xterm_screen.specs.Picture.{Picture, Sound}

-- the picture of which it was made
abbrev pub packed_picture : Fields → Picture
packed_picture s = record {
  columns = s.columns;
  lines = s.lines;
  rows = s.shown.rows;
  other = s.other.rows;
  alternate = s.alternate;
  line = s.line;
  column = s.column;
  wrap = s.wrap;
  top = s.top;
  bottom = s.bottom;
  tabs = s.tabs.items;
}

-- that picture is sound, both sheets have its size, and of no line of the one that is shown the origin is known
pub record IsPacked (s : Fields) : Type 0 where
  pub sound : Sound (packed_picture s)
  pub shown_columns : s.shown.columns ≡ s.columns
  pub shown_lines : s.shown.lines ≡ s.lines
  pub shown_origins : s.shown.origins ≡ no_origins s.lines
  pub other_columns : s.other.columns ≡ s.columns
  pub other_lines : s.other.lines ≡ s.lines
