-- Private: what the fields of what was shown stand for.
use Rattle.screen_cast.specs.declared.shown.Shown.TheInside.{Inside as Fields}
use Rattle.screen_cast.specs.Texts.{KeptStill}

abbrev pub shown_in : Fields → KeptStill
shown_in s = record {
  still = record {
    wide = s.wide;
    rows = s.rows.rows;
    reversed = s.reversed;
    line = s.line;
    column = s.column;
  };
  kept = s.rows;
}
