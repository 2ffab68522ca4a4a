-- Private: what the fields of a still stand for.
use Rattle.screen_print.specs.declared.still.Still.TheInside.{Inside as Fields}
use Rattle.screen_print.specs.Stills.{Still}

abbrev pub still_in : Fields → Still
still_in s = record {
  wide = s.wide;
  rows = s.rows;
  reversed = s.reversed;
  line = s.line;
  column = s.column;
}
