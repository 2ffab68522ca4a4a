use Rattle.std.proofs.Common.{◌≡◌, ◌-◌, ◌≤◌, length, take}
use Rattle.std.specs.List.{flat_map}
use Rattle.xterm_rows.specs.RowText.{characters}
use Rattle.xterm_print.specs.FindRows.{columns_from}
use Rattle.xterm_print.proofs.find_rows.write_over.Given as goal

-- the characters of the cells so far stand in the row
abbrev pub invariant-loop-at : goal.invariant-loop-at
invariant-loop-at l = record {
  high : l.at ≤ l.end;
  within : l.end ≤ length l.cells;
  count : length l.row.characters ≡ length l.fn.row.characters;
  places : length l.row.columns ≡ length l.fn.row.columns;
  characters : take l.at l.row.characters ≡ flat_map characters (take l.at l.cells);
  columns : take l.at l.row.columns ≡ columns_from 1 (take l.at l.cells);
}

abbrev pub decreases-loop-at : goal.decreases-loop-at
decreases-loop-at l = l.end - l.at
