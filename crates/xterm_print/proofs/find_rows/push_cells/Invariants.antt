use Rattle.std.proofs.Common.{◌≡◌, ◌-◌, ◌≤◌, length, take}
use Rattle.std.specs.List.{flat_map}
use Rattle.xterm_rows.specs.RowText.{characters}
use Rattle.xterm_print.specs.FindRows.{columns_from}
use Rattle.xterm_print.proofs.find_rows.push_cells.Given as goal

-- the characters of the cells so far were put
abbrev pub invariant-loop-at : goal.invariant-loop-at
invariant-loop-at l = record {
  high : l.at ≤ length l.cells;
  characters : l.row.characters ≡ flat_map characters (take l.at l.cells);
  columns : l.row.columns ≡ columns_from 1 (take l.at l.cells);
  runs_on : l.row.runs_on ≡ l.fn.row.runs_on;
}

abbrev pub decreases-loop-at : goal.decreases-loop-at
decreases-loop-at l = length l.cells - l.at
