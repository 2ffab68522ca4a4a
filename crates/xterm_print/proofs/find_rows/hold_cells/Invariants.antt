use Rattle.std.proofs.Common.{◌≡◌, ◌*◌, ◌≤◌, length, take}
use Rattle.std.specs.List.{flat_map}
use Rattle.xterm_rows.specs.RowText.{characters}
use Rattle.xterm_print.specs.FindRows.{columns_from}
use Rattle.xterm_print.proofs.find_rows.hold_cells.Given as goal

-- the characters of the cells so far are held
abbrev pub invariant-loop-at : goal.invariant-loop-at
invariant-loop-at l = record {
  letters : l.letters.items ≡ flat_map characters (take l.at l.cells);
  columns : l.columns.items ≡ columns_from l.column (take l.at l.cells);
  few_letters : length l.letters.items ≤ 3 * l.at;
  few_columns : length l.columns.items ≤ 3 * l.at;
}
