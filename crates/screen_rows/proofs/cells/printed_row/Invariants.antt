use Rattle.std.proofs.Common.{◌≡◌, ◌*◌, ◌≤◌, length, take}
use Rattle.std.specs.List.{flat_map}
use Rattle.screen_rows.specs.RowText.{printed}
use Rattle.screen_rows.proofs.cells.printed_row.Given as goal

-- the cells so far are printed, and there is room for the others
abbrev pub invariant-loop-cell : goal.invariant-loop-cell
invariant-loop-cell l = record {
  printed : l.text.bytes ≡ flat_map printed (take l.cell-index l.cell-items);
  short : length l.text.bytes ≤ 3 * l.cell-index;
  few : length l.cell-items ≤ 132;
}
