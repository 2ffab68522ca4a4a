use Rattle.std.proofs.Common.{◌≡◌, ◌+◌, ◌*◌, ◌≤◌, ◌++◌, length, take}
use Rattle.screen_print.specs.EscapedText.{cells_text, pen_after}
use Rattle.screen_print.proofs.escaped_print.push_cells.Given as goal

-- the cells so far are written, and there is room for the others
abbrev pub invariant-loop-cell : goal.invariant-loop-cell
invariant-loop-cell l = record {
  text : l.text.items ≡ l.fn.text.items ++ cells_text l.fn.pen (take l.cell-index l.cells);
  pen : l.pen ≡ pen_after l.fn.pen (take l.cell-index l.cells);
  short : length l.text.items ≤ length l.fn.text.items + 14 * l.cell-index;
}
