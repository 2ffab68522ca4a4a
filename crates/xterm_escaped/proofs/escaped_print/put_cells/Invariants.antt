use Rattle.std.proofs.Common.{◌≡◌, take}
use Rattle.tape_core.specs.Devices.{Gave}
use Rattle.xterm_escaped.specs.EscapedText.{cells_text, rendition_after}
use Rattle.xterm_escaped.proofs.escaped_print.put_cells.Given as goal

-- the cells so far have gone out
abbrev pub invariant-loop-cell : goal.invariant-loop-cell
invariant-loop-cell g l = record {
  gave : Gave g.W.Write.contents l.fn.writer l.writer (cells_text l.fn.first (take l.cell-index l.cells));
  last : l.last ≡ rendition_after l.fn.first (take l.cell-index l.cells);
}
