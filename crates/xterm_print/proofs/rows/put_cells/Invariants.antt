use Rattle.std.proofs.Common.{take}
use Rattle.std.specs.List.{flat_map}
use Rattle.tape_core.specs.Devices.{Gave}
use Rattle.xterm_rows.specs.RowText.{printed}
use Rattle.xterm_print.proofs.rows.put_cells.Given as goal

-- the cells so far have gone out
abbrev pub invariant-loop-cell : goal.invariant-loop-cell
invariant-loop-cell g l = Gave g.W.Write.contents l.fn.writer l.writer (flat_map printed (take l.cell-index l.cells))
