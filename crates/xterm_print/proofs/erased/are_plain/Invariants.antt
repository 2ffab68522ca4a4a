use Rattle.std.proofs.Common.{◌<◌, ℕ}
use Rattle.xterm_rows.specs.Runs.{cell_behind}
use Rattle.xterm_print.specs.Pieces.{IsPlain}
use Rattle.xterm_print.proofs.erased.are_plain.Given as goal

-- those so far are plain
abbrev pub invariant-loop-cell : goal.invariant-loop-cell
invariant-loop-cell l = (k : ℕ) → k < l.cell-index → IsPlain (cell_behind l.cells k)
