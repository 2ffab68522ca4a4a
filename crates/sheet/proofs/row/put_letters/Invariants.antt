use Rattle.std.proofs.Common.{◌≡◌, ◌+◌, drop, length}
use Rattle.sheet.specs.Edits.{run_written}
use Rattle.sheet.proofs.row.put_letters.Given as goal

-- what is left to write leads to the whole
abbrev pub invariant-loop-i : goal.invariant-loop-i
invariant-loop-i l = record {
  len : length l.cells ≡ length l.fn.cells;
  left : run_written (l.column + l.i) (drop l.i l.letters) l.rendition l.cells ≡ run_written l.column l.letters l.rendition l.fn.cells;
}
