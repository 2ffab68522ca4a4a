use Rattle.std.proofs.Common.{◌≡◌}
use Rattle.sheet.specs.Edits.{filled}
use Rattle.sheet.proofs.row.fill.Given as goal

-- the cells so far
abbrev pub invariant-loop-i : goal.invariant-loop-i
invariant-loop-i l = l.cells ≡ filled l.from l.i l.fn.cell l.fn.cells
