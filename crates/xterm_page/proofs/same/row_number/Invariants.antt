use Rattle.std.proofs.Common.{◌≡◌, ◌≤◌, drop}
use Rattle.xterm_page.specs.Same.{row_number}
use Rattle.xterm_page.proofs.same.row_number.Given as goal

-- the cells from here on are mixed in
abbrev pub invariant-loop-left : goal.invariant-loop-left
invariant-loop-left l = record {
  low : l.left ≤ l.used;
  told : l.number ≡ row_number (drop l.left l.cells);
}

abbrev pub decreases-loop-left : goal.decreases-loop-left
decreases-loop-left l = l.left
