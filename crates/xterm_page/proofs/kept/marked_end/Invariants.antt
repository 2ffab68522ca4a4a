use Rattle.std.proofs.Common.{◌≡◌, ◌+◌, ◌-◌, ◌≤◌, ◌<◌, length}
use Rattle.sheet.specs.Grid.{AreTold}
use Rattle.xterm_page.specs.Parts.{AreMarked, CameUp}
use Rattle.xterm_page.proofs.kept.marked_end.Given as goal

-- the lines so far came up, and the numbers of the rows above the next one are marked
abbrev pub invariant-loop-end : goal.invariant-loop-end
invariant-loop-end l = record {
  low : l.fn.from ≤ l.end;
  high : l.end ≤ l.fn.screen.picture.lines + 1;
  within : l.fn.from < l.end → l.end + l.fn.shift ≤ l.fn.screen.picture.lines + 1;
  long : length l.marks ≡ 2048;
  marked : AreMarked l.rows (l.end - 1 + l.fn.shift) l.marks;
  come : AreTold l.rows l.fn.screen.origins l.fn.screen.picture.rows
      → CameUp l.fn.screen.origins l.fn.screen.picture.lines l.rows l.fn.screen.picture.rows l.fn.from l.end l.fn.shift;
}

abbrev pub decreases-loop-end : goal.decreases-loop-end
decreases-loop-end l = l.fn.screen.picture.lines + 1 - l.end
