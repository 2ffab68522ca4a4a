use Rattle.std.proofs.Common.{◌≡◌, ◌+◌, ◌-◌, ◌≤◌, length, true}
use Rattle.std.specs.List.{flat_map}
use Rattle.sheet.specs.Grid.{AreMarked as MarksTell, is_touched}
use Rattle.xterm_page.specs.Parts.{AreDistinct, AreLines, AreMarked, AreNumbered, renewed_to, told}
use Rattle.xterm_page.proofs.kept.changed_rows.Given as goal

-- the lines so far were compared, the next one was touched, and the numbers of the first rows are marked
abbrev pub invariant-loop-line : goal.invariant-loop-line
invariant-loop-line l = record {
  low : 1 ≤ l.line;
  high : l.line ≤ l.fn.screen.picture.lines + 1;
  touched : l.line ≤ l.fn.screen.picture.lines → is_touched l.fn.screen.origins l.line ≡ true;
  told : MarksTell l.rows l.fn.screen.origins l.fn.screen.picture.rows → AreDistinct l.rows l.fn.distinct
      → flat_map told l.changed.items ≡ renewed_to (l.line - 1) l.fn.screen.origins l.fn.screen.picture.lines l.rows l.fn.screen.picture.rows;
  lines : AreLines l.fn.screen.picture.lines l.changed.items;
  numbers : AreNumbered l.fn.screen.picture.rows l.changed.items;
  long : length l.marks ≡ 2048;
  marked : AreMarked l.rows l.marked l.marks;
}

abbrev pub decreases-loop-line : goal.decreases-loop-line
decreases-loop-line l = l.fn.screen.picture.lines + 1 - l.line
