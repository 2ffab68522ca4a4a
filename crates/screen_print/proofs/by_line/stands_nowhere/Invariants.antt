use Rattle.std.proofs.Common.{◌≡◌}
use Rattle.screen_print.specs.ByLine.{count_above}
use Rattle.screen_rows.specs.RowText.{characters}
use Rattle.screen_print.proofs.by_line.stands_nowhere.Given as goal

-- it stands nowhere above this line
abbrev pub invariant-loop-line : goal.invariant-loop-line
invariant-loop-line l = count_above l.sought.text.now l.still l.line (characters l.left) ≡ 0
