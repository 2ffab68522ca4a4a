use Rattle.std.proofs.Common.{◌≡◌, ◌++◌, ℕ, ◌<◌, ◌≤◌, List, false}
use Rattle.screen_print.specs.FindLines.{begins}
use Rattle.screen_rows.specs.RowText.{characters}
use Rattle.screen_print.proofs.quiet.may_begin_between.Given as goal

-- the text begins in no column so far
abbrev pub invariant-loop-at : goal.invariant-loop-at
invariant-loop-at l = (rest : List ℕ) (column : ℕ) → l.behind < column → column ≤ l.at → begins l.text (characters l.cells ++ rest) column ≡ false
