use Rattle.std.proofs.Common.{◌≡◌, ℕ, ◌<◌, ◌≤◌, false}
use Rattle.screen_print.specs.ByLine.{begins_on}
use Rattle.screen_print.proofs.lost.first_standing.Given as goal

-- in the columns so far the text doesn't stand
abbrev pub invariant-loop-column : goal.invariant-loop-column
invariant-loop-column l =
    (column : ℕ) → l.near ≤ column → column < l.column → begins_on l.sought.text.now l.still l.line column ≡ false
