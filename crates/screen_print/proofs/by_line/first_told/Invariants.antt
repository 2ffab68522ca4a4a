use Rattle.std.proofs.Common.{◌≡◌, ℕ, ◌-◌, ◌<◌, ◌≤◌, false, take, true}
use Rattle.screen_print.specs.ByLine.{begins_on, row_on, stands_at_no_end}
use Rattle.screen_print.proofs.by_line.first_told.Given as goal

-- what stands in the columns so far has a left part that stands at an end
abbrev pub invariant-loop-column : goal.invariant-loop-column
invariant-loop-column l = (column : ℕ) → l.near ≤ column → column < l.column → begins_on l.sought.text.now l.still l.line column ≡ true
    → stands_at_no_end l.sought.text.now l.ends (take (column - 1) (row_on l.still l.line)) ≡ false
