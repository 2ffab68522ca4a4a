use Rattle.std.proofs.Common.{ℕ, ◌<◌, ◌≤◌}
use Rattle.screen_print.specs.ByLine.{NonePasses, stands_on_neither}
use Rattle.screen_print.proofs.stood.all_stood.Given as goal

-- all that stands above this line stood at an end
abbrev pub invariant-loop-line : goal.invariant-loop-line
invariant-loop-line l = (line : ℕ) → 1 ≤ line → line < l.line
    → NonePasses l.sought.text.now l.pair.one.now (stands_on_neither l.sought.text.now l.ends.first.now l.ends.last.now) line
