use Rattle.std.proofs.Common.{ℕ, ◌<◌, ◌≤◌}
use Rattle.screen_print.specs.Quiet.{LineStays}
use Rattle.screen_print.specs.Stills.{still_of}
use Rattle.screen_print.proofs.quiet.all_lines_stay.Given as goal

-- the lines so far stay
abbrev pub invariant-loop-line : goal.invariant-loop-line
invariant-loop-line l = (k : ℕ) → 1 ≤ k → k < l.line → LineStays l.text l.before (still_of l.after.console) k
