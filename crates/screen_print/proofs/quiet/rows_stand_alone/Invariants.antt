use Rattle.std.proofs.Common.{ℕ, ◌<◌, ◌≤◌}
use Rattle.screen_print.specs.Quiet.{LineStays}
use Rattle.screen_print.specs.Stills.{still_of}
use Rattle.screen_print.proofs.quiet.rows_stand_alone.Given as goal

-- the rows so far stand alone
abbrev pub invariant-loop-line : goal.invariant-loop-line
invariant-loop-line l = (k : ℕ) → 1 ≤ k → k < l.line → LineStays l.text (still_of l.after.console) (still_of l.after.console) k
