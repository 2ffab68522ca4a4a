use Rattle.std.proofs.Common.{◌≡◌, ◌-◌, ◌<◌, ◌≤◌, All, length, true}
use Rattle.screen_rows.specs.Runs.{IsRun, begins}
use Rattle.screen_rows.proofs.RunLemmas.{first_runs}
use Rattle.screen_rows.proofs.runs.runs_of.Given as goal

-- the runs that begin so far: the next one begins here
abbrev pub invariant-loop-before : goal.invariant-loop-before
invariant-loop-before l = record {
  told : l.runs.items ≡ first_runs l.cells l.before;
  here : l.before < length l.cells → begins l.cells l.before ≡ true;
  short : length l.runs.items ≤ l.before;
  high : l.before ≤ length l.cells;
  within : All IsRun l.runs.items;
}

abbrev pub decreases-loop-before : goal.decreases-loop-before
decreases-loop-before l = length l.cells - l.before
