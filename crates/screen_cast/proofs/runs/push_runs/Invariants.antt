use Rattle.std.proofs.Common.{◌≡◌, ◌-◌, ◌*◌, ◌<◌, ◌≤◌, length, true}
use Rattle.std.specs.List.{flat_map}
use Rattle.screen_rows.specs.Runs.{begins}
use Rattle.screen_rows.proofs.RunLemmas.{first_runs}
use Rattle.screen_cast.specs.Parts.{run_part}
use Rattle.screen_cast.proofs.runs.push_runs.Given as goal

-- the runs before this place are laid out, and another one begins here
abbrev pub invariant-loop-before : goal.invariant-loop-before
invariant-loop-before l = record {
  laid : l.text.items ≡ flat_map (run_part l.reversed l.row) (first_runs l.cells l.before);
  here : l.before < length l.cells → begins l.cells l.before ≡ true;
  high : l.before ≤ length l.cells;
  short : length l.text.items ≤ 21 * l.before;
}

abbrev pub decreases-loop-before : goal.decreases-loop-before
decreases-loop-before l = length l.cells - l.before
