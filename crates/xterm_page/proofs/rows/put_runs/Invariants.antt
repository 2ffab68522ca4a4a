use Rattle.std.proofs.Common.{◌≡◌, ◌-◌, ◌<◌, ◌≤◌, length, true}
use Rattle.held.specs.Held.{Wrote}
use Rattle.xterm_rows.specs.Runs.{begins}
use Rattle.xterm_rows.proofs.GroupLemmas.{groups_to}
use Rattle.xterm_page.specs.Entries.{shown_at}
use Rattle.xterm_page.specs.EntryText.{run_text}
use Rattle.xterm_page.proofs.rows.put_runs.Given as goal

-- the runs before this place have gone out, and another one begins here
abbrev pub invariant-loop-at : goal.invariant-loop-at
invariant-loop-at g l = record {
  gave : Wrote g.W.Write.contents l.fn.writer l.fn.held.items l.writer l.held.items (groups_to (λ at. run_text (shown_at l.cells at)) (begins l.cells) 0 l.at);
  here : l.at < length l.cells → begins l.cells l.at ≡ true;
  high : l.at ≤ length l.cells;
}

abbrev pub decreases-loop-at : goal.decreases-loop-at
decreases-loop-at g l = length l.cells - l.at
