use Rattle.std.proofs.Common.{◌≡◌, ◌+◌, ◌-◌, ◌≤◌, ◌<◌, drop, length, take}
use Rattle.held.specs.Held.{Wrote}
use Rattle.xterm_page.specs.Plain.{string_of}
use Rattle.xterm_rows.specs.Groups.{group_end}
use Rattle.xterm_rows.specs.Runs.{begins}
use Rattle.xterm_rows.proofs.GroupLemmas.{reach}
use Rattle.xterm_page.proofs.rows.put_characters.Given as goal

-- the cells so far have gone out, and none of them but the first begins a run
abbrev pub invariant-loop-end : goal.invariant-loop-end
invariant-loop-end g l = record {
  low : l.at < l.end;
  high : l.end ≤ length l.cells;
  passed : group_end (begins l.cells) l.at (length l.cells) ≡ l.end + reach (begins l.cells) l.end (length l.cells);
  gave : Wrote g.W.Write.contents l.fn.writer l.fn.held.items l.writer l.held.items (string_of (take (l.end - l.at) (drop l.at l.cells)));
}

abbrev pub decreases-loop-end : goal.decreases-loop-end
decreases-loop-end g l = length l.cells - l.end
