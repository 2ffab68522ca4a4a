use Rattle.std.proofs.Common.{◌≡◌, ◌+◌, ◌-◌, ◌≤◌, ◌<◌, length}
use Rattle.xterm_rows.specs.Groups.{group_end}
use Rattle.xterm_rows.proofs.GroupLemmas.{reach}
use Rattle.xterm_picture.specs.Grounds.{begins_ground}
use Rattle.xterm_picture.proofs.grounds.ground_end.Given as goal

-- none begins so far
abbrev pub invariant-loop-end : goal.invariant-loop-end
invariant-loop-end l = record {
  low : l.at < l.end;
  high : l.end ≤ length l.cells;
  passed : group_end (begins_ground l.cells) l.at (length l.cells) ≡ l.end + reach (begins_ground l.cells) l.end (length l.cells);
}

abbrev pub decreases-loop-end : goal.decreases-loop-end
decreases-loop-end l = length l.cells - l.end
