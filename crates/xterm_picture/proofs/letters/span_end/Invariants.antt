use Rattle.std.proofs.Common.{◌≡◌, ◌+◌, ◌-◌, ◌≤◌, ◌<◌}
use Rattle.xterm_rows.specs.Groups.{group_end}
use Rattle.xterm_rows.proofs.GroupLemmas.{reach}
use Rattle.xterm_picture.specs.Letters.{begins_span}
use Rattle.xterm_picture.proofs.letters.span_end.Given as goal

-- none begins so far
abbrev pub invariant-loop-end : goal.invariant-loop-end
invariant-loop-end l = record {
  low : l.at < l.end;
  high : l.end ≤ l.run.end;
  passed : group_end (begins_span l.cells l.run.before) l.at l.run.end
      ≡ l.end + reach (begins_span l.cells l.run.before) l.end l.run.end;
}

abbrev pub decreases-loop-end : goal.decreases-loop-end
decreases-loop-end l = l.run.end - l.end
