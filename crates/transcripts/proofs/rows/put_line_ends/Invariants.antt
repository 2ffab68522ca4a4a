use Rattle.std.proofs.Common.{◌-◌, ◌≤◌}
use Rattle.std.specs.Prelude.{replicate}
use Rattle.held.specs.Held.{Wrote}
use Rattle.transcripts.proofs.rows.put_line_ends.Given as goal

-- so many of them went out
abbrev pub invariant-loop-put : goal.invariant-loop-put
invariant-loop-put g l = record {
  within : l.put ≤ l.count;
  wrote : Wrote g.W.Write.contents l.fn.writer l.fn.held.items l.writer l.held.items (replicate l.put 10);
}

abbrev pub decreases-loop-put : goal.decreases-loop-put
decreases-loop-put g l = l.count - l.put
