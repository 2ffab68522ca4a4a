use Rattle.std.proofs.Common.{◌-◌, ◌≤◌, length, take}
use Rattle.std.specs.List.{flat_map}
use Rattle.transcripts.specs.Told.{PutsPart}
use Rattle.xterm_rows.specs.RowText.{printed}
use Rattle.xterm_transcript.proofs.rows.put_cells.Given as goal

-- the cells so far were put
abbrev pub invariant-loop-at : goal.invariant-loop-at
invariant-loop-at g l = record {
  within : l.at ≤ length l.cells;
  puts : PutsPart g.W.Write.contents l.fn.writer l.fn.rows l.writer l.rows (flat_map printed (take l.at l.cells));
}

abbrev pub decreases-loop-at : goal.decreases-loop-at
decreases-loop-at g l = length l.cells - l.at
