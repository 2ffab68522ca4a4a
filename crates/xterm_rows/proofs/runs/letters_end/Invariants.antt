use Rattle.std.proofs.Common.{◌-◌, ◌≤◌, ◌<◌, ℕ, length}
use Rattle.xterm_rows.specs.Letters.{IsLetter}
use Rattle.xterm_rows.specs.Runs.{cell_behind}
use Rattle.xterm_rows.proofs.runs.letters_end.Given as goal

-- the cells so far are letters
abbrev pub invariant-loop-end : goal.invariant-loop-end
invariant-loop-end l = record {
  low : l.fn.at < l.end;
  high : l.end ≤ length l.cells;
  letters : (k : ℕ) → l.fn.at ≤ k → k < l.end → IsLetter l.first.rendition (cell_behind l.cells k);
}

abbrev pub decreases-loop-end : goal.decreases-loop-end
decreases-loop-end l = length l.cells - l.end
