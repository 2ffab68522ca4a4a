use Rattle.std.proofs.Common.{◌≡◌, ℕ, ◌+◌, ◌-◌, ◌<◌, ◌≤◌}
use Rattle.sheet.specs.Grid.{origin_of}
use Rattle.xterm_print.proofs.moved.past_moved.Given as goal

-- those so far moved up by as many lines
abbrev pub invariant-loop-end : goal.invariant-loop-end
invariant-loop-end l = record {
  some : l.fn.line < l.end;
  within : l.end + l.fn.shift ≤ l.fn.screen.picture.lines + 1;
  moved : (k : ℕ) → l.fn.line ≤ k → k < l.end → origin_of l.fn.screen.origins k ≡ k + l.fn.shift;
}

abbrev pub decreases-loop-end : goal.decreases-loop-end
decreases-loop-end l = l.fn.screen.picture.lines + 1 - l.end
