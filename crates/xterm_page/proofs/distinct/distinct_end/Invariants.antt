use Rattle.std.proofs.Common.{◌≡◌, ◌+◌, ◌-◌, ◌<◌, ◌≤◌, ℕ}
use Rattle.sheet.specs.Grid.{origin_of}
use Rattle.xterm_page.proofs.distinct.distinct_end.Given as goal

-- the lines so far came up by as many
abbrev pub invariant-loop-end : goal.invariant-loop-end
invariant-loop-end l = record {
  low : l.fn.from ≤ l.end;
  high : l.end ≤ l.fn.screen.picture.lines + 1;
  within : l.fn.from < l.end → l.end + l.fn.shift ≤ l.fn.screen.picture.lines + 1;
  come : (k : ℕ) → l.fn.from ≤ k → k < l.end → (origin_of l.fn.screen.origins k ≡ k + l.fn.shift) × (k + l.fn.shift ≤ l.fn.distinct);
}

abbrev pub decreases-loop-end : goal.decreases-loop-end
decreases-loop-end l = l.fn.screen.picture.lines + 1 - l.end
