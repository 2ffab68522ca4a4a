use Rattle.std.proofs.Common.{◌≡◌, ℕ, Bool, true, ◌+◌, ◌-◌, ◌<◌, ◌≤◌, filter, length}
use Rattle.std.specs.List.{range_with_len}
use Rattle.xterm_print.proofs.moved.push_blocks.Given as goal

-- those so far were added
abbrev pub invariant-loop-line : goal.invariant-loop-line
invariant-loop-line l = record {
  low : l.fn.from ≤ l.line;
  high : l.line ≤ l.fn.to;
  few : length l.changed.items + 1 ≤ l.line;
  changed : (p : ℕ → Bool) → ((k : ℕ) → l.fn.from ≤ k → k < l.line → p k ≡ true)
      → l.fn.changed.items ≡ filter p (range_with_len 1 (l.fn.from - 1)) → l.changed.items ≡ filter p (range_with_len 1 (l.line - 1));
}

abbrev pub decreases-loop-line : goal.decreases-loop-line
decreases-loop-line l = l.fn.to - l.line
