use Rattle.std.proofs.Common.{◌≡◌, ◌+◌, ◌-◌, ◌≤◌, drop, length}
use Rattle.std.specs.List.{prefix_len}
use Rattle.screen_rows.specs.Runs.{is_like}
use Rattle.screen_rows.proofs.runs.like_len.Given as goal

-- the cells so far are of its kind
abbrev pub invariant-loop-len : goal.invariant-loop-len
invariant-loop-len l = record {
  within : l.len ≤ length l.cells;
  passed : prefix_len (is_like l.one) l.cells ≡ l.len + prefix_len (is_like l.one) (drop l.len l.cells);
}

abbrev pub decreases-loop-len : goal.decreases-loop-len
decreases-loop-len l = length l.cells - l.len
