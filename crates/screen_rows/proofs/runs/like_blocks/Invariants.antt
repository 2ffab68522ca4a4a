use Rattle.std.proofs.Common.{◌≡◌, ℕ, ◌-◌, ◌<◌, ◌≤◌, length, slice_index_or, true}
use Rattle.vt_screen.specs.Cells.{blank}
use Rattle.screen_rows.specs.Runs.{is_like}
use Rattle.screen_rows.proofs.runs.like_blocks.Given as goal

-- the cells so far are of its kind
abbrev pub invariant-loop-len : goal.invariant-loop-len
invariant-loop-len l = record {
  within : l.len ≤ length l.cells;
  passed : (k : ℕ) → k < l.len → is_like l.one (slice_index_or l.cells k blank) ≡ true;
}

abbrev pub decreases-loop-len : goal.decreases-loop-len
decreases-loop-len l = length l.cells - l.len
