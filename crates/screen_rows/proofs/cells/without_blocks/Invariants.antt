use Rattle.std.proofs.Common.{◌≡◌, ℕ, ◌<◌, ◌≤◌, length, slice_index_or, true}
use Rattle.vt_screen.specs.Cells.{blank}
use Rattle.screen_rows.specs.Ink.{is_blank}
use Rattle.screen_rows.proofs.cells.without_blocks.Given as goal

-- only blank cells were passed
abbrev pub invariant-loop-len : goal.invariant-loop-len
invariant-loop-len l = record {
  within : l.len ≤ length l.cells;
  passed : (k : ℕ) → l.len ≤ k → k < length l.cells → is_blank (slice_index_or l.cells k blank) ≡ true;
}

abbrev pub decreases-loop-len : goal.decreases-loop-len
decreases-loop-len l = l.len
