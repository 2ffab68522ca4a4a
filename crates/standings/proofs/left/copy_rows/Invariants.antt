use Rattle.std.proofs.Common.{◌≡◌, ℕ, ◌<◌, ◌≤◌, length}
use Rattle.standings.specs.Rows.{row_below}
use Rattle.standings.proofs.left.copy_rows.Given as goal

-- those so far were copied, and the others are as they were
abbrev pub invariant-loop-above : goal.invariant-loop-above
invariant-loop-above l = record {
  count : length l.rows.items ≡ length l.fn.rows.items;
  copied : (k : ℕ) → l.fn.span.from ≤ k → k < l.above → row_below l.rows.items k ≡ row_below l.others k;
  above : (k : ℕ) → k < l.fn.span.from → row_below l.rows.items k ≡ row_below l.fn.rows.items k;
  below : (k : ℕ) → l.above ≤ k → row_below l.rows.items k ≡ row_below l.fn.rows.items k;
}
