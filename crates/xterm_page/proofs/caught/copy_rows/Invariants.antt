use Rattle.std.proofs.Common.{◌≡◌, ℕ, ◌+◌, ◌<◌, ◌≤◌, length}
use Rattle.sheet.specs.Grid.{row_at}
use Rattle.xterm_page.proofs.caught.copy_rows.Given as goal

-- those so far are copies
abbrev pub invariant-loop-line : goal.invariant-loop-line
invariant-loop-line l = record {
  whole : length l.rows ≡ length l.fn.rows;
  before : (k : ℕ) → 1 ≤ k → k < l.fn.from → row_at l.rows k ≡ row_at l.fn.rows k;
  copied : (columns : ℕ) → ((k : ℕ) → l.fn.from ≤ k → k < l.fn.end + l.fn.shift → length (row_at l.fn.rows k) ≡ columns) → (k : ℕ)
      → l.fn.from ≤ k → k < l.line → row_at l.rows k ≡ row_at l.fn.rows (k + l.fn.shift);
  behind : (k : ℕ) → l.line ≤ k → row_at l.rows k ≡ row_at l.fn.rows k;
}
