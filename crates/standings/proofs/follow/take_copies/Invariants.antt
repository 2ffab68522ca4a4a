use Rattle.std.proofs.Common.{◌≡◌, ℕ, ◌-◌, ◌<◌, ◌≤◌, length}
use Rattle.standings.specs.Rows.{row_below}
use Rattle.standings.proofs.follow.take_copies.Given as goal

-- those so far became the others, and the rest is as it was
abbrev pub invariant-loop-above : goal.invariant-loop-above
invariant-loop-above l = record {
  count : length l.rows ≡ length l.fn.rows;
  same : length l.copies ≡ length l.fn.copies;
  taken : (k : ℕ) → l.fn.from ≤ k → k < l.above → row_below l.rows k ≡ row_below l.others k;
  above : (k : ℕ) → k < l.fn.from → row_below l.rows k ≡ row_below l.fn.rows k;
  below : (k : ℕ) → l.above ≤ k → row_below l.rows k ≡ row_below l.fn.rows k;
  left : (k : ℕ) → l.above - l.fn.from ≤ k → row_below l.copies k ≡ row_below l.fn.copies k;
}
