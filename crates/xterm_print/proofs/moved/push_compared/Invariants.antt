use Rattle.std.proofs.Common.{◌≡◌, ℕ, Bool, false, ◌+◌, ◌-◌, ◌<◌, ◌≤◌, not, filter, length}
use Rattle.std.specs.List.{range_with_len}
use Rattle.sheet.specs.Grid.{row_at}
use Rattle.xterm_print.specs.ChangeLines.{same_row}
use Rattle.xterm_print.proofs.moved.push_compared.Given as goal

-- those so far that differ were added; from the first on all do
abbrev pub invariant-loop-line : goal.invariant-loop-line
invariant-loop-line l = record {
  stay : l.rows ≡ l.fn.rows;
  few : length l.changed.items + 1 ≤ l.line;
  changed : (p : ℕ → Bool) → ((k : ℕ) → l.fn.from ≤ k → k < l.line → p k ≡ not (same_row (row_at l.fn.rows k) (row_at l.fn.rows (k + l.fn.shift))))
      → l.fn.changed.items ≡ filter p (range_with_len 1 (l.fn.from - 1)) → l.changed.items ≡ filter p (range_with_len 1 (l.line - 1));
  differ : (k : ℕ) → l.first ≤ k → k < l.line → same_row (row_at l.fn.rows k) (row_at l.fn.rows (k + l.fn.shift)) ≡ false;
}
