use Rattle.std.proofs.Common.{◌≡◌, ◌+◌, ◌-◌, ◌*◌, ◌≤◌, ◌++◌, drop, length}
use Rattle.screen_print.specs.FindLines.{row_texts, rows_reaching}
use Rattle.screen_print.proofs.standing.rows_reaching.Given as goal

-- the rows so far are joined, and have too few characters
abbrev pub invariant-loop-at : goal.invariant-loop-at
invariant-loop-at l = record {
  joined : l.text.items ++ rows_reaching l.least (drop (l.at - 1) (row_texts l.still)) ≡ rows_reaching l.fn.least (drop (l.line - 1) (row_texts l.still));
  room : length l.text.items + 132 * l.line ≤ 132 * l.at;
}
