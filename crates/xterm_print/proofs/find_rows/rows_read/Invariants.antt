use Rattle.std.proofs.Common.{◌≡◌, ◌+◌, ◌-◌}
use Rattle.sheet.specs.Grid.{row_at}
use Rattle.sheet.specs.Table.{table}
use Rattle.xterm_print.specs.FindRows.{row_read}
use Rattle.xterm_print.proofs.find_rows.rows_read.Given as goal

-- the rows so far were read
abbrev pub invariant-loop-line : goal.invariant-loop-line
invariant-loop-line l = record {
  read : l.rows.items ≡ table (l.line - 1) (λ line. row_read (row_at l.screen.picture.rows line) (row_at l.screen.picture.rows (line + 1)));
}
