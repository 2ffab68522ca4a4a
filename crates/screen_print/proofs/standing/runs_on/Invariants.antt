use Rattle.std.proofs.Common.{◌≡◌, ◌-◌, ◌<◌, ◌≤◌, drop, length, nat_eq}
use Rattle.std.specs.List.{starts_with}
use Rattle.vt_screen.specs.Cells.{row_at}
use Rattle.screen_print.specs.FindLines.{begins, line_text_from, row_texts}
use Rattle.screen_rows.specs.RowText.{row_text}
use Rattle.screen_print.proofs.standing.runs_on.Given as goal

-- the rows so far have the front of the text, and what is left of it is looked for in what is left of the line
abbrev pub invariant-loop-at : goal.invariant-loop-at
invariant-loop-at l = record {
  told : starts_with nat_eq (drop l.from (line_text_from (drop (l.at - 1) (row_texts l.still)))) l.rest
      ≡ begins l.text (line_text_from (drop (l.line - 1) (row_texts l.still))) l.column;
  fits : l.from ≤ length (row_text l.still.wide (row_at l.still.rows l.at));
  some : l.line < l.at → 1 ≤ length l.rest;
}
