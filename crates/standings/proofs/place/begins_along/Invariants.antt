use Rattle.std.proofs.Common.{◌≡◌, ◌≤◌, drop, length, nat_eq}
use Rattle.std.specs.List.{starts_with}
use Rattle.standings.specs.Rows.{row_below}
use Rattle.standings.specs.Standing.{begins, line_text}
use Rattle.standings.proofs.place.begins_along.Given as goal

-- the rows so far have the front of the text, and what is left of it is looked for in what is left of the line
abbrev pub invariant-loop-at : goal.invariant-loop-at
invariant-loop-at l = record {
  told : starts_with nat_eq (drop l.from (line_text (drop l.at l.rows))) l.rest ≡ begins l.text (line_text l.rows) l.before;
  fits : l.from ≤ length (row_below l.rows l.at).characters;
}
