use Rattle.std.proofs.Common.{◌≡◌, ◌+◌, ◌-◌, ◌≤◌, ◌++◌, All, drop, length}
use Rattle.screen_print.specs.FindLines.{line_text_from, places_in, row_texts}
use Rattle.screen_print.specs.Places.{IsPlace}
use Rattle.screen_print.proofs.standing.push_begun.Given as goal

-- the columns so far were tried
abbrev pub invariant-loop-column : goal.invariant-loop-column
invariant-loop-column l = record {
  placed : l.places.items ≡ l.fn.places.items ++ places_in l.text l.line (line_text_from (drop (l.line - 1) (row_texts l.still))) (l.column - 1);
  short : length l.places.items + 1 ≤ length l.fn.places.items + l.column;
  within : All (IsPlace l.still) l.places.items;
}
