use Rattle.std.proofs.Common.{◌≡◌, ◌+◌, ◌-◌, ◌*◌, ◌≤◌, ◌++◌, All, drop, length}
use Rattle.screen_print.specs.FindLines.{places_from, row_texts}
use Rattle.screen_print.specs.Places.{IsPlace}
use Rattle.screen_print.proofs.standing.standing.Given as goal

-- the places of the rows so far
abbrev pub invariant-loop-line : goal.invariant-loop-line
invariant-loop-line l = record {
  placed : l.places.items ++ places_from l.text l.line (drop (l.line - 1) (row_texts l.still)) ≡ places_from l.text 1 (row_texts l.still);
  room : length l.places.items + 132 ≤ 132 * l.line;
  within : All (IsPlace l.still) l.places.items;
}
