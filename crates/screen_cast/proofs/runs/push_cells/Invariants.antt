use Rattle.std.proofs.Common.{◌≡◌, ◌+◌, ◌*◌, ◌++◌, ◌≤◌, length, take}
use Rattle.std.specs.List.{flat_map}
use Rattle.screen_cast.specs.Drawn.{cell_text}
use Rattle.screen_cast.specs.Json.{json}
use Rattle.screen_cast.proofs.runs.push_cells.Given as goal

-- the characters so far are laid out
abbrev pub invariant-loop-cell : goal.invariant-loop-cell
invariant-loop-cell l = record {
  laid : l.text.items ≡ l.fn.text.items ++ json (flat_map (cell_text l.size) (take l.cell-index l.cells));
  short : length l.text.items ≤ length l.fn.text.items + 4 * l.cell-index;
}
