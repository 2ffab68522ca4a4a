use Rattle.std.proofs.Common.{◌≡◌, ◌*◌, ◌≤◌, length, take}
use Rattle.std.specs.List.{flat_map}
use Rattle.xterm_rows.specs.RowText.{characters}
use Rattle.xterm_print.proofs.pieces.character_count.Given as goal

-- those so far were counted
abbrev pub invariant-loop-cell : goal.invariant-loop-cell
invariant-loop-cell l = record {
  counted : l.count ≡ length (flat_map characters (take l.cell-index l.cells));
  few : l.count ≤ 3 * l.cell-index;
}
