use Rattle.std.proofs.Common.{◌≡◌, ◌≤◌, length, map, take}
use Rattle.screen_rows.specs.Glyphs.{character}
use Rattle.screen_print.proofs.standing.row_text.Given as goal

-- the cells so far are characters
abbrev pub invariant-loop-cell : goal.invariant-loop-cell
invariant-loop-cell l = record {
  text : l.text.items ≡ map (λ cell. character cell.glyph) (take l.cell-index l.cell-items);
  short : length l.text.items ≤ l.cell-index;
  few : length l.cell-items ≤ 132;
}
