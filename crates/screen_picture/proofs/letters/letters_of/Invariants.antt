use Rattle.std.proofs.Common.{◌≡◌, ◌≤◌, ◌*◌, length, take}
use Rattle.std.specs.List.{flat_map}
use Rattle.screen_picture.specs.Letters.{letter_text}
use Rattle.screen_picture.proofs.letters.letters_of.Given as goal

-- the cells so far are characters
abbrev pub invariant-loop-cell : goal.invariant-loop-cell
invariant-loop-cell l = record {
  told : l.text.items ≡ flat_map letter_text (take l.cell-index l.cells);
  short : length l.text.items ≤ 15 * l.cell-index;
}
