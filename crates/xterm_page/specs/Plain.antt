-- Private: characters that stand in a string as they are.
use Rattle.std.specs.Prelude.{◌≡◌, ℕ, ◌<◌, List, [], ◌∷◌}
use Rattle.std.specs.List.{flat_map}
use Rattle.sheet.specs.Cells.{Cell}
use Rattle.screen_page.specs.EntryText.{string_byte}
use Rattle.xterm_rows.specs.RowText.{printed}

-- the characters of cells as they stand in a string
abbrev pub string_of : List Cell → List ℕ
string_of cells = flat_map string_byte (flat_map printed cells)

-- a cell that stands in a string as one byte
pub record IsPlain (cell : Cell) : Type 0 where
  pub low : cell.character < 128
  pub text : flat_map string_byte (printed cell) ≡ cell.character ∷ []
