-- The rows of the main sheet as a transcript has them.
use Rattle.std.specs.Prelude.{ℕ, List, map, take}
use Rattle.std.specs.List.{flat_map}
use Rattle.sheet.specs.Cells.{Cell}
use Rattle.transcripts.specs.Transcript.{without_blank_end}
use Rattle.xterm_rows.specs.RowText.{printed, trimmed}
use Rattle.xterm_screen.specs.Picture.{Picture}
use Rattle.xterm_screen.specs.Sheets.{main_rows}

-- a row as the plain print has it, without LF
unfoldable pub row_printed : List Cell → List ℕ
row_printed row = flat_map printed (trimmed row)

-- all rows of the main sheet, also while the alternate one is shown
abbrev pub all_rows : Picture → List (List ℕ)
all_rows p = map row_printed (main_rows p)

-- the first of them
abbrev pub first_rows : ℕ → Picture → List (List ℕ)
first_rows count p = take count (all_rows p)

-- those from line 1 to the last that isn't blank
abbrev pub inked_rows : Picture → List (List ℕ)
inked_rows p = without_blank_end (all_rows p)
