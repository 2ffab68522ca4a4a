-- The rows of a screen as a transcript has them.
use Rattle.std.specs.Prelude.{ℕ, Bool, List, [], ◌∷◌, map, take}
use Rattle.std.specs.List.{flat_map}
use Rattle.screen_rows.specs.RowText.{printed, trimmed}
use Rattle.transcripts.specs.Transcript.{without_blank_end}
use Rattle.vt_screen.specs.declared.cell.Row.{Row}
use Rattle.vt_screen.specs.Cells.{row_at}
use Rattle.vt_screen.specs.Picture.{Picture, margin_of}

-- a row as the plain print has it, without LF
unfoldable pub row_printed : Bool → Row → List ℕ
row_printed wide row = flat_map printed (trimmed (take (margin_of wide row.size) row.cells))

-- row 1 of a screen
abbrev pub first_row : Picture → List (List ℕ)
first_row p = row_printed p.wide (row_at p.rows 1) ∷ []

-- all its rows
abbrev pub all_rows : Picture → List (List ℕ)
all_rows p = map (row_printed p.wide) p.rows

-- those from line 1 to the last that isn't blank
abbrev pub inked_rows : Picture → List (List ℕ)
inked_rows p = without_blank_end (all_rows p)
