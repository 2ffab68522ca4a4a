-- Private: what is drawn, as it stands in JSON part by part.
use Rattle.std.specs.Prelude.{ℕ, Bool, List, ◌++◌}
use Rattle.std.specs.List.{flat_map}
use Rattle.vt_screen.specs.declared.cell.Row.{Row}
use Rattle.vt_screen.specs.Attributes.{plain}
use Rattle.vt_screen.specs.Cells.{row_at}
use Rattle.vt_screen.specs.Picture.{Picture, columns}
use Rattle.screen_print.specs.EscapedText.{rendition_set_text}
use Rattle.screen_rows.specs.Texts.{text_where}
use Rattle.screen_rows.specs.declared.runs.Run.{Run}
use Rattle.screen_rows.specs.Runs.{runs_of}
use Rattle.screen_cast.specs.Drawn.{ground_text, row_opening, run_text}
use Rattle.screen_cast.specs.Json.{json}

abbrev pub run_part : Bool → Row → Run → List ℕ
run_part reversed row run = json (run_text reversed row run)

abbrev pub runs_part : Bool → Row → List ℕ
runs_part reversed row = flat_map (run_part reversed row) (runs_of row)

-- a row to its last run ..
unfoldable pub row_front : Bool → ℕ → Row → List ℕ
row_front reversed line row = json (row_opening line) ++ runs_part reversed row

-- .. and behind it
unfoldable pub row_rest : ℕ → Bool → Row → List ℕ
row_rest width reversed row =
    json (text_where reversed (ground_text width row)) ++ json (rendition_set_text plain)

abbrev pub row_part : ℕ → Bool → ℕ → Row → List ℕ
row_part width reversed line row = row_front reversed line row ++ row_rest width reversed row

-- the row of a line
unfoldable pub line_part : Picture → Bool → ℕ → List ℕ
line_part p reversed line = row_part (columns p.wide) reversed line (row_at p.rows line)
