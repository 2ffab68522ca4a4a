-- The grounds of reversed runs (ours).
use Rattle.std.specs.Prelude.{ℕ, ◌-◌, ◌*◌, List, ◌++◌, codes, decimal, if◌then◌else◌}
use Rattle.std.specs.List.{flat_map, range_with_len}
use Rattle.vt_screen.specs.declared.cell.Row.{Row}
use Rattle.vt_screen.specs.declared.cell.Size.{Size}
use Rattle.vt_screen.specs.Cells.{is_single, row_at}
use Rattle.vt_screen.specs.Limits.{line_count}
use Rattle.screen_rows.specs.Texts.{text_where}
use Rattle.screen_rows.specs.declared.runs.Run.{Run}
use Rattle.screen_rows.specs.Runs.{runs_of}

-- what is written of each line in turn
abbrev pub by_line : (ℕ → List ℕ) → List ℕ
by_line text = flat_map text (range_with_len 1 line_count)

-- how many units down a line begins
abbrev pub down : ℕ → ℕ
down line = 20 * (line - 1)

-- how many units wide a cell is on a line of this size
abbrev pub cell_width : Size → ℕ
cell_width size = if is_single size then 10 else 20

-- the ground of a run on a line, where it is reversed
abbrev pub ground_text : ℕ → Size → Run → List ℕ
ground_text line size run =
    text_where run.kind.reverse
    (codes "M" ++ decimal (cell_width size * run.before) ++ codes " " ++ decimal (down line)
    ++ codes "h" ++ decimal (cell_width size * run.len)
    ++ codes "v20h-" ++ decimal (cell_width size * run.len) ++ codes "z")

-- the grounds of a row
abbrev pub row_grounds : List Row → ℕ → List ℕ
row_grounds rows line = flat_map (ground_text line (row_at rows line).size) (runs_of (row_at rows line))

-- the grounds of all rows, one path
unfoldable pub grounds_text : List Row → List ℕ
grounds_text rows =
    codes "<path d=\"" ++ by_line (row_grounds rows) ++ codes "\"/>\n"
