-- The strokes of a row: outlines of the glyphs that are drawn, and lines under cells (ours).
use Rattle.std.specs.Prelude.{ℕ, ◌*◌, Bool, List, [], ◌∷◌, ◌++◌, codes, decimal, ◌||◌}
use Rattle.std.specs.List.{flat_map, range_with_len}
use Rattle.vt_screen.specs.declared.cell.Row.{Row}
use Rattle.screen_rows.specs.Texts.{text_where}
use Rattle.screen_rows.specs.declared.runs.Kind.{Kind}
use Rattle.screen_rows.specs.declared.runs.Run.{Run}
use Rattle.screen_picture.specs.Letters.{back_of, class_text}
use Rattle.screen_rows.specs.Outlines.{outline}
use Rattle.screen_rows.specs.Runs.{cell_behind, runs_of}

-- k for blink, and the ground's class where the run is reversed
abbrev pub stroke_classes : Bool → Kind → List ℕ
stroke_classes reversed kind =
    text_where kind.blink (107 ∷ []) ++ text_where kind.reverse (back_of reversed ∷ [])

-- the outline of the cell behind so many others, in its place
abbrev pub outline_text : Row → ℕ → List ℕ
outline_text row before =
    codes "M" ++ decimal (10 * before) ++ codes " 0" ++ outline (cell_behind row.cells before).glyph

-- the outlines of a run
abbrev pub outlines_text : Row → Run → List ℕ
outlines_text row run = flat_map (outline_text row) (range_with_len run.before run.len)

-- the line under a run, 17 units down
abbrev pub underline_text : Run → List ℕ
underline_text run =
    codes "M" ++ decimal (10 * run.before) ++ codes " 17h" ++ decimal (10 * run.len)
    ++ codes "v1h-" ++ decimal (10 * run.len) ++ codes "z"

-- whether a run has strokes
abbrev pub is_stroked : Kind → Bool
is_stroked kind = kind.drawn || kind.underscore

-- the strokes of a run
abbrev pub stroke_text : Bool → Row → Run → List ℕ
stroke_text reversed row run =
    text_where (is_stroked run.kind)
    (codes "<path" ++ class_text (stroke_classes reversed run.kind) ++ codes " d=\""
    ++ text_where run.kind.drawn (outlines_text row run)
    ++ text_where run.kind.underscore (underline_text run) ++ codes "\"/>")

-- the strokes of a row
unfoldable pub strokes_text : Bool → Row → List ℕ
strokes_text reversed row = flat_map (stroke_text reversed row) (runs_of row)
