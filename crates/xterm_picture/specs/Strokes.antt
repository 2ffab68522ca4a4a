-- The strokes of a row: outlines of the characters that are drawn, and lines under and through cells (ours).
use Rattle.std.specs.Prelude.{ℕ, zero, suc, ◌+◌, ◌-◌, ◌*◌, ◌/◌, ◌%◌, ◌^◌, Bool, not, List, [], ◌∷◌, ◌++◌, codes, decimal, length, nat_le, nat_lt, ◌==◌, ◌&&◌, ◌||◌, if◌then◌else◌}
use Rattle.std.specs.List.{flat_map, range_with_len}
use Rattle.sheet.specs.Cells.{Cell, is_covered}
use Rattle.xterm_rows.specs.Groups.{starts}
use Rattle.xterm_rows.specs.Outlines.{is_braille, outline}
use Rattle.xterm_rows.specs.Runs.{begins, cell_behind, run_at}
use Rattle.xterm_rows.specs.declared.runs.Kind.{Kind}
use Rattle.xterm_rows.specs.declared.runs.Run.{Run}
use Rattle.xterm_picture.specs.Attributes.{stroke_attributes, text_where}

-- ---- the dots of a pattern of Braille (Unicode 21.1), each a square of 3 units

-- whether a dot is raised, by its number from 0
abbrev pub is_raised : ℕ → ℕ → Bool
is_raised pattern dot = pattern / 2 ^ dot % 2 == 1

-- how far right and how far down a dot stands: dots 0 to 2 and 3 to 5 are two columns, 6 and 7 are below them
abbrev pub dot_left : ℕ → ℕ
dot_left dot = if nat_lt dot 3 || (dot == 6) then 1 else 6

abbrev pub dot_top : ℕ → ℕ
dot_top dot = if nat_lt dot 6 then 1 + 5 * (dot % 3) else 16

-- a number that one is more than another, with its sign
abbrev pub difference : ℕ → ℕ → List ℕ
difference one other = if nat_lt one other then 45 ∷ decimal (other - one) else decimal (one - other)

-- a square, told from the corner of the one before it; no space stands before a minus
unfoldable pub square_text : ℕ → ℕ → ℕ → ℕ → List ℕ
square_text left_before top_before left top =
    codes "m" ++ difference left left_before ++ text_where (nat_le top_before top) (32 ∷ [])
    ++ difference top top_before ++ codes "h3v3h-3z"

-- where the last raised dot before a dot stands; in the cell's corner where there is none
abbrev pub left_before : ℕ → ℕ → ℕ
left_before pattern zero = 0
left_before pattern (suc dot) = if is_raised pattern dot then dot_left dot else left_before pattern dot

abbrev pub top_before : ℕ → ℕ → ℕ
top_before pattern zero = 0
top_before pattern (suc dot) = if is_raised pattern dot then dot_top dot else top_before pattern dot

-- a dot, where it is raised
unfoldable pub dot_text : ℕ → ℕ → List ℕ
dot_text pattern dot =
    text_where (is_raised pattern dot)
    (square_text (left_before pattern dot) (top_before pattern dot) (dot_left dot) (dot_top dot))

-- the dots of a pattern
unfoldable pub dots_text : ℕ → List ℕ
dots_text pattern = flat_map (dot_text pattern) (range_with_len 0 8)

-- ---- outlines

-- the outline of a character
unfoldable pub drawn_text : ℕ → List ℕ
drawn_text character = if is_braille character then dots_text (character - 0x2800) else outline character

-- the outline of a character in its place
unfoldable pub shape_text : Cell → ℕ → List ℕ
shape_text cell at = codes "M" ++ decimal (10 * at) ++ codes " 0" ++ drawn_text cell.character

-- the outline of the character at a place; right halves have none
unfoldable pub outline_text : List Cell → ℕ → List ℕ
outline_text cells at =
    text_where (not (is_covered (cell_behind cells at))) (shape_text (cell_behind cells at) at)

-- the outlines of a run
unfoldable pub outlines_text : List Cell → Run → List ℕ
outlines_text cells run = flat_map (outline_text cells) (range_with_len run.before (run.end - run.before))

-- ---- lines

-- a line along a run, so many units down
unfoldable pub line_text : List ℕ → Run → List ℕ
line_text down run =
    codes "M" ++ decimal (10 * run.before) ++ codes " " ++ down ++ codes "h" ++ decimal (10 * (run.end - run.before))
    ++ codes "v2h-" ++ decimal (10 * (run.end - run.before)) ++ codes "z"

-- ---- strokes

-- whether a run has strokes; a concealed one has none (ECMA-48 8.3.117, SGR 8)
abbrev pub is_stroked : Kind → Bool
is_stroked kind =
    not kind.rendition.concealed && (kind.drawn || kind.rendition.underscore || kind.rendition.crossed_out)

-- the outlines of a run and its lines
unfoldable pub lines_text : List Cell → Run → List ℕ
lines_text cells run =
    text_where run.kind.drawn (outlines_text cells run)
    ++ text_where run.kind.rendition.underscore (line_text (codes "17") run)
    ++ text_where run.kind.rendition.crossed_out (line_text (codes "9") run)

-- the path of a run's strokes
unfoldable pub path_text : Bool → List Cell → Run → List ℕ
path_text reversed cells run =
    codes "<path" ++ stroke_attributes reversed run.kind.rendition ++ codes " d=\"" ++ lines_text cells run
    ++ codes "\"/>"

-- the strokes of a run, where it has any
unfoldable pub stroke_text : Bool → List Cell → Run → List ℕ
stroke_text reversed cells run = text_where (is_stroked run.kind) (path_text reversed cells run)

-- the strokes of the run that begins at a place
abbrev pub run_strokes : Bool → List Cell → ℕ → List ℕ
run_strokes reversed cells at = stroke_text reversed cells (run_at cells at)

-- the strokes of cells
unfoldable pub strokes_text : Bool → List Cell → List ℕ
strokes_text reversed cells = flat_map (run_strokes reversed cells) (starts (begins cells) 0 (length cells))
