-- Which lines of the sheet that is shown each chunk changes, and how that is written (ours).
use Rattle.std.specs.Prelude.{ℕ, Bool, List, Option, filter, not, ◌==◌, ◌&&◌}
use Rattle.std.specs.Cmp.Lexicographic.{pointwise}
use Rattle.std.specs.Fmt.{decimal}
use Rattle.std.specs.List.{range_with_len}
use Rattle.chunk_walk.specs.ChangeLine.{change_line}
use Rattle.chunk_walk.specs.Walk.{asked_texts}
use Rattle.sheet.specs.Cells.{Cell}
use Rattle.sheet.specs.Grid.{row_at}
use Rattle.sheet.specs.Numbers.{first_number, second_number, style_number, text_number}
use Rattle.tape_core.specs.Tape.{Tape}
use Rattle.xterm_term.specs.declared.measure.Size.{Size}
use Rattle.xterm_term.specs.Term.{play}
use Rattle.xterm_print.specs.Moments.{reset_as}

-- a cell's text, its character and its marks, by its number
abbrev pub text_of : Cell → ℕ
text_of cell = text_number cell.character (first_number cell.marks) (second_number cell.marks)

-- its rendition, and what it holds, by their number
abbrev pub style_of : Cell → ℕ
style_of cell = style_number cell.kind cell.rendition

-- the same text in the same rendition
abbrev pub same_cell : Cell → Cell → Bool
same_cell one other = (text_of one == text_of other) && (style_of one == style_of other)

-- the same cells
abbrev pub same_row : List Cell → List Cell → Bool
same_row one other = pointwise same_cell one other

-- whether the cells of a line differ in text or rendition
abbrev pub is_changed : List (List Cell) → List (List Cell) → ℕ → Bool
is_changed before after line = not (same_row (row_at before line) (row_at after line))

-- the lines that differ, of so many from line 1 on
unfoldable pub changed_lines : ℕ → List (List Cell) → List (List Cell) → List ℕ
changed_lines lines before after = filter (is_changed before after) (range_with_len 1 lines)

-- the rows of the sheet that is shown once these bytes were played
abbrev pub rows_by : Size → List ℕ → List (List Cell)
rows_by size bytes = (play (reset_as size) bytes).console.picture.rows

-- what is written of one chunk, by the bytes that were played before it and by its end
abbrev pub change_text : Size → ℕ → ℕ → List ℕ → List ℕ → List ℕ
change_text size index due before after =
    change_line decimal index due (changed_lines size.lines (rows_by size before) (rows_by size after))

-- the change lines
unfoldable pub change_lines : Size → Tape → Option ℕ → ℕ → List ℕ
change_lines size tape from to = asked_texts change_text size tape from to
