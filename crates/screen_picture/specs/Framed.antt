-- Where a row stands, and how far it is stretched (ours).
use Rattle.std.specs.Prelude.{ℕ, Bool, List, ◌++◌, codes, decimal}
use Rattle.vt_screen.specs.declared.cell.Row.{Row}
use Rattle.vt_screen.specs.declared.cell.Size.{Size}
use Rattle.vt_screen.specs.declared.cell.Size.TheVariants.{Single, Double, Top, Bottom}
use Rattle.vt_screen.specs.Cells.{row_at}
use Rattle.screen_picture.specs.Grounds.{by_line, down}
use Rattle.screen_picture.specs.Letters.{letters_text}
use Rattle.screen_picture.specs.Strokes.{strokes_text}

-- a row is moved down to its line; double width stretches it to twice the width, and a half of double height shows
-- its upper or its lower half twice as large
abbrev pub frame_open : Size → ℕ → List ℕ
frame_open Single line = codes "<g transform=\"translate(0 " ++ decimal (down line) ++ codes ")\">"
frame_open Double line = codes "<g transform=\"matrix(2 0 0 1 0 " ++ decimal (down line) ++ codes ")\">"
frame_open Top line =
    codes "<svg y=\"" ++ decimal (down line) ++ codes "\" width=\"1320\" height=\"20\" viewBox=\"0 0 660 10\">"
frame_open Bottom line =
    codes "<svg y=\"" ++ decimal (down line) ++ codes "\" width=\"1320\" height=\"20\" viewBox=\"0 10 660 10\">"

abbrev pub frame_close : Size → List ℕ
frame_close Single = codes "</g>\n"
frame_close Double = codes "</g>\n"
frame_close Top = codes "</svg>\n"
frame_close Bottom = codes "</svg>\n"

-- what is drawn on a row, as a line of the file
abbrev pub framed : Size → ℕ → List ℕ → List ℕ
framed size line drawn = frame_open size line ++ drawn ++ frame_close size

-- a row: its letters and its strokes
abbrev pub row_text : Bool → List Row → ℕ → List ℕ
row_text reversed rows line =
    let row = row_at rows line in
    framed row.size line (letters_text reversed row ++ strokes_text reversed row)

-- the rows, a line for each
unfoldable pub rows_text : Bool → List Row → List ℕ
rows_text reversed rows = by_line (row_text reversed rows)
