-- The picture: one SVG file that draws a screen on a grid of cells of 10 by 20 units (ours).
use Rattle.std.specs.Prelude.{ℕ, ◌+◌, ◌*◌, Bool, List, [], ◌∷◌, ◌++◌, codes, decimal, length}
use Rattle.std.specs.List.{flat_map}
use Rattle.sheet.specs.Cells.{Cell}
use Rattle.tape_core.specs.Written.{seconds_form}
use Rattle.xterm_rows.specs.RowText.{trimmed}
use Rattle.xterm_picture.specs.Attributes.{back_of, ink_of}
use Rattle.xterm_picture.specs.Cursor.{cursor_text}
use Rattle.xterm_picture.specs.Framed.{rows_text}
use Rattle.xterm_picture.specs.Grounds.{grounds_text}
use Rattle.xterm_picture.specs.Still.{Still}
use Rattle.xterm_picture.specs.Texts.{letter_text}

-- how many units wide and high it is: its cells, and 10 units on each side
abbrev pub width_of : ℕ → ℕ
width_of columns = 10 * columns + 20

abbrev pub height_of : ℕ → ℕ
height_of lines = 20 * lines + 20

-- the file's own style, so that it needs no other file
unfoldable pub style : List ℕ
style =
    codes "text{font:16.67px 'DejaVu Sans Mono',Menlo,Consolas,'Liberation Mono',monospace;white-space:pre}"
    ++ codes "path{shape-rendering:crispEdges}g:last-child path{shape-rendering:auto}"
    ++ codes "tspan{unicode-bidi:isolate-override}.i{fill:#ddd}.p{fill:#111}.b{font-weight:bold}"
    ++ codes ".t{font-style:italic}.n{fill:none}.k{animation:k 1s step-end infinite}@keyframes k{50%{opacity:.2}}"
    ++ codes "@media print,(prefers-reduced-motion:reduce){.k{animation:none}}"

-- how the file begins, to the moment in its title
unfoldable pub opening_text : Bool → ℕ → ℕ → List ℕ
opening_text reversed width height =
    codes "<svg xmlns=\"http://www.w3.org/2000/svg\" class=\"" ++ ink_of reversed ∷ []
    ++ codes "\" viewBox=\"-10 -10 " ++ decimal width ++ codes " " ++ decimal height
    ++ codes "\" width=\"" ++ decimal width ++ codes "\" height=\"" ++ decimal height
    ++ codes "\" role=\"group\" aria-label=\"Screen\" xml:space=\"preserve\"><title>Screen at "

-- a row as it is printed, in XML, and LF
unfoldable pub plain_line : List Cell → List ℕ
plain_line row = flat_map letter_text (trimmed row) ++ 10 ∷ []

-- the first line: the title with the moment in seconds, the plain print, the style
unfoldable pub first_line : ℕ → Still → List ℕ
first_line at still =
    opening_text still.reversed (width_of still.columns) (height_of (length still.rows)) ++ seconds_form at
    ++ codes " s</title><desc>" ++ flat_map plain_line still.rows
    ++ (codes "</desc><style>" ++ style ++ codes "</style>\n")

-- the ground of the whole
unfoldable pub sheet_text : Bool → ℕ → ℕ → List ℕ
sheet_text reversed width height =
    codes "<path class=\"" ++ back_of reversed ∷ [] ++ codes "\" d=\"M-10 -10h" ++ decimal width
    ++ codes "v" ++ decimal height ++ codes "h-" ++ decimal width ++ codes "z\"/>\n"

-- the file: what stands on a screen, and the moment in microseconds
unfoldable pub picture_text : ℕ → Still → List ℕ
picture_text at still =
    (first_line at still ++ sheet_text still.reversed (width_of still.columns) (height_of (length still.rows)))
    ++ (grounds_text still.rows ++ rows_text still.reversed still.rows)
    ++ (cursor_text still.reversed still.shown still.rows still.line still.column ++ codes "</svg>\n")
