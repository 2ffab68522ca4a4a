-- The picture: one SVG file that draws a screen on a grid of cells of 10 by 20 units (ours).
use Rattle.std.specs.Prelude.{ℕ, Bool, List, [], ◌∷◌, ◌++◌, codes, if◌then◌else◌}
use Rattle.std.specs.List.{flat_map}
use Rattle.tape_core.specs.Written.{seconds_form}
use Rattle.vt_screen.specs.declared.cell.Row.{Row}
use Rattle.screen_rows.specs.RowText.{printed_line}
use Rattle.screen_print.specs.Stills.{Still}
use Rattle.screen_picture.specs.Cursor.{cursor_text}
use Rattle.screen_picture.specs.Framed.{rows_text}
use Rattle.screen_picture.specs.Grounds.{grounds_text}
use Rattle.screen_picture.specs.Letters.{back_of, escaped, ink_of}

-- how many units wide it is: 80 or 132 cells, and 10 units on either side
abbrev pub width_text : Bool → List ℕ
width_text wide = if wide then codes "1340" else codes "820"

-- the file's own style, so that it needs no other file
unfoldable pub style : List ℕ
style =
    codes "text{font:16.67px 'DejaVu Sans Mono',Menlo,Consolas,'Liberation Mono',monospace;white-space:pre}"
    ++ codes "path{shape-rendering:crispEdges}.i{fill:#ddd}.p{fill:#111}.b{font-weight:bold}.n{fill:none}"
    ++ codes ".k{animation:k 1s step-end infinite}@keyframes k{50%{opacity:.2}}"
    ++ codes "@media print{.i{fill:#111}.p{fill:#fff}}@media print,(prefers-reduced-motion:reduce){.k{animation:none}}"

-- how the file begins, to the moment in its title
unfoldable pub opening_text : Bool → Bool → List ℕ
opening_text wide reversed =
    codes "<svg xmlns=\"http://www.w3.org/2000/svg\" class=\"" ++ ink_of reversed ∷ []
    ++ codes "\" viewBox=\"-10 -10 " ++ width_text wide ++ codes " 500\" width=\"" ++ width_text wide
    ++ codes "\" height=\"500\" role=\"group\" aria-label=\"Screen\" xml:space=\"preserve\"><title>Screen at "

-- the plain print, line by line
abbrev pub printed_text : Bool → List Row → List ℕ
printed_text wide rows = flat_map (printed_line wide) rows

-- the first line to its title's end, the moment in seconds ..
abbrev pub title_text : ℕ → Still → List ℕ
title_text at still = opening_text still.wide still.reversed ++ seconds_form at ++ codes " s</title><desc>"

-- .. and from the style on
abbrev pub style_text : List ℕ
style_text = codes "</desc><style>" ++ style ++ codes "</style>\n"

-- the first line: the title, the plain print, the style
unfoldable pub first_line : ℕ → Still → List ℕ
first_line at still = title_text at still ++ escaped (printed_text still.wide still.rows) ++ style_text

-- the ground of the whole
unfoldable pub sheet_text : Bool → Bool → List ℕ
sheet_text wide reversed =
    codes "<path class=\"" ++ back_of reversed ∷ [] ++ codes "\" d=\"M-10 -10h" ++ width_text wide
    ++ codes "v500h-" ++ width_text wide ++ codes "z\"/>\n"

-- the file: what stands on a screen, and the moment in microseconds
unfoldable pub picture_text : ℕ → Still → List ℕ
picture_text at still =
    (first_line at still ++ sheet_text still.wide still.reversed)
    ++ (grounds_text still.rows ++ rows_text still.reversed still.rows)
    ++ (cursor_text still.reversed still.rows still.line still.column ++ codes "</svg>\n")
