-- The escaped print: a text that draws on a reset terminal what a terminal shows (ours).
use Rattle.std.specs.Prelude.{ℕ, ◌+◌, Bool, List, [], ◌∷◌, ◌++◌, length, codes, decimal, nat_lt, ◌==◌, ◌&&◌, if◌then◌else◌}
use Rattle.vt_parser.specs.Syntax.{escape}
use Rattle.vt_screen.specs.declared.cell.Cell.{Cell}
use Rattle.vt_screen.specs.declared.cell.Row.{Row}
use Rattle.vt_screen.specs.declared.cell.Size.{Size}
use Rattle.vt_screen.specs.declared.cell.Size.TheVariants.{Single, Double, Top, Bottom}
use Rattle.vt_screen.specs.Attributes.{Attributes, plain}
use Rattle.vt_screen.specs.Cells.{is_single}
use Rattle.screen_rows.specs.Ink.{inked, same_rendition}
use Rattle.screen_rows.specs.Texts.{text_where}
use Rattle.vt_term.specs.declared.sets.Slot.{Slot}
use Rattle.vt_term.specs.declared.sets.Slot.TheVariants.{G0, G1}
use Rattle.vt_term.specs.Console.{Console}
use Rattle.screen_print.specs.declared.escaped_print.Pen.{Pen}

-- ---- cells

-- no rendition, and G0 invoked: what is in force at the start of the text
abbrev pub first_pen : Pen
first_pen = record { rendition = plain; invoked = G0 }

-- SGR: no rendition, and then what a rendition has
abbrev pub rendition_set_text : Attributes → List ℕ
rendition_set_text a =
    escape ∷ codes "[0"
    ++ text_where a.bold (codes ";1")
    ++ text_where a.underscore (codes ";4")
    ++ text_where a.blink (codes ";5")
    ++ text_where a.reverse (codes ";7")
    ++ codes "m"

-- SGR where a rendition isn't the one in force
abbrev pub rendition_text : Attributes → Attributes → List ℕ
rendition_text last next = if same_rendition last next then [] else rendition_set_text next

-- glyphs below 32 are special graphics, which G1 holds; the others stand in ASCII, which G0 holds
abbrev pub slot_for : ℕ → Slot
slot_for glyph = if nat_lt glyph 32 then G1 else G0

-- SO and SI where the slot isn't the one invoked
abbrev pub slot_text : Slot → Slot → List ℕ
slot_text G0 G0 = []
slot_text G0 G1 = 14 ∷ []  -- SO
slot_text G1 G0 = 15 ∷ []  -- SI
slot_text G1 G1 = []

-- the byte of a glyph in the set of its slot
abbrev pub byte_for : ℕ → ℕ
byte_for glyph = if nat_lt glyph 32 then 95 + glyph else glyph

-- a cell: its rendition, its slot, its byte
abbrev pub cell_text : Pen → Cell → List ℕ
cell_text pen cell =
    rendition_text pen.rendition cell.rendition
    ++ slot_text pen.invoked (slot_for cell.glyph)
    ++ byte_for cell.glyph ∷ []

-- what is in force after a cell
abbrev pub pen_of : Cell → Pen
pen_of cell = record { rendition = cell.rendition; invoked = slot_for cell.glyph }

-- cells in turn ..
abbrev pub cells_text : Pen → List Cell → List ℕ
cells_text pen [] = []
cells_text pen (cell ∷ cells) = cell_text pen cell ++ cells_text (pen_of cell) cells

-- .. and what is in force after them
abbrev pub pen_after : Pen → List Cell → Pen
pen_after pen [] = pen
pen_after pen (cell ∷ cells) = pen_after (pen_of cell) cells

-- ---- lines

-- CUP
abbrev pub placed_text : ℕ → ℕ → List ℕ
placed_text line column =
    escape ∷ codes "[" ++ decimal line ++ codes ";" ++ decimal column ++ codes "H"

-- DECDHL for a half of double height, DECDWL for double width
abbrev pub size_text : Size → List ℕ
size_text Single = []
size_text Top = escape ∷ codes "#3"
size_text Bottom = escape ∷ codes "#4"
size_text Double = escape ∷ codes "#6"

-- whether nothing is written of a line with such cells: it has single width, and none that isn't
-- blank
abbrev pub is_left_out : Size → List Cell → Bool
is_left_out size cells = is_single size && (length cells == 0)

-- the line of this number: its place, its size, its cells
unfoldable pub line_text : Pen → ℕ → Row → List ℕ
line_text pen line row =
    if is_left_out row.size (inked row.cells) then []
    else (placed_text line 1 ++ size_text row.size ++ cells_text pen (inked row.cells))

-- what is in force after it
unfoldable pub pen_after_line : Pen → Row → Pen
pen_after_line pen row = pen_after pen (inked row.cells)

-- lines in turn, of which the first has this number ..
unfoldable pub lines_text : Pen → ℕ → List Row → List ℕ
lines_text pen line [] = []
lines_text pen line (row ∷ rows) =
    line_text pen line row ++ lines_text (pen_after_line pen row) (line + 1) rows

-- .. and what is in force after them
unfoldable pub pen_after_lines : Pen → List Row → Pen
pen_after_lines pen [] = pen
pen_after_lines pen (row ∷ rows) = pen_after_lines (pen_after_line pen row) rows

-- ---- the whole text

-- 132 columns where the screen has them, a reversed screen where it is reversed; no wrapping, special
-- graphics in G1
abbrev pub opening_text : Console → List ℕ
opening_text s =
    text_where s.picture.wide (escape ∷ codes "[?3h")
    ++ text_where s.modes.reverse_screen (escape ∷ codes "[?5h")
    ++ escape ∷ codes "[?7l"
    ++ escape ∷ codes ")0"

-- no rendition, G0, wrapping, and the cursor, its line counted from line 1 whatever DECOM is
abbrev pub closing_text : ℕ → ℕ → List ℕ
closing_text line column =
    escape ∷ codes "[0m" ++ 15 ∷ escape ∷ codes "[?7h" ++ placed_text line column

unfoldable pub escaped_text : Console → List ℕ
escaped_text s =
    opening_text s
    ++ lines_text first_pen 1 s.picture.rows
    ++ closing_text s.picture.line s.picture.column
