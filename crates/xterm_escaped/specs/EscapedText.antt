-- The escaped print: a text that draws on a reset terminal of the same size what a terminal shows (ours).
use Rattle.std.specs.Prelude.{ℕ, ◌+◌, Bool, not, nat_lt, ◌==◌, ◌&&◌, List, [], ◌∷◌, ◌++◌, length, codes, decimal, if◌then◌else◌}
use Rattle.vt_parser.specs.Syntax.{escape}
use Rattle.sheet.specs.declared.rendition.Colour.{Colour}
use Rattle.sheet.specs.declared.rendition.Colour.TheVariants.{Default, Palette, Direct}
use Rattle.sheet.specs.declared.rendition.Rendition.{Rendition}
use Rattle.sheet.specs.Cells.{Cell, plain_on}
use Rattle.xterm_rows.specs.Ink.{attribute_number, colour_number, inked}
use Rattle.xterm_rows.specs.RowText.{printed}
use Rattle.xterm_term.specs.Console.{Console}

-- a text, or none
abbrev pub text_where : Bool → List ℕ → List ℕ
text_where holds text = if holds then text else []

-- ---- renditions

-- no rendition, as a reset terminal has it: what is in force at the start of the text
abbrev pub no_rendition : Rendition
no_rendition = plain_on Default

-- whether two renditions are one
abbrev pub same_rendition : Rendition → Rendition → Bool
same_rendition r s =
    (attribute_number r == attribute_number s)
    && (colour_number r.ink == colour_number s.ink)
    && (colour_number r.paper == colour_number s.paper)

-- The parameters of a number of the palette, behind 30 for the ink and 40 for the paper: the first eight behind that
-- one, the next eight behind 60 more, the others behind 8 more, 5 and `;` (xterm).
abbrev pub palette_text : ℕ → ℕ → List ℕ
palette_text base n =
    if nat_lt n 8 then decimal (base + n)
    else (if nat_lt n 16 then decimal (base + 52 + n)
    else decimal (base + 8) ++ codes ";5;" ++ decimal n)

-- the parameters of red, green and blue: 8 more, 2 and all three (xterm)
abbrev pub direct_text : ℕ → ℕ → ℕ → ℕ → List ℕ
direct_text base red green blue =
    decimal (base + 8) ++ codes ";2;" ++ decimal red ++ codes ";" ++ decimal green ++ codes ";" ++ decimal blue

-- those of a colour; none for the default one
unfoldable pub colour_text : ℕ → Colour → List ℕ
colour_text base Default = []
colour_text base (Palette n) = palette_text base n
colour_text base (Direct red green blue) = direct_text base red green blue

-- whether a colour isn't the default one
abbrev pub is_told : Colour → Bool
is_told colour = not (colour_number colour == 0)

-- what a rendition has, behind no rendition
unfoldable pub attributes_text : Rendition → List ℕ
attributes_text r =
    text_where r.bold (codes ";1")
    ++ text_where r.faint (codes ";2")
    ++ text_where r.italic (codes ";3")
    ++ text_where r.underscore (codes ";4")
    ++ text_where r.blink (codes ";5")
    ++ text_where r.reverse (codes ";7")
    ++ text_where r.concealed (codes ";8")
    ++ text_where r.crossed_out (codes ";9")

-- its ink, behind these
abbrev pub ink_text : Colour → List ℕ
ink_text ink = text_where (is_told ink) (codes ";" ++ colour_text 30 ink)

-- SGR: no rendition, and then its attributes and its ink
unfoldable pub letters_text : Rendition → List ℕ
letters_text r = escape ∷ codes "[0" ++ attributes_text r ++ ink_text r.ink ++ codes "m"

-- SGR of a paper, by itself, since 16 parameters count
abbrev pub paper_text : Colour → List ℕ
paper_text paper = text_where (is_told paper) (escape ∷ codes "[" ++ colour_text 40 paper ++ codes "m")

-- both, which set a rendition whatever was in force
unfoldable pub rendition_set_text : Rendition → List ℕ
rendition_set_text r = letters_text r ++ paper_text r.paper

-- the same where a rendition isn't the one in force
abbrev pub rendition_text : Rendition → Rendition → List ℕ
rendition_text last next = if same_rendition last next then [] else rendition_set_text next

-- ---- cells

-- a cell: its rendition, and its characters in UTF-8, of which a right half has none
abbrev pub cell_text : Rendition → Cell → List ℕ
cell_text last cell = rendition_text last cell.rendition ++ printed cell

-- cells in turn, where this rendition is in force ..
abbrev pub cells_text : Rendition → List Cell → List ℕ
cells_text last [] = []
cells_text last (cell ∷ cells) = cell_text last cell ++ cells_text cell.rendition cells

-- .. and the one that is in force after them
abbrev pub rendition_after : Rendition → List Cell → Rendition
rendition_after last [] = last
rendition_after last (cell ∷ cells) = rendition_after cell.rendition cells

-- ---- lines

-- CUP
unfoldable pub placed_text : ℕ → ℕ → List ℕ
placed_text line column =
    escape ∷ codes "[" ++ decimal line ++ codes ";" ++ decimal column ++ codes "H"

-- the line of this number: its place and its cells to the last inked one; nothing where there is none
unfoldable pub line_text : Rendition → ℕ → List Cell → List ℕ
line_text last line row =
    text_where (not (length (inked row) == 0)) (placed_text line 1 ++ cells_text last (inked row))

-- the rendition that is in force after it
unfoldable pub rendition_after_line : Rendition → List Cell → Rendition
rendition_after_line last row = rendition_after last (inked row)

-- lines in turn, of which the first has this number ..
unfoldable pub lines_text : Rendition → ℕ → List (List Cell) → List ℕ
lines_text last line [] = []
lines_text last line (row ∷ rows) =
    line_text last line row ++ lines_text (rendition_after_line last row) (line + 1) rows

-- .. and the rendition that is in force after them
unfoldable pub rendition_after_lines : Rendition → List (List Cell) → Rendition
rendition_after_lines last [] = last
rendition_after_lines last (row ∷ rows) = rendition_after_lines (rendition_after_line last row) rows

-- ---- the whole text

-- a reversed screen where it is reversed
abbrev pub opening_text : Console → List ℕ
opening_text s = text_where s.modes.reverse_screen (escape ∷ codes "[?5h")

-- no rendition, a hidden cursor where it is hidden, and its place, which takes a pending wrap away
unfoldable pub closing_text : Console → List ℕ
closing_text s =
    escape ∷ codes "[0m"
    ++ text_where (not s.modes.cursor_shown) (escape ∷ codes "[?25l")
    ++ placed_text s.picture.line s.picture.column

unfoldable pub escaped_text : Console → List ℕ
escaped_text s = opening_text s ++ lines_text no_rendition 1 s.picture.rows ++ closing_text s
