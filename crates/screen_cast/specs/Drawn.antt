-- How rows and the cursor are drawn for a player that has no double sizes, no VT52 mode and no reversed screen (ours).
use Rattle.std.specs.Prelude.{ℕ, ◌-◌, ◌*◌, Bool, true, false, List, [], ◌∷◌, ◌++◌, codes, decimal, length, not, replicate, if◌then◌else◌}
use Rattle.std.specs.List.{flat_map}
use Rattle.vt_parser.specs.Syntax.{escape}
use Rattle.vt_screen.specs.declared.cell.Cell.{Cell}
use Rattle.vt_screen.specs.declared.cell.Row.{Row}
use Rattle.vt_screen.specs.declared.cell.Size.{Size}
use Rattle.vt_screen.specs.Attributes.{Attributes, plain}
use Rattle.vt_screen.specs.Cells.{is_single, row_at}
use Rattle.vt_screen.specs.Picture.{columns}
use Rattle.screen_print.specs.EscapedText.{placed_text, rendition_set_text}
use Rattle.screen_rows.specs.Ink.{inked}
use Rattle.screen_rows.specs.Texts.{text_where}
use Rattle.screen_rows.specs.RowText.{printed}
use Rattle.screen_print.specs.Stills.{Still}
use Rattle.screen_rows.specs.declared.runs.Kind.{Kind}
use Rattle.screen_rows.specs.declared.runs.Run.{Run}
use Rattle.screen_rows.specs.Runs.{cells_of, runs_of}

-- ---- runs

-- whether one of two is so, and not both
abbrev pub is_either : Bool → Bool → Bool
is_either true other = not other
is_either false other = other

-- what a run has, with reverse turned round on a reversed screen; that its glyphs are drawn is no attribute
abbrev pub attributes_in : Bool → Kind → Attributes
attributes_in reversed kind = record {
  bold = kind.bold;
  underscore = kind.underscore;
  blink = kind.blink;
  reverse = is_either reversed kind.reverse;
}

-- a character; on the double sizes it takes two columns, and a space stands behind it
abbrev pub cell_text : Size → Cell → List ℕ
cell_text size cell = printed cell ++ text_where (not (is_single size)) (32 ∷ [])

-- a run: SGR, and its characters
abbrev pub run_text : Bool → Row → Run → List ℕ
run_text reversed row run =
    rendition_set_text (attributes_in reversed run.kind)
    ++ flat_map (cell_text row.size) (cells_of row run)

-- ---- rows

-- what is reversed alone: the ground of a reversed screen
abbrev pub reverse_alone : Attributes
reverse_alone = record { bold = false; underscore = false; blink = false; reverse = true }

-- how many columns so many cells take
abbrev pub columns_taken : Size → ℕ → ℕ
columns_taken size count = if is_single size then count else 2 * count

-- so many columns of that ground
abbrev pub spaces_text : ℕ → List ℕ
spaces_text count = rendition_set_text reverse_alone ++ replicate count 32

-- the ground right of a row's inked cells, up to the last of so many columns
abbrev pub ground_text : ℕ → Row → List ℕ
ground_text width row = spaces_text (width - columns_taken row.size (length (inked row.cells)))

-- how a row begins: its place, no rendition, and EL of the whole row
abbrev pub row_opening : ℕ → List ℕ
row_opening line =
    escape ∷ codes "[" ++ decimal line ++ codes ";1H" ++ rendition_set_text plain ++ escape ∷ codes "[2K"

-- a row of a screen of so many columns: its runs, and on a reversed screen the ground behind them
unfoldable pub row_text : ℕ → Bool → ℕ → Row → List ℕ
row_text width reversed line row =
    row_opening line
    ++ flat_map (run_text reversed row) (runs_of row)
    ++ text_where reversed (ground_text width row)
    ++ rendition_set_text plain

-- the row of a line
abbrev pub line_text : Still → ℕ → List ℕ
line_text still line = row_text (columns still.wide) still.reversed line (row_at still.rows line)

-- ---- the screen

-- the column that a column of a line of this size begins at
abbrev pub column_in : Size → ℕ → ℕ
column_in size column = if is_single size then column else 2 * column - 1

-- the cursor at a line and a column
abbrev pub cursor_text : List Row → ℕ → ℕ → List ℕ
cursor_text rows line column = placed_text line (column_in (row_at rows line).size column)

-- these lines of a screen, and its cursor
unfoldable pub drawn_text : Still → List ℕ → List ℕ
drawn_text still lines =
    flat_map (line_text still) lines ++ cursor_text still.rows still.line still.column
