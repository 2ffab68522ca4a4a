-- The state text: a text that makes of any terminal of a size the one that it was made of (ours).
use Rattle.std.specs.Prelude.{ℕ, ◌-◌, zero, suc, Bool, not, List, [], ◌∷◌, ◌++◌, Option, Some, None, length, codes, decimal, ◌==◌, ◌&&◌, ◌||◌, if◌then◌else◌}
use Rattle.vt_parser.specs.declared.states.ParserState.{ParserState}
use Rattle.vt_parser.specs.Syntax.{escape}
use Rattle.parser_state.specs.PendingText.{pending_text}
use Rattle.sheet.specs.declared.rendition.Rendition.{Rendition}
use Rattle.sheet.specs.Cells.{Cell, cell_at, is_wide}
use Rattle.sheet.specs.Edits.{character_column}
use Rattle.sheet.specs.Grid.{row_at}
use Rattle.xterm_screen.specs.Picture.{Picture}
use Rattle.xterm_screen.specs.Sheets.{main_rows}
use Rattle.xterm_screen.specs.Tabs.{stop_at}
use Rattle.xterm_rows.specs.RowText.{printed}
use Rattle.xterm_term.specs.declared.modes.Modes.{Modes}
use Rattle.xterm_term.specs.declared.saved.Saved.{Saved}
use Rattle.xterm_term.specs.declared.sets.Sets.{Sets}
use Rattle.xterm_term.specs.declared.sets.CharacterSet.{CharacterSet}
use Rattle.xterm_term.specs.declared.sets.CharacterSet.TheVariants.{Ascii, Uk, SpecialGraphics}
use Rattle.xterm_term.specs.declared.sets.Slot.{Slot}
use Rattle.xterm_term.specs.declared.sets.Slot.TheVariants.{G0, G1}
use Rattle.xterm_term.specs.Console.{Console}
use Rattle.xterm_term.specs.Replies.{reported_line}
use Rattle.xterm_term.specs.Sets.{first_sets}
use Rattle.xterm_escaped.specs.EscapedText.{text_where, no_rendition, same_rendition, rendition_set_text, placed_text, lines_text}

-- ---- anew

-- RIS, whose ESC ends whatever is pending
abbrev pub anew_text : List ℕ
anew_text = escape ∷ codes "c"

-- ---- tab stops

-- HTS at a column of line 1
abbrev pub stop_text : ℕ → List ℕ
stop_text column = placed_text 1 column ++ escape ∷ codes "H"

-- the stops of the first columns
unfoldable pub stops_to : List Bool → ℕ → List ℕ
stops_to tabs zero = []
stops_to tabs (suc n) = stops_to tabs n ++ text_where (stop_at tabs (suc n)) (stop_text (suc n))

-- all stops of so many columns
abbrev pub stops_text : ℕ → List Bool → List ℕ
stops_text columns tabs = escape ∷ codes "[3g" ++ stops_to tabs columns

-- ---- renditions and sets

-- the final byte of SCS
abbrev pub set_byte : CharacterSet → ℕ
set_byte Ascii = 66  -- B
set_byte Uk = 65  -- A
set_byte SpecialGraphics = 48  -- 0

-- SI and SO
abbrev pub slot_byte : Slot → ℕ
slot_byte G0 = 15
slot_byte G1 = 14

-- both sets, and which is invoked
abbrev pub sets_text : Sets → List ℕ
sets_text sets =
    escape ∷ codes "(" ++ set_byte sets.g0 ∷ escape ∷ codes ")" ++ set_byte sets.g1 ∷ slot_byte sets.invoked ∷ []

-- a rendition and the sets, whatever is in force
abbrev pub in_force_text : Rendition → Sets → List ℕ
in_force_text rendition sets = rendition_set_text rendition ++ sets_text sets

-- ---- a sheet

-- the sets that were saved
abbrev pub sets_of : Saved → Sets
sets_of saved = record { g0 = saved.g0; g1 = saved.g1; invoked = saved.invoked }

-- A cursor is saved where it stands, with what else DECSC saves. A wrap is pending at the last column alone: a space is
-- put there, which on a blank row without rendition changes no cell.
abbrev pub kept_text : Saved → List ℕ
kept_text saved =
    text_where saved.origin (escape ∷ codes "[?6h")
    ++ placed_text saved.line saved.column
    ++ text_where saved.wrap (codes " ")
    ++ in_force_text saved.rendition (sets_of saved)
    ++ escape ∷ codes "7"

abbrev pub saved_text : Option Saved → List ℕ
saved_text None = []
saved_text (Some saved) = kept_text saved

-- all of it is taken back: line 1 column 1, no DECOM, no rendition, ASCII
abbrev pub canvas_text : List ℕ
canvas_text = escape ∷ codes "[?6l" ++ in_force_text no_rendition first_sets

-- what was saved of a blank sheet that is shown, and its lines as the escaped print has them
abbrev pub sheet_text : Option Saved → List (List Cell) → List ℕ
sheet_text saved rows = saved_text saved ++ canvas_text ++ lines_text no_rendition 1 rows

-- the rows of the alternate sheet, whichever is shown
abbrev pub alternate_rows : Picture → List (List Cell)
alternate_rows p = if p.alternate then p.rows else p.other

-- the rows of the main or the alternate sheet
abbrev pub sheet_rows : Bool → Picture → List (List Cell)
sheet_rows alternate p = if alternate then alternate_rows p else main_rows p

-- the main sheet, then the alternate one, and which of them is shown
abbrev pub sheets_text : Console → List ℕ
sheets_text s =
    sheet_text s.main_saved (main_rows s.picture)
    ++ rendition_set_text no_rendition ++ escape ∷ codes "[?1047h"
    ++ sheet_text s.alternate_saved (alternate_rows s.picture)
    ++ text_where (not s.picture.alternate) (escape ∷ codes "[?1047l")

-- ---- margins and the cursor

-- DECSTBM
abbrev pub margins_text : ℕ → ℕ → List ℕ
margins_text top bottom = escape ∷ codes "[" ++ decimal top ++ codes ";" ++ decimal bottom ++ codes "r"

-- CUP to a column of the cursor's line, which is counted from the top margin where DECOM is set
abbrev pub column_text : Bool → Picture → ℕ → List ℕ
column_text origin p column = placed_text (reported_line origin p.line p.top) column

-- where the character begins that lies at a column of the cursor's line, and its cell
abbrev pub begin_of : Picture → ℕ → ℕ
begin_of p column = character_column column (row_at p.rows p.line)

abbrev pub cell_of : Picture → ℕ → Cell
cell_of p column = cell_at (row_at p.rows p.line) (begin_of p column)

-- the character at the last column once more, as it is
abbrev pub wrapped_text : Bool → Picture → List ℕ
wrapped_text origin p =
    rendition_set_text (cell_of p p.columns).rendition
    ++ column_text origin p (begin_of p p.columns)
    ++ printed (cell_of p p.columns)

-- DECOM, the cursor, and where a wrap is pending the character at the last column
abbrev pub cursor_text : Bool → Picture → List ℕ
cursor_text origin p =
    text_where origin (escape ∷ codes "[?6h")
    ++ column_text origin p p.column
    ++ text_where p.wrap (wrapped_text origin p)

-- ---- modes

-- DECKPAM or DECKPNM
abbrev pub keypad_text : Bool → List ℕ
keypad_text application = if application then escape ∷ codes "=" else escape ∷ codes ">"

-- the modes that aren't as they are at first: DECCKM, DECSCNM, DECAWM, DECTCEM, LNM and IRM; and the keypad either way,
-- behind which there is no last character
abbrev pub modes_text : Modes → List ℕ
modes_text modes =
    text_where modes.cursor_keys (escape ∷ codes "[?1h")
    ++ text_where modes.reverse_screen (escape ∷ codes "[?5h")
    ++ text_where (not modes.autowrap) (escape ∷ codes "[?7l")
    ++ text_where (not modes.cursor_shown) (escape ∷ codes "[?25l")
    ++ text_where modes.newline (escape ∷ codes "[20h")
    ++ text_where modes.insert (escape ∷ codes "[4h")
    ++ keypad_text modes.application_keypad

-- ---- the last character

-- The last character lies at the cursor where a wrap is pending. Where DECAWM is reset and the cursor is in the last
-- column it may lie there too, and the cell decides: it is there where it is that character in the rendition in force,
-- and has no marks, which it wouldn't have got there, but for one of width 2.
abbrev pub is_at_cursor : Console → ℕ → Bool
is_at_cursor s character =
    let p = s.picture in
    let cell = cell_of p p.columns in
    p.wrap
    || (not s.modes.autowrap && p.column == p.columns
    && cell.character == character && same_rendition cell.rendition s.rendition && (is_wide cell || length cell.marks == 0))

-- else it lies left of the cursor
abbrev pub last_column : Console → ℕ → ℕ
last_column s character = if is_at_cursor s character then s.picture.column else s.picture.column - 1

-- DCH of a character's width
abbrev pub taken_out_text : Bool → List ℕ
taken_out_text wide = if wide then escape ∷ codes "[2P" else escape ∷ codes "[1P"

-- the character that lies at a column is put over itself with its marks, in insert mode where it was taken out
abbrev pub again_text : Console → ℕ → List ℕ
again_text s column =
    let p = s.picture in
    column_text s.modes.origin p (begin_of p column)
    ++ text_where s.modes.insert (taken_out_text (is_wide (cell_of p column)))
    ++ printed (cell_of p column)

abbrev pub last_text : Console → Option ℕ → List ℕ
last_text s None = []
last_text s (Some character) = again_text s (last_column s character)

-- ---- the whole text

-- what is behind the sheets
abbrev pub closing_text : Console → List ℕ
closing_text s =
    margins_text s.picture.top s.picture.bottom
    ++ cursor_text s.modes.origin s.picture
    ++ in_force_text s.rendition s.sets
    ++ modes_text s.modes
    ++ last_text s s.last
    ++ text_where s.title (escape ∷ codes "k")

-- of a console, a parser's state and the bytes of a character that isn't finished
unfoldable pub state_text : Console → ParserState → List ℕ → List ℕ
state_text s state character =
    anew_text ++ stops_text s.picture.columns s.picture.tabs ++ sheets_text s ++ closing_text s
    ++ pending_text state ++ character
