-- The state text: a text that makes of any terminal of a profile the one that it was made of (ours).
use Rattle.std.specs.Prelude.{ℕ, zero, suc, Bool, true, false, List, [], ◌∷◌, ◌++◌, Option, Some, None, codes, decimal, slice_index_or, ◌==◌, ◌&&◌, ◌||◌, if◌then◌else◌}
use Rattle.vt_parser.specs.declared.commands.Mode.{Mode}
use Rattle.vt_parser.specs.declared.commands.Mode.TheVariants.{Ansi, Vt52}
use Rattle.vt_parser.specs.declared.states.ParserState.{ParserState}
use Rattle.vt_parser.specs.Syntax.{escape}
use Rattle.parser_state.specs.PendingText.{pending_text}
use Rattle.vt_screen.specs.declared.cell.Cell.{Cell}
use Rattle.vt_screen.specs.Attributes.{Attributes, plain}
use Rattle.vt_screen.specs.Picture.{Picture, cell}
use Rattle.vt_screen.specs.Tabs.{stop_at}
use Rattle.vt_term.specs.declared.modes.Modes.{Modes}
use Rattle.vt_term.specs.declared.saved.Saved.{Saved}
use Rattle.vt_term.specs.declared.sets.CharacterSet.{CharacterSet}
use Rattle.vt_term.specs.declared.sets.CharacterSet.TheVariants.{Ascii, Uk, SpecialGraphics}
use Rattle.vt_term.specs.declared.sets.Slot.{Slot}
use Rattle.vt_term.specs.declared.sets.Slot.TheVariants.{G0, G1}
use Rattle.vt_term.specs.Console.{Console}
use Rattle.vt_term.specs.Replies.{reported_line}
use Rattle.screen_rows.specs.Texts.{text_where}
use Rattle.screen_print.specs.EscapedText.{first_pen, rendition_set_text, slot_for, byte_for, placed_text, lines_text}

-- ---- anew

-- out of VT52 mode, whose ESC ends whatever is pending, and RIS; in ANSI mode `ESC <` does nothing
abbrev pub anew_text : List ℕ
anew_text = escape ∷ codes "<" ++ escape ∷ codes "c"

-- ---- tab stops

-- HTS at a column of line 1
abbrev pub stop_text : ℕ → List ℕ
stop_text column = placed_text 1 column ++ escape ∷ codes "H"

-- the stops of the first columns
unfoldable pub stops_to : List Bool → ℕ → List ℕ
stops_to tabs zero = []
stops_to tabs (suc n) = stops_to tabs n ++ text_where (stop_at tabs (suc n)) (stop_text (suc n))

-- all stops, of 132 columns: they outlive DECCOLM
abbrev pub stops_text : List Bool → List ℕ
stops_text tabs = escape ∷ codes "[?3h" ++ escape ∷ codes "[3g" ++ stops_to tabs 132

-- ---- what is saved

-- the final byte of SCS
abbrev pub set_byte : CharacterSet → ℕ
set_byte Ascii = 66  -- B
set_byte Uk = 65  -- A
set_byte SpecialGraphics = 48  -- 0

-- SI and SO
abbrev pub slot_byte : Slot → ℕ
slot_byte G0 = 15
slot_byte G1 = 14

-- both sets, and which is invoked
abbrev pub sets_text : CharacterSet → CharacterSet → Slot → List ℕ
sets_text g0 g1 invoked =
    escape ∷ codes "(" ++ set_byte g0 ∷ escape ∷ codes ")" ++ set_byte g1 ∷ slot_byte invoked ∷ []

-- a rendition and the sets, whatever is in force
abbrev pub in_force_text : Attributes → CharacterSet → CharacterSet → Slot → List ℕ
in_force_text rendition g0 g1 invoked = rendition_set_text rendition ++ sets_text g0 g1 invoked

-- A cursor is saved where it stands, with what else DECSC saves. A wrap is pending at the right margin alone, which is
-- 40 or 80 of 80 columns, 66 or 132 of 132: a space is put there, on a line of double width where that is 40 or 66.
abbrev pub kept_text : Saved → List ℕ
kept_text saved =
    text_where (saved.wrap && (saved.column == 40 || saved.column == 80)) (escape ∷ codes "[?3l")
    ++ text_where saved.origin (escape ∷ codes "[?6h")
    ++ placed_text saved.line saved.column
    ++ text_where (saved.wrap && (saved.column == 40 || saved.column == 66)) (escape ∷ codes "#6")
    ++ text_where saved.wrap (codes " ")
    ++ in_force_text saved.rendition saved.g0 saved.g1 saved.invoked
    ++ escape ∷ codes "7"

abbrev pub saved_text : Option Saved → List ℕ
saved_text None = []
saved_text (Some saved) = kept_text saved

-- ---- the picture

-- DECCOLM
abbrev pub columns_text : Bool → List ℕ
columns_text wide = if wide then escape ∷ codes "[?3h" else escape ∷ codes "[?3l"

-- a blank screen of these columns on which the lines of the escaped print are drawn: no DECOM, no wrapping, no
-- rendition, ASCII in G0, which is invoked, special graphics in G1
abbrev pub canvas_text : Bool → List ℕ
canvas_text wide =
    escape ∷ codes "[?6l" ++ columns_text wide ++ escape ∷ codes "[?7l" ++ in_force_text plain Ascii SpecialGraphics G0

-- DECSTBM
abbrev pub margins_text : ℕ → ℕ → List ℕ
margins_text top bottom = escape ∷ codes "[" ++ decimal top ++ codes ";" ++ decimal bottom ++ codes "r"

-- a cell, whatever is in force
abbrev pub cell_again_text : Cell → List ℕ
cell_again_text cell = rendition_set_text cell.rendition ++ slot_byte (slot_for cell.glyph) ∷ byte_for cell.glyph ∷ []

-- DECOM, DECAWM, the cursor, and where a wrap is pending the cell at the margin once more
abbrev pub cursor_text : Picture → Modes → List ℕ
cursor_text p modes =
    text_where modes.origin (escape ∷ codes "[?6h")
    ++ text_where modes.autowrap (escape ∷ codes "[?7h")
    ++ placed_text (reported_line modes.origin p.line p.top) p.column
    ++ text_where p.wrap (cell_again_text (cell p p.line p.column))

-- ---- modes

-- the other modes that are set: DECCKM, DECSCLM, DECSCNM, DECARM, DECINLM, LNM, IRM, and the keypad
abbrev pub modes_text : Modes → List ℕ
modes_text modes =
    text_where modes.cursor_keys (escape ∷ codes "[?1h")
    ++ text_where modes.smooth_scroll (escape ∷ codes "[?4h")
    ++ text_where modes.reverse_screen (escape ∷ codes "[?5h")
    ++ text_where modes.auto_repeat (escape ∷ codes "[?8h")
    ++ text_where modes.interlace (escape ∷ codes "[?9h")
    ++ text_where modes.newline (escape ∷ codes "[20h")
    ++ text_where modes.insert (escape ∷ codes "[4h")
    ++ text_where modes.application_keypad (escape ∷ codes "=")

-- DECLL of each LED that is on
abbrev pub leds_text : List Bool → List ℕ
leds_text leds =
    text_where (slice_index_or leds 0 false) (escape ∷ codes "[1q")
    ++ text_where (slice_index_or leds 1 false) (escape ∷ codes "[2q")
    ++ text_where (slice_index_or leds 2 false) (escape ∷ codes "[3q")
    ++ text_where (slice_index_or leds 3 false) (escape ∷ codes "[4q")

-- VT52 mode, and its graphics, which stay set unseen in ANSI mode
abbrev pub vt52_text : Mode → Bool → List ℕ
vt52_text Ansi false = []
vt52_text Ansi true = escape ∷ codes "[?2l" ++ escape ∷ codes "F" ++ escape ∷ codes "<"
vt52_text Vt52 graphics = escape ∷ codes "[?2l" ++ text_where graphics (escape ∷ codes "F")

-- ---- the whole text

-- what is before the lines, and what is behind them
abbrev pub opening_text : Console → List ℕ
opening_text s = anew_text ++ stops_text s.picture.tabs ++ saved_text s.saved ++ canvas_text s.picture.wide

abbrev pub closing_text : Console → List ℕ
closing_text s =
    margins_text s.picture.top s.picture.bottom
    ++ cursor_text s.picture s.modes
    ++ in_force_text s.rendition s.sets.g0 s.sets.g1 s.sets.invoked
    ++ modes_text s.modes
    ++ leds_text s.leds
    ++ vt52_text s.modes.mode s.sets.vt52_graphics

unfoldable pub state_text : Console → ParserState → List ℕ
state_text s state = opening_text s ++ lines_text first_pen 1 s.picture.rows ++ closing_text s ++ pending_text state
