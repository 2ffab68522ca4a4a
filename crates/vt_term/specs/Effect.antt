-- What a command does to a terminal, and what the terminal replies.
use Rattle.std.specs.Prelude.{◌≡◌, ℕ, ◌≤◌, Bool, true, false, List, [], map, fold, All, if◌then◌else◌}
use Rattle.std.specs.List.{list_all}
use Rattle.vt_parser.specs.declared.commands.Command.{Command}
use Rattle.vt_parser.specs.declared.commands.Command.TheVariants.{Show, Error, Control, Esc, Csi, Vt52, Vt52Address}
use Rattle.vt_parser.specs.declared.commands.Token.{Token}
use Rattle.vt_parser.specs.declared.commands.Token.TheVariants as token
use Rattle.vt_parser.specs.Syntax.{is_graphic}
use Rattle.vt_parser.specs.Token.{command_of_token}
use Rattle.vt_parser.specs.Law.{IsProper}
use Rattle.vt_screen.specs.Attributes.{Attributes}
use Rattle.vt_screen.specs.Picture.{Picture}
use Rattle.vt_screen.specs.Moves.{placed}
use Rattle.vt_screen.specs.Puts.{shown, run_shown}
use Rattle.vt_screen.specs.CellEdits.{shown_inserting}
use Rattle.vt_screen.specs.Limits.{last_glyph}
use Rattle.vt_term.specs.declared.modes.Modes.{Modes}
use Rattle.vt_term.specs.Rows.{named}
use Rattle.vt_term.specs.Console.{Console, on_picture, effect_of}
use Rattle.vt_term.specs.Sets.{glyph_of, checkerboard, set_in_use}
use Rattle.vt_term.specs.Controls.{controls, control_effect}
use Rattle.vt_term.specs.Escapes.{escape_named, escape_effect}
use Rattle.vt_term.specs.Sequences.{sequences, sequence_effect, param_or}
use Rattle.vt_term.specs.PrivateModes.{switches, modes_set}
use Rattle.vt_term.specs.Vt52.{vt52_sequences, vt52_effect}
use Rattle.vt_term.specs.Replies.{escape_reply, sequence_reply, vt52_reply, reply_of}

-- a glyph is put: in insert mode the cells from the cursor on make room for it (VT102 User Guide, IRM; that this
-- holds in VT52 mode too: ours), else it takes the place of the one there
abbrev pub put_by : Modes → Attributes → ℕ → Picture → Picture
put_by modes rendition glyph p =
    if modes.insert then shown_inserting glyph rendition modes.autowrap p else shown glyph rendition modes.autowrap p

-- a glyph is shown with the current rendition
abbrev pub glyph_shown : ℕ → Console → Console
glyph_shown glyph s = on_picture (put_by s.modes s.rendition glyph) s

-- glyphs are shown one after another
abbrev pub glyphs_shown : List ℕ → Console → Console
glyphs_shown glyphs s = on_picture (λ p. fold (λ q glyph. put_by s.modes s.rendition glyph q) p glyphs) s

-- glyphs are written over those that stand there, one after another
abbrev pub glyphs_written : List ℕ → Console → Console
glyphs_written glyphs s = on_picture (run_shown glyphs s.rendition s.modes.autowrap) s

-- the glyph of a byte in the set in use
abbrev pub glyph_for : Console → ℕ → ℕ
glyph_for s byte = glyph_of (set_in_use s.modes.mode s.sets) byte

-- a control sequence, with `?` or without
abbrev pub control_sequence_effect : Bool → ℕ → List ℕ → Console → Console
control_sequence_effect true last params s = effect_of (modes_set params) (named switches last) s
control_sequence_effect false last params s = effect_of (λ row. sequence_effect row params) (named sequences last) s

-- the effect of a command: of a whole sequence, a control, a character or the error character; a direct cursor address
-- is CUP with line and column (EK-VT100-UG chapter 3)
unfoldable pub effect : Command → Console → Console
effect (Show byte) s = glyph_shown (glyph_for s byte) s
effect Error s = glyph_shown checkerboard s
effect (Control byte) s = effect_of control_effect (named controls byte) s
effect (Esc inter last) s = effect_of escape_effect (escape_named inter last) s
effect (Csi private params last) s = control_sequence_effect private last params.items s
effect (Vt52 last) s = effect_of vt52_effect (named vt52_sequences last) s
effect (Vt52Address line column) s = on_picture (placed line column s.modes.origin) s

-- the reply to a control sequence: to none with `?`
abbrev pub control_sequence_reply : Bool → ℕ → List ℕ → Console → List ℕ
control_sequence_reply true last params s = []
control_sequence_reply false last params s =
    reply_of (λ row. sequence_reply row (param_or params 0 0)) (named sequences last) s

-- the reply to a command, which is sent before its effect; the others have none
unfoldable pub reply : Command → Console → List ℕ
reply (Esc inter last) s = reply_of escape_reply (escape_named inter last) s
reply (Csi private params last) s = control_sequence_reply private last params.items s
reply (Vt52 last) s = reply_of vt52_reply (named vt52_sequences last) s
reply _ s = []

-- Private: the effect of a token: of a run the glyphs of its characters, of any other that of its command
abbrev pub token_effect : Token → Console → Console
token_effect (token.Show run) s = glyphs_shown (map (glyph_for s) run.now) s
token_effect other s = effect (command_of_token other) s

-- Private: the reply to it
abbrev pub token_reply : Token → Console → List ℕ
token_reply (token.Show run) s = []
token_reply other s = reply (command_of_token other) s

-- Private: the numbers of a token are in their ranges
abbrev pub IsProperToken : Token → Type 0
IsProperToken (token.Show run) = All (λ byte. byte ≤ last_glyph) run.now
IsProperToken other = IsProper (command_of_token other)

-- a token as a parser tells it: its characters are graphic, its numbers in their ranges
abbrev pub IsRead : Token → Type 0
IsRead (token.Show run) = list_all is_graphic run.now ≡ true
IsRead other = IsProper (command_of_token other)
