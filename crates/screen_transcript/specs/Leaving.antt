-- Which rows leave the screen of a VT100 at its top, by the command and the picture before it. The screen is its main
-- sheet.
use Rattle.std.specs.Prelude.{ℕ, Bool, true, false, ◌&&◌, ◌==◌, List, [], Option, None, Some, if◌then◌else◌}
use Rattle.std.specs.List.{list_any}
use Rattle.screen_transcript.specs.declared.leaving.Leaving.{Leaving}
use Rattle.screen_transcript.specs.declared.leaving.Leaving.TheVariants.{NoRow, FirstRow, InkedRows}
use Rattle.screen_transcript.specs.Rows.{first_row, inked_rows}
use Rattle.vt_parser.specs.declared.commands.Command.{Command}
use Rattle.vt_parser.specs.declared.commands.Command.TheVariants as command
use Rattle.vt_screen.specs.Picture.{Picture}
use Rattle.vt_term.specs.Rows.{named}
use Rattle.vt_term.specs.Controls.{Control, Lf, controls}
use Rattle.vt_term.specs.Escapes.{Escape, Ind, Nel, Ris, escape_named}
use Rattle.vt_term.specs.PrivateModes.{PrivateMode, Deccolm, private_modes, switches}
use Rattle.vt_term.specs.Sequences.{Sequence, Ed, param_or, sequences}
use Rattle.vt_term.specs.Vt52.{Vt52Sequence, EraseDisplay, vt52_sequences}

-- the rows that leave
abbrev pub rows_of : Leaving → Picture → List (List ℕ)
rows_of NoRow p = []
rows_of FirstRow p = first_row p
rows_of InkedRows p = inked_rows p

-- a line feed: row 1 at the bottom margin, where the top margin is 1 (xterm)
abbrev pub at_feed : Picture → Leaving
at_feed p = if p.line == p.bottom && p.top == 1 then FirstRow else NoRow

-- a character that is put, the error character too: a wrap that is pending feeds a line
abbrev pub at_put : Picture → Leaving
at_put p = if p.wrap then at_feed p else NoRow

-- ED, by its part: with 2 all rows, with 0 directly behind home (tmux)
abbrev pub at_erasure : Bool → ℕ → Leaving
at_erasure home part = if part == 2 then InkedRows else (if part == 0 && home then InkedRows else NoRow)

-- LF, VT and FF
abbrev pub at_control : Option Control → Picture → Leaving
at_control (Some Lf) p = at_feed p
at_control _ p = NoRow

-- IND and NEL; RIS: all rows (ours)
abbrev pub at_escape : Option Escape → Picture → Leaving
at_escape (Some Ind) p = at_feed p
at_escape (Some Nel) p = at_feed p
at_escape (Some Ris) p = InkedRows
at_escape _ p = NoRow

abbrev pub at_sequence : Bool → Option Sequence → List ℕ → Leaving
at_sequence home (Some Ed) params = at_erasure home (param_or params 0 0)
at_sequence home _ params = NoRow

-- DECCOLM, set or reset: all rows (ours)
abbrev pub is_deccolm : Option PrivateMode → Bool
is_deccolm (Some Deccolm) = true
is_deccolm _ = false

abbrev pub at_switch : Option Bool → List ℕ → Leaving
at_switch None params = NoRow
at_switch (Some value) params =
    if list_any (λ param. is_deccolm (named private_modes param)) params then InkedRows else NoRow

-- the same erasure in VT52 mode
abbrev pub at_vt52 : Bool → Option Vt52Sequence → Leaving
at_vt52 home (Some EraseDisplay) = at_erasure home 0
at_vt52 home _ = NoRow

-- which rows leave at a command, by whether it comes directly behind home
unfoldable pub leaving : Command → Bool → Picture → Leaving
leaving (command.Show byte) home p = at_put p
leaving command.Error home p = at_put p
leaving (command.Control byte) home p = at_control (named controls byte) p
leaving (command.Esc inter last) home p = at_escape (escape_named inter last) p
leaving (command.Csi true params last) home p = at_switch (named switches last) params.items
leaving (command.Csi false params last) home p = at_sequence home (named sequences last) params.items
leaving (command.Vt52 last) home p = at_vt52 home (named vt52_sequences last)
leaving (command.Vt52Address line column) home p = NoRow
