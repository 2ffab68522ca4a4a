-- Which rows leave the screen of a terminal of today at its top, by the command and the console before it. Of the alternate
-- sheet none ever does.
use Rattle.std.specs.Prelude.{ℕ, zero, suc, Bool, true, false, not, ◌&&◌, ◌||◌, ◌==◌, min, List, [], ◌++◌, Option, None, Some, if◌then◌else◌}
use Rattle.characters.specs.Width.{width}
use Rattle.vt_parser.specs.declared.commands.Command.{Command}
use Rattle.vt_parser.specs.declared.commands.Command.TheVariants as command
use Rattle.xterm_screen.specs.Picture.{Picture}
use Rattle.xterm_screen.specs.Puts.{overhangs}
use Rattle.xterm_term.specs.Console.{Console}
use Rattle.xterm_term.specs.Controls.{Control, Lf, controls}
use Rattle.xterm_term.specs.Escapes.{Escape, Ind, Nel, Ris, escape_named}
use Rattle.xterm_term.specs.Puts.{character_for, is_c1, put_times}
use Rattle.xterm_term.specs.Rows.{named}
use Rattle.xterm_term.specs.Sequences.{Sequence, Ed, Rep, Su, param_or, sequences}
use Rattle.xterm_transcript.specs.declared.leaving.Leaving.{Leaving}
use Rattle.xterm_transcript.specs.declared.leaving.Leaving.TheVariants.{NoRow, FirstRows, InkedRows, Repeated}
use Rattle.xterm_transcript.specs.Rows.{first_rows, inked_rows}

-- ---- row 1

-- it leaves at a line feed on the bottom margin, where the top margin is 1 (xterm)
abbrev pub feed_leaves : Picture → Bool
feed_leaves p = p.line == p.bottom && p.top == 1 && not p.alternate

-- a character that is shown wraps first: the wrap is pending, or it is of width 2 and finds no room (EK-VT100-UG chapter 3,
-- DECAWM; xterm, tmux)
abbrev pub show_wraps : Bool → Console → Bool
show_wraps wide s = s.picture.wrap || (s.modes.autowrap && overhangs wide s.picture)

-- by its width: a mark joins another
abbrev pub wraps_by_width : ℕ → Console → Bool
wraps_by_width zero s = false
wraps_by_width (suc n) s = show_wraps (n == 1) s

-- row 1 leaves at a character that is put where it wraps; U+0080 to U+009F put nothing (ours)
unfoldable pub put_leaves : ℕ → Console → Bool
put_leaves character s = not (is_c1 character) && wraps_by_width (width character) s && feed_leaves s.picture

-- the rows that leave then
abbrev pub first_if : Bool → Picture → List (List ℕ)
first_if true p = first_rows 1 p
first_if false p = []

abbrev pub put_rows : ℕ → Console → List (List ℕ)
put_rows character s = first_if (put_leaves character s) s.picture

-- those that leave at the same character n times, one after another
abbrev pub repeated_rows : ℕ → ℕ → Console → List (List ℕ)
repeated_rows zero character s = []
repeated_rows (suc n) character s = repeated_rows n character s ++ put_rows character (put_times n character s)

-- at the last character again, n times; none where there is none
abbrev pub last_repeated_rows : ℕ → Option ℕ → Console → List (List ℕ)
last_repeated_rows n None s = []
last_repeated_rows n (Some character) s = repeated_rows n character s

-- ---- by commands

-- the rows that leave
abbrev pub rows_of : Leaving → Console → List (List ℕ)
rows_of NoRow s = []
rows_of (FirstRows count) s = first_rows count s.picture
rows_of InkedRows s = inked_rows s.picture
rows_of (Repeated n) s = last_repeated_rows n s.last s

-- row 1, or none
abbrev pub leaving_first : Bool → Leaving
leaving_first leaves = if leaves then FirstRows 1 else NoRow

-- ED, by its part, while the main sheet is shown: with 2 all rows, with 0 directly behind home (tmux)
abbrev pub at_erasure : Bool → ℕ → Picture → Leaving
at_erasure home part p = if (part == 2 || (part == 0 && home)) && not p.alternate then InkedRows else NoRow

-- SU, where the top margin is 1: as many as there are inside the margins at most (xterm)
abbrev pub at_scroll : ℕ → Picture → Leaving
at_scroll n p = if p.top == 1 && not p.alternate then FirstRows (min n p.bottom) else NoRow

-- LF, VT and FF
abbrev pub at_control : Option Control → Picture → Leaving
at_control (Some Lf) p = leaving_first (feed_leaves p)
at_control _ p = NoRow

-- IND and NEL; RIS: all rows (ours)
abbrev pub at_escape : Option Escape → Picture → Leaving
at_escape (Some Ind) p = leaving_first (feed_leaves p)
at_escape (Some Nel) p = leaving_first (feed_leaves p)
at_escape (Some Ris) p = InkedRows
at_escape _ p = NoRow

abbrev pub at_sequence : Bool → Option Sequence → List ℕ → Picture → Leaving
at_sequence home (Some Ed) params p = at_erasure home (param_or params 0 0) p
at_sequence home (Some Su) params p = at_scroll (param_or params 0 1) p
at_sequence home (Some Rep) params p = Repeated (param_or params 0 1)
at_sequence home _ params p = NoRow

-- which rows leave at a command, by whether it comes directly behind home
unfoldable pub leaving : Command → Bool → Console → Leaving
leaving (command.Show byte) home s = leaving_first (put_leaves (character_for s byte) s)
leaving (command.Control byte) home s = at_control (named controls byte) s.picture
leaving (command.Esc inter last) home s = at_escape (escape_named inter last) s.picture
leaving (command.Csi false params last) home s = at_sequence home (named sequences last) params.items s.picture
leaving _ home s = NoRow
